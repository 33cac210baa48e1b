-- `gsd_listing::Page::put_listing` meets its contract: the survey says what the definition asks of the image.
use mathlib.Core.Path.{sym, ◌∙◌, ap}
use mathlib.Core.List.{[], ◌∷◌, ◌++◌}
use native.Mathlib.Omega.{arith}
use Rattle.gsd_format.specs.Ascii.{ascii}
use Rattle.gsd_format.specs.Entries.{entries_of}
use Rattle.gsd_format.specs.Listing.{fields, entry_lines, counts_line, listing}
use Rattle.gsd_format.proofs.Listing.{listing-open, listing-refused}
use Rattle.gsd_open.proofs.Surveys.{refused_on, many-names, entries-within}
use Rattle.gsd_listing.proofs.Page.put_listing.Goals as goal

pub put_entries-requires-clause-count_in_bounds : goal.put_entries-requires-clause-count_in_bounds
put_entries-requires-clause-count_in_bounds c =
    let told = c.in-Ok.ensures.found in
    omega (arith, told.entries, entries-within c.args.image.now told.opens, c.requires.empty, c.put_line.ensures.bound)

pub returns-in-Ok-clause-text : goal.returns-in-Ok-clause-text
returns-in-Ok-clause-text c =
    let img = c.args.image.now in
    let told = c.in-Ok.ensures.found in
    c.put_entries.ensures.text
    ∙ ap (λ s. s ++ entry_lines (entries_of img))
    (rw c.requires.empty at c.put_line.ensures.line ∙ c.counts_line.ensures
    ∙ (λ i. counts_line (told.frames i) (many-names img _ _ told i) (told.entries i)))
    ∙ sym (listing-open img told.opens)

pub returns-in-Ok-clause-bound : goal.returns-in-Ok-clause-bound
returns-in-Ok-clause-bound c =
    let told = c.in-Ok.ensures.found in
    omega (arith, told.entries, entries-within c.args.image.now told.opens, c.requires.empty, c.put_entries.ensures.bound, c.put_line.ensures.bound)

pub returns-in-Err-clause-text : goal.returns-in-Err-clause-text
returns-in-Err-clause-text c =
    let img = c.args.image.now in
    let number = refused_on img (λ n. ascii "refused" ++ fields (n ∷ [])) (listing img) (listing-refused img) c.in-Err.why c.in-Err.ensures.number in
    rw c.requires.empty at c.put_line-in-Err.ensures.line ∙ c.refused_line.ensures
    ∙ ap (λ n. ascii "refused" ++ fields (n ∷ [])) c.number.ensures ∙ number
