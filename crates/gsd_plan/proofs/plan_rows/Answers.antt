-- `gsd_plan::plan_rows` meets its contract.
use mathlib.Core.Path.{refl}
use native.Mathlib.Omega.{arith}
use borrow.Author.Rules.{rules}
use Rattle.gsd_plan.proofs.Image.{use-need, use-found, use-small}
use Rattle.gsd_plan.proofs.Tests.{plans-refused, plans-made}
use Rattle.gsd_plan.proofs.AskedRows.{sheet-long, rows-laid, bytes_small, entries-small, sites-need}
use Rattle.gsd_plan.proofs.Sited.{placed, sited, data-long, sites_long, room-met, countable, first_small, names-laid}
use Rattle.gsd_plan.proofs.PlanMatch.{matches}
use Rattle.gsd_plan.proofs.plan_rows.Goals as goal

pub row_count-rows-requires : goal.row_count-rows-requires
row_count-rows-requires c = sheet-long c.requires.sees c.requires.asked

pub end_of_use-requires : goal.end_of_use-requires
end_of_use-requires c =
    let said = use-need _ _ c.requires.sees in
    record { index = said.0; names = said.1.0; chunks = said.1.1 }

pub place_data-position-requires : goal.place_data-position-requires
place_data-position-requires c = record { laid = rows-laid c.requires.sees c.requires.asked _ c.row_count-rows.ensures (search rules); start = use-small _ _ c.requires.sees _ (use-found _ _ c.requires.sees _ c.end_of_use.ensures) }

pub returns-then-len-position : goal.returns-then-len-position
returns-then-len-position c =
    let here = placed (c.requires.sees, c.requires.asked) c.row_count-rows.ensures c.end_of_use.ensures c.place_data-position.ensures in
    plans-refused _ _ _ 28 _ _ (data-long here c.if-len-position.true) refl

pub overflow_add-listed : goal.overflow_add-listed
overflow_add-listed c = omega (arith, bytes_small c.requires.sees c.requires.asked (λ i. omega (arith, c.type_inv.sheet i)))

pub overflow_add-survey : goal.overflow_add-survey
overflow_add-survey c = omega (arith, entries-small c.requires.sees c.requires.asked _ c.row_count-rows.ensures)

pub find_sites-sites-requires : goal.find_sites-sites-requires
find_sites-sites-requires c =
    let said = sites-need c.requires.sees c.requires.asked _ c.row_count-rows.ensures _ c.if-len-position.false (λ i. omega (arith, c.type_inv.sheet i)) in
    record { position = said.0; bytes = said.1.0; count = said.1.1.0; slots = said.1.1.1.0; segments = said.1.1.1.1 }

pub returns-then-len-sites : goal.returns-then-len-sites
returns-then-len-sites c =
    let here = placed (c.requires.sees, c.requires.asked) c.row_count-rows.ensures c.end_of_use.ensures c.place_data-position.ensures in
    plans-refused _ _ _ 28 _ _ (sites_long (sited here c.find_sites-sites.ensures) c.if-len-sites.true) refl

pub overflow_add-names : goal.overflow_add-names
overflow_add-names c =
    let here = placed (c.requires.sees, c.requires.asked) c.row_count-rows.ensures c.end_of_use.ensures c.place_data-position.ensures in
    omega (arith, first_small (sited here c.find_sites-sites.ensures) c.if-len-sites.false _ c.block_at-names.ensures)

pub place_names-requires-clause-laid : goal.place_names-requires-clause-laid
place_names-requires-clause-laid c =
    let here = placed (c.requires.sees, c.requires.asked) c.row_count-rows.ensures c.end_of_use.ensures c.place_data-position.ensures in
    let first = first_small (sited here c.find_sites-sites.ensures) c.if-len-sites.false _ c.block_at-names.ensures in
    names-laid here (λ i. omega (arith, c.type_inv.sheet i))

pub place_names-requires-clause-first : goal.place_names-requires-clause-first
place_names-requires-clause-first c =
    let here = placed (c.requires.sees, c.requires.asked) c.row_count-rows.ensures c.end_of_use.ensures c.place_data-position.ensures in
    let first = first_small (sited here c.find_sites-sites.ensures) c.if-len-sites.false _ c.block_at-names.ensures in
    first

pub put_numbers-requires : goal.put_numbers-requires
put_numbers-requires c =
    let here = placed (c.requires.sees, c.requires.asked) c.row_count-rows.ensures c.end_of_use.ensures c.place_data-position.ensures in
    countable (sited here c.find_sites-sites.ensures) c.if-len-sites.false

pub returns : goal.returns
returns c =
    let here = placed (c.requires.sees, c.requires.asked) c.row_count-rows.ensures c.end_of_use.ensures c.place_data-position.ensures in
    let sites = sited here c.find_sites-sites.ensures in
    plans-made _ _ _ _ (room-met sites c.if-len-sites.false) (matches sites _ c.block_at-names.ensures _ c.place_names.ensures _ c.put_numbers.ensures)
