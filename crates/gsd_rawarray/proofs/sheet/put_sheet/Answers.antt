-- Table, name and data in a row are all of the slice.
use mathlib.Core.Path.{◌∙◌, ap}
use Rattle.gsd_format.specs.Bytes.{stored}
use native.Mathlib.Omega.{arith}
use Rattle.gsd_rawarray.proofs.Requests.{request-passed}
use Rattle.gsd_rawarray.proofs.Sheets.{data-inside, data-part, sheet-written}
use Rattle.gsd_rawarray.proofs.sheet.put_sheet.Goals as goal

pub put_table-requires : goal.put_table-requires
put_table-requires c =
    let passed = request-passed _ _ _ c.requires.passed in
    record { said = c.requires.said; short = omega (arith, passed.short); inside = omega (arith, passed.exact) }

pub put_text-requires : goal.put_text-requires
put_text-requires c = omega (arith, (request-passed _ _ _ c.requires.passed).exact)

pub copy_part-requires : goal.copy_part-requires
copy_part-requires c =
    let passed = request-passed _ _ _ c.requires.passed in
    let said = c.requires.said in
    record { there = omega (arith, data-inside _ passed.file.whole, said.start, said.size); inside = omega (arith, passed.exact, said.size) }

pub returns : goal.returns
returns c =
    let passed = request-passed _ _ _ c.requires.passed in
    let said = c.requires.said in
    sheet-written _ _ _ _ _ _ passed.file.whole passed.exact c.put_table.ensures c.put_text.ensures
    (c.copy_part.ensures ∙ ap (stored _ _) (data-part _ _ _ said.start said.size))
