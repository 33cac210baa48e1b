-- `gsd_sheet::located::Rows::zero_name` meets its contract.
use mathlib.Core.Path.{sym, ◌∙◌}
use native.Mathlib.Omega.{arith}
use Rattle.gsd_sheet.proofs.Rows.{located-room, located-zero}
use Rattle.gsd_sheet.proofs.located.Rows.zero_name.Goals as goal

pub has_zero-requires : goal.has_zero-requires
has_zero-requires c =
    let said = located-room c.args.self.now.located c.args.i (omega arith) in
    record { ordered = said.0; inside = said.1 }

pub returns : goal.returns
returns c = c.has_zero.ensures ∙ sym (located-zero c.args.self.now.located c.args.i (omega arith))
