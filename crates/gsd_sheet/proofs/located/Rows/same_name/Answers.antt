-- `gsd_sheet::located::Rows::same_name` meets its contract.
use mathlib.Core.Path.{sym, ◌∙◌, ap}
use native.Mathlib.Omega.{arith}
use lib.ListN.{length}
use Rattle.gsd_format.proofs.Bytes.{ne_same}
use Rattle.gsd_sheet.specs.Rows.{name_of}
use Rattle.gsd_sheet.proofs.Rows.{located-room, located-name, located-length}
use Rattle.gsd_sheet.proofs.located.Rows.same_name.Goals as goal

pub returns-then-self-j : goal.returns-then-self-j
returns-then-self-j c =
    let s = c.args.self.now.sheet.now in
    sym (ne_same (name_of s c.args.i) (name_of s c.args.j) (λ e. c.if-self-j.true
    (sym (located-length c.args.self.now.located c.args.j (omega arith)) ∙ sym (ap length e) ∙ located-length c.args.self.now.located c.args.i (omega arith))))

pub same_part-requires : goal.same_part-requires
same_part-requires c = record { first = omega (arith, located-room c.args.self.now.located c.args.i (omega arith), located-room c.args.self.now.located c.args.j (omega arith)); second = omega (arith, located-room c.args.self.now.located c.args.i (omega arith), located-room c.args.self.now.located c.args.j (omega arith)) }

pub returns : goal.returns
returns c =
    c.same_part.ensures
    ∙ rw (located-name c.args.self.now.located c.args.i (omega arith), located-name c.args.self.now.located c.args.j (omega arith), c.if-self-j.false)
