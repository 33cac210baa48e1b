-- The columns are one or three.
use Rattle.std.proofs.Common.{◌≡◌, ◌*◌, refl, sym, ap, ◌∙◌, arith}
use native.Mathlib.Nat.{mul-one, le-mul_of_pos_right}
use Rattle.gsd_format.specs.Bytes.{stored}
use Rattle.gsd_body.specs.Body.{body_of}
use Rattle.gsd_body.proofs.Bodies.{second-of, body-as}
use Rattle.gsd_body.proofs.put_body.Goals as goal

pub overflow_mul-values : goal.overflow_mul-values
overflow_mul-values g c = omega (arith, le-mul_of_pos_right (c.args.n * c.args.m) g.met.F.Bits.Pattern.some)

pub put_column-requires : goal.put_column-requires
put_column-requires g c =
    let one = c.if-m-eq1.true in
    let all : c.args.n * c.args.m ≡ c.args.n = ap (λ m. c.args.n * m) one ∙ mul-one c.args.n in
    rw all (rw (one, mul-one) at c.requires.to)

pub returns-then-m-eq1 : goal.returns-then-m-eq1
returns-then-m-eq1 g c =
    let one = c.if-m-eq1.true in
    body-as _ _ _ 1 _ _ _ _ _ refl one
    (c.put_column.ensures ∙ (λ t. stored c.args.file.now 28 (body_of g.F.Bits.Pattern.kind c.args.image.now c.args.at 1 ((ap (λ m. c.args.n * m) one ∙ mul-one c.args.n) t))))

pub put_columns-requires : goal.put_columns-requires
put_columns-requires g c =
    let three = second-of _ 1 3 c.requires.columns c.if-m-eq1.false in
    record { rows = ap (λ m. c.args.n * m) (sym three); to = rw three at c.requires.to }

pub returns : goal.returns
returns g c = body-as _ _ _ 3 _ _ _ _ _ refl (second-of _ 1 3 c.requires.columns c.if-m-eq1.false) c.put_columns.ensures
