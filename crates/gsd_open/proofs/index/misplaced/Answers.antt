-- By the version: the least key alone, or also the last frame of the id, which is then written.
use Prim.Native.Nat.{◌+◌}
use mathlib.Core.Path.{sym, ◌∙◌, ap}
use mathlib.Core.Bool.{true≢false}
use native.Mathlib.Omega.{arith}
use lib.Dec.{ltb}
use borrow.Author.Tests.{lt-ltb, le-ltb, eq-eqb, ne_eqb}
use Rattle.gsd_format.specs.Entries.{key_of}
use Rattle.gsd_format.proofs.Refusals.{left-holds, right-decides}
use Rattle.gsd_open.proofs.EntryTests.{place-10, place-recent, noted-10, noted-recent}
use Rattle.gsd_open.proofs.index.misplaced.Goals as goal

pub returns-then-not-is_10 : goal.returns-then-not-is_10
returns-then-not-is_10 c =
    let x = c.args in
    let recent = sym c.is_10.ensures ∙ c.if-not-is_10.true in
    record { value = ap (λ k. ltb k x.least) c.key_of.ensures.answer ∙ sym (place-recent x.version recent x.least _ x.e); kept = λ _. sym (noted-recent x.version recent _ x.e) }

pub returns-then-e-least : goal.returns-then-e-least
returns-then-e-least c =
    let x = c.args in
    let is = sym c.is_10.ensures ∙ c.if-not-is_10.false in
    record { value = sym (place-10 x.version is x.least _ x.e ∙ left-holds _ _ (lt-ltb (key_of (x.e.frame + 1) 0) x.least (omega arith))); kept = λ f. absurd (true≢false f) }

pub bounds-last-e : goal.bounds-last-e
bounds-last-e c =
    let is = sym c.is_10.ensures ∙ c.if-not-is_10.false in
    omega (arith, c.requires.room is)

pub returns-then-last-e : goal.returns-then-last-e
returns-then-last-e c =
    let x = c.args in
    let is = sym c.is_10.ensures ∙ c.if-not-is_10.false in
    let rises = le-ltb (key_of (x.e.frame + 1) 0) x.least (omega arith) in
    record { value = sym (place-10 x.version is x.least _ x.e ∙ right-decides _ _ rises ∙ eq-eqb _ _ c.if-last-e.true); kept = λ f. absurd (true≢false f) }

pub bounds-last-e-2 : goal.bounds-last-e-2
bounds-last-e-2 c =
    let is = sym c.is_10.ensures ∙ c.if-not-is_10.false in
    omega (arith, c.requires.room is)

pub returns : goal.returns
returns c =
    let x = c.args in
    let is = sym c.is_10.ensures ∙ c.if-not-is_10.false in
    let rises = le-ltb (key_of (x.e.frame + 1) 0) x.least (omega arith) in
    record { value = sym (place-10 x.version is x.least _ x.e ∙ right-decides _ _ rises ∙ ne_eqb _ _ c.if-last-e.false); kept = λ _. sym (noted-10 x.version is _ x.e) }
