-- The entries passed were good; what they and the rest say together is what the whole list says.
use Prim.Native.Nat.{ℕ, ◌+◌, ◌*◌, ◌-◌, max}
use mathlib.Core.Path.{◌≡◌, refl, ◌∙◌, ap}
use mathlib.Core.List.{◌∷◌}
use native.Mathlib.Nat.{add-zero, sub-zero}
use native.Mathlib.Omega.{arith}
use lib.ListN.{length}
use Rattle.std.proofs.lemmas.Result.{err_from_is_err_and}
use Rattle.gsd_format.specs.Entries.{entries_at}
use Rattle.gsd_format.proofs.Entries.{entries_none}
use Rattle.gsd_format.proofs.Walk.{rest_more, rest_end}
use Rattle.gsd_open.proofs.EntryTests.{passed_none, noted-long, test-told, told-good, told-sound, passed-more}
use Rattle.gsd_open.proofs.EntryTests.{walk_ends, walk-refuses}
use Rattle.gsd_open.proofs.index.Placed.walk_by.Goals as goal

pub loop-i-init : goal.loop-i-init
loop-i-init c = record { entries = refl; long = refl; passed = rw (add-zero c.args.self.layout.index, sub-zero) (passed_none _ _ _ _ c.requires.unnoted) }

pub returns-in_err-check_entry-clause-number : goal.returns-in_err-check_entry-clause-number
returns-in_err-check_entry-clause-number c =
    let slots = c.args.self.layout.slots in
    let i = c.loop-i.i in
    let e = c.entry_at-e.result in
    let passed = c.loop-i.invariant.passed in
    let told = test-told _ _ c.args.self.few _ _ _ _ _ _ passed e in
    let rest = rest_more _ _ (slots - i) (slots - (i + 1)) e (omega arith) c.entry_at-e.ensures c.if-e-eq0.false in
    let p = err_from_is_err_and c.from_residual.result c.from_residual.ensures.1 in
    rw (p.1, p.2) (walk-refuses _ _ _ _ _ _ _ _ e _ _ passed rest (c.in_err-check_entry.ensures.value ∙ told))

pub key_of-requires : goal.key_of-requires
key_of-requires c = (told-sound _ _ c.args.self.few _ _ _ _ _ _ c.loop-i.invariant.passed c.entry_at-e.result c.in_ok-check_entry.ensures.value).early

pub overflow_add-walk-in-loop-i : goal.overflow_add-walk-in-loop-i
overflow_add-walk-in-loop-i c =
    let sound = told-sound _ _ c.args.self.few _ _ _ _ _ _ c.loop-i.invariant.passed c.entry_at-e.result c.in_ok-check_entry.ensures.value in
    omega (arith, c.key_of.ensures.bound, sound.early)

pub overflow_add-e : goal.overflow_add-e
overflow_add-e c =
    let sound = told-sound _ _ c.args.self.few _ _ _ _ _ _ c.loop-i.invariant.passed c.entry_at-e.result c.in_ok-check_entry.ensures.value in
    omega (arith, sound.high, c.chunk_bytes-size.ensures.fits)

pub loop-i-preserved : goal.loop-i-preserved
loop-i-preserved c =
    let e = c.entry_at-e.result in
    let l = c.args.self.layout in
    let few = c.args.self.few in
    let passed = c.loop-i.invariant.passed in
    let i = c.loop-i.i in
    let good = c.in_ok-check_entry.ensures.value in
    let next : l.index + 32 * i + 32 ≡ l.index + 32 * (i + 1) = omega arith in
    let rest =
    rest_more _ _ (l.slots - i) (l.slots - (i + 1)) e (omega arith) c.entry_at-e.ensures c.if-e-eq0.false
    ∙ ap (λ (at : ℕ). e ∷ entries_at c.args.image.now at (l.slots - (i + 1))) next in
    let sound = told-sound _ _ few _ _ _ _ _ _ passed e good in
    let whole = c.chunk_bytes-size.ensures.exact (omega (arith, sound.within, c.args.self.good, c.args.self.short)) in
    let end = c.max.ensures ∙ ap (λ (k : ℕ). max c.loop-i.walk.chunks_end (e.location + k)) whole in
    let noted = c.in_ok-check_entry.ensures.kept in
    let least = ap (λ (k : ℕ). k + 1) c.key_of.ensures.answer in
    record {
      entries = refl;
      long = ap length noted ∙ noted-long _ _ e ∙ c.loop-i.invariant.long;
      passed = passed-more _ _ few _ _ _ _ _ _ passed e _ _ _ _ rest (told-good _ _ few _ _ _ _ _ _ passed e good) least end noted;
    }

pub returns-after-loop-i : goal.returns-after-loop-i
returns-after-loop-i c =
    let none : c.args.self.layout.slots - c.loop-i.i ≡ 0 = omega arith in
    let (number, walk) = walk_ends _ _ _ _ _ _ _ _ c.loop-i.invariant.passed (ap (entries_at _ _) none ∙ entries_none _ _) in
    record { number = number; walk = rw c.loop-i.invariant.entries walk }

pub returns-then-e-eq0 : goal.returns-then-e-eq0
returns-then-e-eq0 c =
    let end = rest_end _ _ _ c.entry_at-e.result c.entry_at-e.ensures c.if-e-eq0.true in
    let (number, walk) = walk_ends _ _ _ _ _ _ _ _ c.loop-i.invariant.passed end in
    record { number = number; walk = rw c.loop-i.invariant.entries walk }
