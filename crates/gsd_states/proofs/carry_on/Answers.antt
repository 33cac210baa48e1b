-- `gsd_states::carry_on` meets its contract.
use native.Mathlib.Omega.{arith}
use Rattle.gsd_states.proofs.States.{carried-made, carried-image, carried-count}
use Rattle.gsd_states.proofs.carry_on.Goals as goal

pub invariant_of-extents : goal.invariant_of-extents
invariant_of-extents c = record { sound = rw c.plan_of-plan.ensures c.requires.ready.sound }

pub turn-turned-requires : goal.turn-turned-requires
turn-turned-requires c = record { ready = rw c.plan_of-plan.ensures c.requires.ready; cursor = c.seek-from.ensures.cursor }

pub overflow_add-done : goal.overflow_add-done
overflow_add-done c =
    record {
      fits = carried-count c.args.words.now _ c.plan_of-plan.ensures c.seek-from.ensures c.turn-turned.ensures _ c.requires.ready
          (omega (arith, c.fits-words 405));
    }

pub returns : goal.returns
returns c =
    let words = c.args.words.now in
    let front = c.plan_of-plan.ensures in
    record {
      made = carried-made words _ front c.seek-from.ensures c.turn-turned.ensures;
      image = carried-image words _ front c.seek-from.ensures c.turn-turned.ensures;
      words = c.put_marks.ensures;
    }
