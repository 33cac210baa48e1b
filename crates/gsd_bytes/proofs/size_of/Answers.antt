-- `gsd_bytes::size_of` meets its contract: its table is that of the definition.
use Rattle.std.proofs.Common.{sym, ⊎_elim, arith}
use Rattle.gsd_format.specs.Types.{size_of}
use Rattle.gsd_format.proofs.Types.{size-at, size_none}
use Rattle.gsd_bytes.proofs.size_of.Goals as goal

pub returns-in-1-clause-answer : goal.returns-in-1-clause-answer
unfolding size_of
returns-in-1-clause-answer c = ⊎_elim (size-at 1 _) (⊎_elim (size-at 5 _) (size-at 11 _)) c.in-1.is

pub returns-in-2-clause-answer : goal.returns-in-2-clause-answer
unfolding size_of
returns-in-2-clause-answer c = ⊎_elim (size-at 2 _) (size-at 6 _) c.in-2.is

pub returns-in-3-clause-answer : goal.returns-in-3-clause-answer
unfolding size_of
returns-in-3-clause-answer c = ⊎_elim (size-at 3 _) (⊎_elim (size-at 7 _) (size-at 9 _)) c.in-3.is

pub returns-in-4-clause-answer : goal.returns-in-4-clause-answer
unfolding size_of
returns-in-4-clause-answer c = ⊎_elim (size-at 4 _) (⊎_elim (size-at 8 _) (size-at 10 _)) c.in-4.is

pub returns-in_default-clause-answer : goal.returns-in_default-clause-answer
returns-in_default-clause-answer c = sym (size_none c.args.kind (λ l. grind arith))
