-- What the survey tells of the names is said of them by is_10's answer.
use Rattle.gsd_open.proofs.Surveys.{spans, kept-names, kept-parts}
use Rattle.gsd_open.proofs.survey.Survey.listed.Goals as goal

pub invariant_of-result : goal.invariant_of-result
invariant_of-result c = record { spans = rw c.is_10.ensures (spans _ _ _ c.requires) }

pub returns-clause-names : goal.returns-clause-names
returns-clause-names c = rw c.is_10.ensures (kept-names _ _ _ c.requires)

pub returns-clause-parts : goal.returns-clause-parts
returns-clause-parts c = rw c.is_10.ensures (kept-parts _ _ _ c.requires)
