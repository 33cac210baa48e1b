-- `gsd_plan::plan_names` meets its contract.
use mathlib.Core.Path.{refl}
use native.Mathlib.Omega.{arith}
use Rattle.gsd_stores.proofs.Sheet.{accepted}
use Rattle.gsd_sheet.proofs.Rows.{located-kept}
use Rattle.gsd_plan.proofs.Image.{sees, listed-many, listed-are}
use Rattle.gsd_plan.proofs.Tests.{fresh-small, many-names, few-names, asked, plans-refused, plans-same}
use Rattle.gsd_open.proofs.Surveys.{few-names as survey-few}
use Rattle.gsd_plan.proofs.plan_names.Goals as goal

pub row_count-requires : goal.row_count-requires
row_count-requires c = (accepted _ _ c.requires.accepted).long

pub listed-listed-requires : goal.listed-listed-requires
listed-listed-requires c = c.requires.surveyed

pub find_ids-new-requires : goal.find_ids-new-requires
find_ids-new-requires c =
    record {
      few = omega (arith, survey-few _ _ _ c.requires.surveyed, c.listed-listed.ensures.count);
      long = c.told-plan;
      located = c.requires.located;
      counted = c.row_count.ensures;
      distinct = (accepted _ _ c.requires.accepted).distinct;
    }

pub overflow_add-listed : goal.overflow_add-listed
overflow_add-listed c =
    omega (arith, survey-few _ _ _ c.requires.surveyed, c.listed-listed.ensures.count, fresh-small _ _ _ _ (located-kept c.requires.located c.find_ids-new.ensures.kept) c.find_ids-new.ensures.found)

pub returns-then-listed-new-gt-MOST_NAMES : goal.returns-then-listed-new-gt-MOST_NAMES
returns-then-listed-new-gt-MOST_NAMES c =
    plans-refused _ _ _ 27 _ _ (many-names _ _ _ _ _ _ (listed-many _ _ _ c.requires.surveyed _ c.listed-listed.ensures.count) (listed-are _ _ c.listed-listed.ensures.names) c.find_ids-new.ensures.found c.if-listed-new-gt-MOST_NAMES.true) refl

pub plan_rows-requires : goal.plan_rows-requires
plan_rows-requires c =
    let see = sees _ _ _ c.requires.surveyed c.requires.recent in
    record { sees = see; asked = asked _ _ _ _ _ _ (listed-many _ _ _ c.requires.surveyed _ c.listed-listed.ensures.count) (listed-are _ _ c.listed-listed.ensures.names) c.find_ids-new.ensures.found see c.requires.accepted c.find_ids-new.array_long (located-kept c.requires.located c.find_ids-new.ensures.kept) }

pub returns : goal.returns
returns c =
    plans-same _ _ _ _ _ _ (few-names _ _ _ _ _ _ (listed-many _ _ _ c.requires.surveyed _ c.listed-listed.ensures.count) (listed-are _ _ c.listed-listed.ensures.names) c.find_ids-new.ensures.found c.if-listed-new-gt-MOST_NAMES.false)
    c.plan_rows.ensures
