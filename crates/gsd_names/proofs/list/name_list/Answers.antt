-- `gsd_names::list::name_list` meets its contract: the version says which pass it is.
use mathlib.Core.Path.{sym, ◌∙◌}
use Rattle.gsd_names.proofs.list.name_list.Goals as goal

pub segment_list-requires : goal.segment_list-requires
segment_list-requires c = record { segmented = sym c.is_10.ensures ∙ c.if-is_10.true; inside = c.requires.inside; short = c.requires.short }

pub joined_list-requires : goal.joined_list-requires
joined_list-requires c = record { recent = sym c.is_10.ensures ∙ c.if-is_10.false; inside = c.requires.inside; short = c.requires.short }
