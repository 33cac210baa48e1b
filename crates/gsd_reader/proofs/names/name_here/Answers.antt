-- Names lie as those of 1.0 or of 2.0 do.
use mathlib.Core.Path.{sym, ◌∙◌}
use Rattle.gsd_format.specs.Header.{version20}
use Rattle.gsd_reader.proofs.NextNames.{next-alike}
use Rattle.gsd_reader.proofs.names.name_here.Goals as goal

pub returns : goal.returns
returns c = next-alike version20 _ _ _ _ _ (sym (sym c.is_10.ensures ∙ c.if-is_10.false)) c.joined_name.ensures
