-- `gsd_extents::extent::Extent::place` meets its contract.
use mathlib.Core.Path.{sym}
use Rattle.gsd_extents.proofs.Words.{place-name, place_other}
use Rattle.gsd_extents.proofs.extent.Extent.place.Goals as goal

pub returns-in-Name : goal.returns-in-Name
returns-in-Name c = sym (place-name c.args.self c.args.w c.in-Name.is)

pub returns-in_default : goal.returns-in_default
returns-in_default c = sym (place_other c.args.self c.args.w c.in_default.not-Name)
