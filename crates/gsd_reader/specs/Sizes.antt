-- How many bytes the list of names takes, by what a survey tells of it.
use Rattle.std.specs.Prelude.{ℕ, ◌*◌, ◌-◌, true, false}
use Rattle.gsd_format.specs.Header.{v10, segment_size}
use Rattle.gsd_open.specs.declared.survey.Survey.{Survey}

unfoldable pub size_in : Survey → ℕ
size_in s = elim (v10 s.layout.version) [ true ↦ segment_size * s.names.count | false ↦ s.names.list_end - s.layout.namelist ]
