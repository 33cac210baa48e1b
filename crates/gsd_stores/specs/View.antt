-- What an append sees of an image: where its blocks lie, the listed entries and the listed names.
use Rattle.std.specs.Prelude.{ℕ, ◌+◌, ◌*◌, max, List, length}
use Rattle.gsd_format.specs.declared.Entry.{Entry}
use Rattle.gsd_format.specs.declared.Layout.{Layout}
use Rattle.gsd_format.specs.Header.{header_size, slot_size, segment_size, aligned, layout_of}
use Rattle.gsd_format.specs.Names.{names_of, flat}
use Rattle.gsd_format.specs.Entries.{entries_of, chunks_end}

pub record View : Type 0 where
  pub layout : Layout
  pub entries : List Entry
  pub names : List (List ℕ)

unfoldable pub view_of : List ℕ → View
view_of img = record { layout = layout_of img; entries = entries_of img; names = names_of img }

-- where the two blocks end, and where the two lists end
abbrev pub index_end : Layout → ℕ
index_end l = l.index + slot_size * l.slots

abbrev pub namelist_end : Layout → ℕ
namelist_end l = l.namelist + segment_size * l.segments

abbrev pub entries_end : View → ℕ
entries_end v = v.layout.index + slot_size * length v.entries

abbrev pub names_end : View → ℕ
names_end v = v.layout.namelist + length (flat v.names)

-- the end of use (a term of this library): the first aligned place behind the header, both blocks and all listed chunks.
-- Room behind it, used by a stopped append or not, is free
unfoldable pub end_of_use : View → ℕ
end_of_use v = aligned (max header_size (max (index_end v.layout) (max (namelist_end v.layout) (chunks_end v.entries))))
