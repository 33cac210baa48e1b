-- The worked cases of readers hold: closed by computing the definitions.
use mathlib.Core.Path.{◌≡◌, refl}
use mathlib.Core.Bool.{true}
use Rattle.gsd_format.specs.Bytes.{le, le_bytes, same, zero_in, stored}
use Rattle.gsd_format.specs.Ascii.{ascii}
use Rattle.gsd_format.specs.Refusals.{◌⇒◌, ◌▹◌, one_of}
use Rattle.gsd_format.specs.Types.{size_of, last_type}
use Rattle.gsd_format.specs.Header.{layout_of}
use Rattle.gsd_format.specs.Names.{parts_at, before_zero, segments_at, block_parts, name_parts, names_of, flat, index_of, list_size, list_parts}
use Rattle.gsd_format.specs.Entries.{entry_at, slots_at, entries_at, entries_of, frames_from, chunks_end}
use Rattle.gsd_format.specs.Opening.{header_test, blocks_test, unclosed_from, open_name, twins, names_test, repeated, misplaced}
use Rattle.gsd_format.specs.Opening.{entry_test, entries_test, verdict}
use Rattle.gsd_format.specs.Elements.{nan_element, any_nan}
use Rattle.gsd_format.specs.Search.{halve, first_id, walk, reach, searched}
use Rattle.gsd_format.specs.Readers.{reader_of, reading, fits, entry_by, nth_part, name_by, ident_in, id_by, counted, find_by, found_for, lookup_by}
use Rattle.gsd_format.specs.Readers.{place_behind, last_before, newest_by, holds, chunk_for}
use Rattle.gsd_format.specs.Create.{or_default, create_test, fresh_header, fresh, create_number, created}
use Rattle.gsd_stores.specs.Sheet.{body_size, bad_table, bodies_end, rows_at, rows_of, form_test, sheet_test}
use Rattle.gsd_stores.specs.Stores.{after, words, up, down, slots_down}
use Rattle.gsd_stores.specs.View.{view_of, end_of_use}
use Rattle.gsd_stores.specs.Plan.{bodies, end_from, new_names, new_entries, inserted, sorted, doubled, plan_of}
use Rattle.gsd_stores.specs.Steps.{clear_index, clear_names, store_texts, moved, move_names, store_name, store_names, move_index}
use Rattle.gsd_stores.specs.Steps.{entry_bytes, index_bytes, store_entries, steps_of, store_list}
use Rattle.gsd_stores.specs.Append.{image_test, plan_test, append_test, stores_for, appended}
use lib.Ieee.{nan_bits}
use Rattle.gsd_worked.specs.Table.{table_row, sheet_a, sheet_b, made_in, fresh_in, in_version, over, in_segments, image10}
use Rattle.gsd_worked.specs.Table.{reader_in, first_by, next_by, newest_in, readers, passes}

pub readers-pass : passes readers ≡ true
unfolding le le_bytes same zero_in stored ascii ◌⇒◌ ◌▹◌ one_of size_of last_type layout_of parts_at before_zero segments_at block_parts name_parts names_of
    flat index_of list_size list_parts entry_at slots_at entries_at entries_of frames_from chunks_end header_test blocks_test unclosed_from open_name
    twins names_test repeated misplaced entry_test entries_test verdict nan_element any_nan or_default create_test fresh_header fresh create_number created
    body_size bad_table bodies_end rows_at rows_of form_test sheet_test after words up down slots_down view_of end_of_use bodies end_from new_names
    new_entries inserted sorted doubled plan_of clear_index clear_names store_texts moved move_names store_name store_names move_index entry_bytes
    index_bytes store_entries steps_of store_list image_test plan_test append_test stores_for appended nan_bits table_row sheet_a sheet_b made_in
    fresh_in in_version over in_segments image10 halve first_id walk reach searched reader_of reading fits entry_by nth_part name_by ident_in id_by
    counted find_by found_for lookup_by place_behind last_before newest_by holds chunk_for
    reader_in first_by next_by newest_in readers passes
readers-pass = refl
