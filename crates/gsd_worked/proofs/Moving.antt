-- The worked cases of what moving the index copies hold: closed by computing the definitions.
use mathlib.Core.Path.{◌≡◌, refl}
use mathlib.Core.Bool.{true}
use Rattle.gsd_format.specs.Bytes.{le, le_bytes, same, zero_in, stored}
use Rattle.gsd_format.specs.Ascii.{ascii}
use Rattle.gsd_format.specs.Refusals.{◌⇒◌, ◌▹◌, one_of}
use Rattle.gsd_format.specs.Types.{size_of, last_type}
use Rattle.gsd_format.specs.Header.{layout_of}
use Rattle.gsd_format.specs.Names.{parts_at, block_parts, name_parts, names_of, flat, index_of}
use Rattle.gsd_format.specs.Entries.{entry_at, entries_at, entries_of, frames_from, chunks_end}
use Rattle.gsd_format.specs.Opening.{header_test, blocks_test, open_name, twins, names_test, misplaced, entry_test, entries_test, verdict}
use Rattle.gsd_format.specs.Lookup.{find_entry, lookup_in, lookup}
use Rattle.gsd_format.specs.Elements.{element_of, nan_element, any_nan, element_in, element}
use Rattle.gsd_format.specs.Create.{or_default, create_test, fresh_header, fresh, create_number, created}
use Rattle.gsd_format.specs.Answers.{bits64, number_values}
use Rattle.gsd_stores.specs.Sheet.{body_size, bad_table, bodies_end, rows_at, rows_of, form_test, sheet_test}
use Rattle.gsd_stores.specs.Stores.{after, words, up, down, slots_down}
use Rattle.gsd_stores.specs.View.{view_of, end_of_use}
use Rattle.gsd_stores.specs.Plan.{bodies, end_from, new_names, new_entries, inserted, sorted, doubled, plan_of}
use Rattle.gsd_stores.specs.Steps.{clear_index, clear_names, store_texts, moved, move_names, store_name, store_names, move_index}
use Rattle.gsd_stores.specs.Steps.{entry_bytes, index_bytes, store_entries, steps_of, store_list}
use Rattle.gsd_stores.specs.Append.{image_test, plan_test, append_test, stores_for, step_five, copied_entries, append_answer, appended}
use lib.Ieee.{nan_bits, top, hid, ones}
use Rattle.gsd_worked.specs.Table.{table_row, sheet_a, sheet_b, created_in, made_in, fresh_in, step_counts, shown, blocks, over}
use Rattle.gsd_worked.specs.Table.{table_rows, bodies_of, sheet_from, without, answered, copied_by, moving, passes}

pub moving-pass : passes moving ≡ true
unfolding le le_bytes same zero_in stored ascii ◌⇒◌ ◌▹◌ one_of size_of last_type layout_of parts_at block_parts name_parts names_of flat index_of
    entry_at entries_at entries_of frames_from chunks_end header_test blocks_test open_name twins names_test misplaced entry_test entries_test verdict
    find_entry lookup_in lookup element_of nan_element any_nan element_in element or_default create_test fresh_header fresh create_number created
    bits64 number_values body_size bad_table bodies_end rows_at rows_of form_test sheet_test after words up down slots_down view_of
    end_of_use bodies end_from new_names new_entries inserted sorted doubled plan_of clear_index clear_names store_texts moved move_names store_name
    store_names move_index entry_bytes index_bytes store_entries steps_of store_list image_test plan_test append_test stores_for step_five copied_entries
    append_answer appended nan_bits top hid ones table_row sheet_a sheet_b created_in made_in fresh_in step_counts shown blocks over table_rows bodies_of sheet_from
    without answered copied_by moving passes
moving-pass = refl
