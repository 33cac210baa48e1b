-- The worked cases hold: closed by computing the definitions.
use mathlib.Core.Path.{◌≡◌, refl}
use mathlib.Core.Bool.{true}
use Rattle.gsd_format.specs.Bytes.{le, le_bytes, same, zero_in, stored}
use Rattle.gsd_format.specs.Ascii.{ascii}
use Rattle.gsd_format.specs.Refusals.{◌⇒◌, ◌▹◌, one_of}
use Rattle.gsd_format.specs.Types.{size_of, last_type}
use Rattle.gsd_format.specs.Header.{layout_of}
use Rattle.gsd_format.specs.Names.{parts_at, before_zero, segments_at, block_parts, name_parts, names_of, flat, index_of}
use Rattle.gsd_format.specs.Entries.{entry_at, entries_at, entries_of, frames_from, chunks_end}
use Rattle.gsd_format.specs.Opening.{header_test, blocks_test, unclosed_from, open_name, twins, names_test, repeated, misplaced}
use Rattle.gsd_format.specs.Opening.{entry_test, entries_test, verdict, counts_of, opening}
use Rattle.gsd_format.specs.Lookup.{nth_entry, nth_name, find_entry, lookup_in, lookup, placed, chunk_place, bytes_at}
use lib.Ieee.{size, span, climb, nan_bits, top, hid, ones}
use Rattle.gsd_format.specs.Search.{halve, first_id, walk, reach, probed, searched}
use Rattle.gsd_format.specs.Calls.{unless, search_test}
use Rattle.gsd_format.specs.Elements.{element_of, nan_element, any_nan, element_in, element}
use Rattle.gsd_format.specs.Create.{or_default, create_test, fresh_header, fresh, create_number, created}
use Rattle.gsd_format.specs.Listing.{digits, decimal, fields, entry_line, entry_lines, counts_line, listing, printed}
use Rattle.gsd_format.specs.Answers.{bits64, number_values}
use Rattle.gsd_stores.specs.Sheet.{body_size, bad_table, bodies_end, rows_at, rows_of, form_test, sheet_test}
use Rattle.gsd_stores.specs.Stores.{after, words, up, down, slots_down}
use Rattle.gsd_stores.specs.View.{view_of, end_of_use}
use Rattle.gsd_stores.specs.Plan.{bodies, end_from, new_names, new_entries, inserted, sorted, doubled, plan_of}
use Rattle.gsd_stores.specs.Steps.{clear_index, clear_names, store_texts, moved, move_names, store_name, store_names, move_index, entry_bytes, index_bytes, store_entries, steps_of, store_list}
use Rattle.gsd_stores.specs.Append.{image_test, plan_test, append_test, stores_for, step_five, copied_entries, append_answer, appended}
use Rattle.gsd_stores.specs.Runs.{after_run, last_store_made, completed}
use Rattle.gsd_worked.specs.Table.{table_row, sheet_a, sheet_b, sheet_of, created_in, made_in, fresh_in, in_version, step_counts, shown, table, versions}
use Rattle.gsd_worked.specs.Table.{entries_from, search, probes, framed, sized, gaps, blocks, defaults}
use Rattle.gsd_worked.specs.Table.{packed, sheet_with, sheet_without, sheet_named, alone, in_first, in_last, undefined}
use Rattle.gsd_worked.specs.Table.{in_segments, over, image10, named, entered, emptied, answered, first10, starts, moving, passes}
use Rattle.gsd_worked.specs.Table.{table_rows, bodies_of, sheet_from, turns, readers}
use Rattle.gsd_worked.proofs.Starts.{starts-pass}
use Rattle.gsd_worked.proofs.Moving.{moving-pass}
use Rattle.gsd_worked.proofs.Readers.{readers-pass}

pub worked : (passes table ≡ true) × (passes versions ≡ true) × (passes probes ≡ true) × (passes gaps ≡ true) × (passes defaults ≡ true)
    × (passes undefined ≡ true) × (passes first10 ≡ true) × (passes starts ≡ true) × (passes moving ≡ true) × (passes turns ≡ true)
    × (passes readers ≡ true)
unfolding le le_bytes same zero_in stored ascii ◌⇒◌ ◌▹◌ size_of last_type layout_of parts_at before_zero segments_at block_parts name_parts
    names_of flat index_of entry_at entries_at entries_of frames_from header_test blocks_test unclosed_from open_name twins names_test
    repeated misplaced entry_test entries_test verdict counts_of
    opening nth_entry nth_name find_entry lookup_in lookup placed chunk_place bytes_at or_default create_test fresh_header
    fresh create_number created digits decimal fields entry_line entry_lines counts_line listing printed
    bits64 number_values body_size
    bad_table bodies_end rows_at rows_of one_of nan_bits top hid ones nan_element any_nan form_test sheet_test after words up down slots_down view_of chunks_end end_of_use bodies
    new_names new_entries inserted sorted doubled plan_of clear_index clear_names store_texts end_from moved move_names
    store_name store_names move_index entry_bytes index_bytes store_entries steps_of store_list image_test plan_test append_test
    stores_for step_five copied_entries append_answer appended after_run last_store_made completed table_row sheet_a sheet_b created_in made_in fresh_in
    step_counts shown sheet_of in_version element_of element_in element halve first_id walk reach probed searched search_test
    unless size span climb entries_from search framed sized blocks packed sheet_with sheet_without sheet_named alone in_first in_last
    in_segments over image10 named entered emptied answered table versions probes gaps defaults undefined first10 table_rows bodies_of sheet_from turns passes
worked = (refl, refl, refl, refl, refl, refl, refl, starts-pass, moving-pass, refl, readers-pass)
