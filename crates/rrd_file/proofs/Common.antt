-- The names that the proofs of functions import, passed on from one place. Declares nothing.
pub use Rattle.std.specs.Prelude.{◌≡◌, ◌++◌, ◌∷◌, ◌+◌, ◌*◌, ◌/◌, ◌%◌, ◌<◌, ◌≤◌, List, [], Bool, length, map, nat_lt, false, ◌||◌, Some, None, ℕ, ◌^◌, zero, suc, replicate, take, drop, slice_get, ◌≢◌, ◌-◌, unsigned_abs, slice_range, Option, Result, Ok, Err, option_map, not, true, if◌then◌else◌, ℤ, nat_le, ◌&&◌, ◌==◌, min, ◌⊎◌, IfSome, pos, slice_set, OnOk, ◌≤ℤ◌, negsuc, slice_index_or, cond, sum}
pub use Rattle.rrd_file.proofs.Names.{◌∙◌, sym, ap, subst, refl, arith, append_assoc, append-nil, length-append, AllByRecursion, flat_map, list_any, lt-ltb, le-ltb, map-append, flat_map-cons, sum-map, sum_by-append, mul-le, Cell, Name, same_name, IsAccepted, IsBounded, Average, Part, SourceDue, HeadDue, PrepDue, CellDue, EntryDue, NothingDue, DsDef, RraDef, Entry, Filed, Head, Header, Source, limits_of, IsArchiveDef, heads_with_part, rows_in_all, unprepared, has_source, is_double, names, AreParts, IsPart, IsSourceWithin, head_pieces, Piece, OfSource, OfArchive, OfPrep, OfCell, Stage, Body, Runs, flat_map-append, with_entry, IsWhole, entry_pieces, pieces_filed, spelled, Mark, OfVersion, OfHeader, OfTag, Start, Marked, Versioned, Within, DueInEntry, GoesOn, set, add-one, take_at, Consumes, length-replicate, length-take, length-take-le, replicate-append-replicate, take_all, take-append-drop, take-take, take-add, Unknown, MayCell, with_cell, All-append, MayCells, with_cells, Front, Gives, Input, left, Stands, cell_bytes, cell_number, resolution, Rra, Content, IsValid, drop_all, cells_by_slot, HasOneEach, StandsInPlace, IsLater, MovesOn, rows_wide, HoldsCells, HoldsSlots, get_or, MayEntry, limits, outline_left, FileFault, BadEntry, IsBad, IsFault, bad_in_body, IsCut, ARemoval, AResize, ATune, AnAddition, AnUpdate, Tag, tag_byte, IsShaped, BeforeDue, CountDue, NamedDue, NumberDue, OldRowsDue, RemovedHeadDue, RemovedNumberDue, RowCellDue, RowPrepDue, RowsDue, TimeDue, IsTagWithin, Keeps, MayTag, behind, body_size, first_due, size_due, Comes, length-drop, drop_at, length-map, HasWidth, SavedSource, Outline, Version, One, Two, filed, head_of, header_of, definitions, BeforeUpdate, SavedArchive, UpdateEntry, TuneEntry, ResizeEntry, AddedEntry, RemovedEntry, MayRemove, MayResize, MaySaveEach, MayTune, MayUndo, MayUpdate, outline_of, outline_undone, with_row_number, Stored, MayUndoEach, OutlinesAreNeeded, DatabaseIsWithin, All-drop, All-take, Limits, present, IsValidArchive, IsValidDatabase, archives_before, head_size, parts_size, rows_size, IsValidIn, EndIsFound, body_pieces, layout_in, raws_and_parts, row_pieces, saved_pieces, counts, OfRows, OfSavedSource, header_bytes, archive_bytes, eight_bytes, four_bytes, function_byte, two_bytes, insert, undone, IsValidJournal, Fits, Rise, newest, FitsArchive, HasSmallNumber, IsEntryOfSome, suc-mul, Raw, IsSavedSource, AreAccepted, IsRow, OfCount, OfNumber, OfTime, archive_due, cells_due, named_due, IsValidDatabaseWithin, IsFile, take-paste, copy_within, prepend_known, drop-take, IsWaiting, drop-drop, take-append-le, NotOurs, Truncated, BadBlock, Trailing, Read, OutOfMemory, IsTrailing, FileBegins, FrontHasTheFault, Appends-trans, take_more, get_or_from_slice_get, slice_get_within, slice_get-get_or, slice_get-map, AppendsFront, Writes, WriteFault, writes_stop, writes_then, Adds, Breaks, Gathers, PieceWriter, layout, front_bytes, journal_bytes, PieceFault, IsHeader, MayHead, MayPrep, MaySource, begun, with_head, with_prep, with_source, pointwise, Decides-eqb, slice_eq-Decides, eqb, version_number, header_size, fault_in_block, fault_in_entry, FitsCell, FitsHeader, FitsPart, FitsSource, EntryValidator, validator, OfRawAndPart, FitsRaw, FitsSavedSource, list_all, leb-true, is_good, is_letter, bound_bytes, name_bytes, kind_byte, part_bytes, bound_number, source_bytes, DatabaseChange, FiledOnce, RevertTakesBack, IsValidWithin, IsAnswer, IsTruncated, bad_at, RevertRestoresBytes, RevertRestoresBytesButOldest, IsOfFile, raw_bytes, ltb-false, ints, Kind, Gauge, Counter, Derive, Absolute, fits, weight, Function, Min, Max, Last, max_journal_depth_of, is_crossed, is_far, FitsBound, FitsDef, ltb-true, Due, prep_or, max, ext_get_or, get_or-drop, get_or-take, row_cells, HoldsRows, row_bytes, inl, inr, Advances, count_bytes, FitsNumber, w16, w32, w64, w128, from_be_bytes, to_be_bytes, be_bytes_2, be_bytes_4, be_bytes_8, of_z-to_z, of_z, to_z, SFits, least, length-set, nth_row, unknown_rows, with_row, to_z-of_z, from_be_bytes-to_be_bytes_8, raw_number, range_with_len, flat_map-map, place_in, by_slot, row_in, StaysInSlot, fold, fold-append, top, max_archives_of, All-replicate, outline_filed, with_sources, All, get_or-append_right, get_or_append_left, get_or_past, All-pop, cases_lt, AgreesOutside, IsBeside, Span, from_be_bytes-to_be_bytes_2, from_be_bytes-to_be_bytes_4, div-mul-le_self, get_or-map-range_with_len, length-range_with_len, le-div, MoveOn, dropped, nothing, sources_of, Consolidating, row_at, cell_in, prep_in, drop-replicate, take-replicate, take_rest, take_more_set, AllOf, parts_in, mul-add, mul_comm, enumerate_from, find, option_map_or, FiledOutline, AsManyCells, all_cells, stands_in, IsValidArchiveWithin, nat_tests, by_tag, by_version, max_tuned, AreOldRows, AreRemovedSettings, IsRemovedNumber, IsRowPart, rules, FitsSigned, err_from_is_err_and, tag_said, count_in, header_said, entry_of, rows_between, sum_by, add-mul, sum_by-cons, sum_by_more, FitEach, IsWide, rows_of, length-flat_map, IsSource, most_of_saved, most_of_entry, update_of, source_said}
unfoldable pub use Rattle.rrd_file.proofs.Names.{due, Takes, spell, size, after_all_saved, after_body, after_cells, after_database, after_entries, after_rows, after_tag, after_version, file_end, four_in, two_in, signed_bytes, finished, unfinished, parts_of, steps_of, row_parts, seconds_of}
pub use Rattle.rrd_file.proofs.CellRuns.{cells_bytes, first_bytes, some_taken, bytes_count, unknown_bytes_on, unknown_block_read, unknown_read, more_spelled, rest_spelled, unknown_flat}
pub use Rattle.rrd_file.proofs.CellsFiled.{cells_spelled, def_of, rows_are, small_def, same_def}
pub use Rattle.rrd_file.proofs.CellsHeld.{ArePutBefore, archives_begin, archives_end, turn_of}
pub use Rattle.rrd_file.proofs.Coming.{cut_within, closed, denied, came_first, cut_tag, wrong_tag}
pub use Rattle.rrd_file.proofs.Ended.{end_is_found}
pub use Rattle.rrd_file.proofs.Entering.{small_at, entry_of_some, removed_fits}
pub use Rattle.rrd_file.proofs.Filing.{file_of}
pub use Rattle.rrd_file.proofs.Filled.{consumed, grown, waited, front_of, within_range, skipped}
pub use Rattle.rrd_file.proofs.Fronts.{first_begins, file_begins, front_has_the_fault}
pub use Rattle.rrd_file.proofs.Gathering.{all_added, item_added, item_at, item_broken, mapped_at, breaks_stop, gathers_then, flat_flat, no_room, piece_added, adds_then, breaks_then, all_written, front_written}
pub use Rattle.rrd_file.proofs.Joined.{joined_head, joined_layout, head_parts, six_parts, three_parts, joined_three, joined_two, two_parts, joined_saved, four_parts}
pub use Rattle.rrd_file.proofs.Judged.{cut_body, prep_refused, prep_taken, refusal_is, head_refused, head_taken, head_unread, cell_refused, cell_taken, same_bytes, cut_header, header_refused, header_taken, cut_mark, mark_refused, mark_taken, other_bytes, cut_version, version_refused, version_taken, entry_refusal_is, ended, trails, source_refused, source_taken, source_unread}
pub use Rattle.rrd_file.proofs.JournalKept.{journal_joined, stay_within, taken_at}
pub use Rattle.rrd_file.proofs.Kept.{ReadRowPrep, broken, kept, ReadRemovedNumber, validated, validates, ReadRemovedHead, unread_head, ReadNumber, ReadOldRows, ReadRowCell, ReadCount, ReadNamed, unread, ReadRawAndPart, ReadRows, ReadTime}
pub use Rattle.rrd_file.proofs.OneAnswer.{file_is_layout, layout_is_file, layout_is_no_other, layouts_differ, one_answer, revert_restores_bytes, revert_restores_bytes_but_oldest}
pub use Rattle.rrd_file.proofs.OneEntry.{one_entry}
pub use Rattle.rrd_file.proofs.OneSpelling.{one_spelling, tag_one}
pub use Rattle.rrd_file.proofs.Overwritten.{cells_of_rows, many_cells, put_begins, put_ends, put_goes_on, put_within, ArePut}
pub use Rattle.rrd_file.proofs.Reached.{waited_for, CellCame, begins, if_some_at}
pub use Rattle.rrd_file.proofs.ReadBack.{archive_back, archive_none, archive_some, header_back, saved_source_back, saved_source_said, before_back, def_said, source_back, fit_some, name_back, zeros_said, halves_back}
pub use Rattle.rrd_file.proofs.Rowed.{next_due, next_width, rows_all, rows_go_on, rows_new, Rowed, bounded_rows, pieces_of_cells}
pub use Rattle.rrd_file.proofs.SignedBytes.{halves}
pub use Rattle.rrd_file.proofs.Sizes.{sizes}
pub use Rattle.rrd_file.proofs.SlotsHeld.{are_held, rows_held}
pub use Rattle.rrd_file.proofs.Spanned.{span, updated_agrees, add_span, beside_earlier, beside_part, on_ok, before_part, beside_both}
pub use Rattle.rrd_file.proofs.Spelled.{archive_one, cell_one, part_one, raw_and_part_one, saved_source_one, source_one}
pub use Rattle.rrd_file.proofs.Told.{prep_is, parts_length, there, HasSmallNumbers, small_numbers, some_is, archive_at, before_at, length_before, source_at, source_there, length_sources, lengths}
pub use Rattle.rrd_file.proofs.Turned.{all_rows, rows_on, rows_spelled, run_spelled, unknown, archive_spelled, unknown_more, unknown_on}
pub use Rattle.rrd_file.proofs.Turns.{all_more, more_preps, none_less, one_less, more_cell, taken_all, more_map, named_less, dropped_all, more_flat, next_archive, saves_more, accepted_more, parts_more, more_raws, next_source, after_entry, more_entries}
pub use Rattle.rrd_file.proofs.Walked.{saved_done, saved_more, cells_done, cells_more, no_version, right_version, entries_bad, entries_done, entries_more, entries_short, four_first, no_four, no_two, two_first}
pub use Rattle.rrd_file.proofs.Whole.{whole, one_byte}
pub use Rattle.rrd_file.proofs.length.Numbers.{wide_at, all_cells_are, sum_next, sum_split, saved_wide}
pub use Rattle.rrd_file.proofs.length.Pieces.{items_have, cells_have, added_has, front_has, heads_have, sources_have, removed_has, resize_has, saved_has, tune_has, update_has}
