-- The names from outside that the proofs import, passed on from one place. Declares nothing.
pub use Rattle.rrd_spec.specs.Names.{◌∙◌, sym, ap, subst, refl, append_assoc, append-nil, length-append, set, add-one, get_or, length-drop, FitsSigned, same_name, is_good, is_letter, fits, IsAccepted, IsBounded, top, writes_stop, writes_then, AppendsFront, Writes, Cell, Unknown, Kind, Gauge, Counter, Derive, Absolute, Name, Raw, WriteFault, weight, Consolidating, Part, nothing, Function, Average, Min, Max, Last, drop-drop, take_all, take-append-drop, drop_all, drop_at, pointwise, w16, w32, w64, w128, from_be_bytes, to_be_bytes, Consumes, Keeps, prepend_known, AllByRecursion, flat_map, list_any, insert, copy_within, list_all, range_with_len, fold, All, enumerate_from, find, sum_by, option_map_or, eqb, of_z, to_z, SFits}
pub use Rattle.rrd_spec.proofs.Names.{arith, take_at, max, inl, inr, length-set, to_z-of_z, rules, with_sources, Appends-trans, suc-mul, div-mul-le_self, mul-add, mul_comm, add-mul, take-add, lt-ltb, le-ltb, leb-true, ltb-false, ltb-true, cases_lt, Decides-eqb, nat_tests, flat_map-append, ints, of_z-to_z, map-append, length-replicate, length-take, length-take-le, replicate-append-replicate, take-take, length-map, drop-take, take-append-le, take_more, ext_get_or, get_or-drop, get_or-take, get_or-append_right, get_or_append_left, get_or_past, drop-replicate, take-replicate, take_rest, take_more_set, flat_map-cons, length-flat_map, take-paste, All-pop, flat_map-map, get_or-map-range_with_len, length-range_with_len, sum-map, sum_by-append, fold-append, sum_by-cons, sum_by_more, mul-le, be_bytes_2, be_bytes_4, be_bytes_8, from_be_bytes-to_be_bytes_8, from_be_bytes-to_be_bytes_2, from_be_bytes-to_be_bytes_4, le-div, get_or_from_slice_get, slice_get_within, slice_get-get_or, slice_get-map, err_from_is_err_and, slice_eq-Decides}
pub use Rattle.rrd_file.specs.Names.{entry_of, update_of, header_said, PieceFault, HasWidth, Due, SourceDue, HeadDue, PrepDue, CellDue, EntryDue, NothingDue, SavedSource, Outline, DsDef, RraDef, Version, One, Two}
pub use Rattle.rrd_base.specs.Words.{MayCells, with_cells, EntryValidator, validator}
pub use Rattle.rrd_base.proofs.Names.{unknown_rows, newest}
pub use Rattle.rrd_spec.specs.Words.{DatabaseChange, is_crossed, is_far, Filed, Head, Header, Source, filed, head_of, header_of, sources_of, place_in, IsArchiveDef, heads_with_part, rows_in_all, unprepared, with_entry, MayCell, with_cell, MayEntry, limits, outline_left, IsHeader, MayHead, MayPrep, MaySource, begun, with_head, with_prep, with_source, prep_or, outline_filed, IsRowPart, cells_by_slot, by_slot, row_in, all_cells, stands_in, Rra, Content, definitions, row_at, cell_in, prep_in, Entry, BeforeUpdate, SavedArchive, UpdateEntry, TuneEntry, ResizeEntry, AddedEntry, RemovedEntry, undone, rows_between, MayRemove, MayResize, MaySave, MaySaveEach, MayTune, MayUndo, MayUpdate, IsSavedSource, AreOldRows, AreRemovedSettings, IsRemovedNumber, outline_of, outline_undone, with_row_number, Stored, FiledOnce, RevertTakesBack, MayUndoEach, OutlinesAreNeeded, FiledOutline, HasOneEach, StandsInPlace, StaysInSlot, AsManyCells, IsLater, MovesOn, MoveOn, dropped, DatabaseIsWithin, All-append, All-drop, All-take, All-replicate, rows_wide, limits_of, Limits, present, max_journal_depth_of, max_archives_of, max_tuned, AllOf, parts_in, has_source, is_double, names, resolution, AreParts, IsPart, IsSourceWithin, IsValid, IsValidArchive, IsValidDatabase, IsValidJournal, Fits, Rise, AreAccepted, IsRow, IsValidDatabaseWithin, IsValidWithin, IsValidArchiveWithin, FitEach, IsSource}
unfoldable pub use Rattle.rrd_spec.proofs.Names.{due, seconds_of, finished, unfinished, row_parts, parts_of, steps_of}
pub use Rattle.rrd_file.specs.Words.{HoldsCells, HoldsSlots, front_bytes, journal_bytes, HoldsRows, row_bytes, archives_before, head_size, parts_size, rows_size, by_tag, by_version, count_in, IsWhole, Front, IsBad, IsFault, bad_in_body, IsValidIn, IsFile, IsTrailing, IsAnswer, IsTruncated, bad_at, IsShaped, HasSmallNumber, IsEntryOfSome, IsRemovedShaped, tag_said, EndIsFound, FileBegins, FrontHasTheFault, RevertRestoresBytes, RevertRestoresBytesButOldest, IsOfFile, head_pieces, entry_pieces, pieces_filed, spelled, body_pieces, layout_in, raws_and_parts, row_pieces, saved_pieces, layout, counts, FitsArchive, FitsCell, FitsHeader, FitsPart, FitsSource, FitsRaw, FitsSavedSource, FitsBound, FitsDef, FitsNumber, Piece, OfSource, OfArchive, OfPrep, OfCell, Mark, OfVersion, OfHeader, OfTag, ARemoval, AResize, ATune, AnAddition, AnUpdate, Tag, tag_byte, OfRows, OfSavedSource, header_bytes, OfCount, OfNumber, OfTime, version_number, OfRawAndPart, count_bytes, cell_number, archive_bytes, eight_bytes, four_bytes, function_byte, two_bytes, bound_bytes, name_bytes, kind_byte, part_bytes, bound_number, source_bytes, raw_bytes, least, raw_number, IsWide, most_of_saved, most_of_entry, Stands, Comes, Gives, Input, left, IsCut, Advances, IsWaiting, fault_in_block, fault_in_entry, source_said, AgreesOutside, IsBeside, Stage, Body, Runs, Start, Marked, Versioned, Within, DueInEntry, GoesOn, BeforeDue, CountDue, NamedDue, NumberDue, OldRowsDue, RemovedHeadDue, RemovedNumberDue, RowCellDue, RowPrepDue, RowsDue, TimeDue, IsTagWithin, MayTag, behind, body_size, first_due, size_due, archive_due, cells_due, named_due, header_size, Adds, Breaks, Gathers, FileFault, BadEntry, NotOurs, Truncated, BadBlock, Trailing, Read, OutOfMemory, Span, PieceWriter}
pub use Rattle.rrd_ring.specs.Rows.{row_cells, nth_row, with_row}
unfoldable pub use Rattle.rrd_file.specs.End.{after_all_saved, after_body, after_cells, after_database, after_entries, after_rows, after_tag, after_version, file_end, four_in, two_in}
unfoldable pub use Rattle.rrd_file.specs.Layout.Pieces.{spell}
pub use Rattle.rrd_file.specs.Layout.Values.{cell_bytes}
unfoldable pub use Rattle.rrd_file.specs.Layout.Values.{signed_bytes}
pub use Rattle.rrd_file.specs.Length.{rows_of}
unfoldable pub use Rattle.rrd_file.specs.Stages.{Takes, size}
