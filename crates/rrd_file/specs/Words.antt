-- Glue: the words of this crate that contracts and the crates above import, passed on from one place.
pub use Rattle.rrd_file.specs.Encoded.{HoldsBeforeJournal, HoldsCells, HoldsJournal, HoldsRows, HoldsSlots, cell_bytes, front_bytes, journal_bytes, row_bytes}
pub use Rattle.rrd_file.specs.End.{archives_before, by_tag, by_version, count_in, head_size, parts_size, rows_size}
pub use Rattle.rrd_file.specs.Faults.{Front, IsAnswer, IsBad, IsFault, IsFile, IsTrailing, IsTruncated, IsValidIn, IsWhole, bad_at, bad_in_body}
pub use Rattle.rrd_file.specs.Journal.{AreRows, HasOneMore, HasSmallNumber, IsEntryOfSome, IsRemovedShaped, IsShaped, tag_said}
pub use Rattle.rrd_file.specs.Laws.{EndIsFound, FileBegins, FrontHasTheFault, IsOfFile, RevertRestoresBytes, RevertRestoresBytesButOldest}
pub use Rattle.rrd_file.specs.Layout.{body_pieces, entry_pieces, head_pieces, layout, layout_in, pieces_filed, raws_and_parts, row_pieces, saved_pieces, spelled}
pub use Rattle.rrd_file.specs.Layout.Fitting.{FitsArchive, FitsBound, FitsCell, FitsDef, FitsHeader, FitsNumber, FitsPart, FitsRaw, FitsSavedSource, FitsSource, counts}
pub use Rattle.rrd_file.specs.Layout.Pieces.{ARemoval, AResize, ATune, AnAddition, AnUpdate, Mark, OfArchive, OfCell, OfCount, OfHeader, OfNumber, OfPrep, OfRawAndPart, OfRows, OfSavedSource, OfSource, OfTag, OfTime, OfVersion, Piece, Tag, count_bytes, header_bytes, spell, tag_byte, version_number}
pub use Rattle.rrd_file.specs.Layout.Values.{archive_bytes, bound_bytes, bound_number, cell_number, eight_bytes, four_bytes, function_byte, kind_byte, least, name_bytes, part_bytes, raw_bytes, raw_number, source_bytes, two_bytes}
pub use Rattle.rrd_file.specs.Length.{IsWide, max_rows_in_all, most_of_all_saved, most_of_cells, most_of_entries, most_of_entry, most_of_front, most_of_rows, most_of_saved, rows_of}
pub use Rattle.rrd_file.specs.Progress.{Brings, Closes, Comes, Ends, Reaches, Stands}
pub use Rattle.rrd_file.specs.Reader.{Advances, FindsEnd, Gives, Input, IsCut, ReadsPiece, left}
pub use Rattle.rrd_file.specs.Reader.Waiting.{IsWaiting}
pub use Rattle.rrd_file.specs.Refusals.{fault_in_block, fault_in_entry}
pub use Rattle.rrd_file.specs.Said.{source_said}
pub use Rattle.rrd_file.specs.Spans.{AgreesOutside, IsBeside, IsWithin}
pub use Rattle.rrd_file.specs.Stages.{BeforeDue, Body, CountDue, DueInEntry, GoesOn, IsTagWithin, Marked, MayTag, NamedDue, NumberDue, OldRowsDue, RemovedHeadDue, RemovedNumberDue, RowCellDue, RowPrepDue, RowsDue, Runs, Stage, Start, TimeDue, Versioned, Within, archive_due, behind, body_size, cells_due, count_size, first_due, header_size, named_due, size_due}
pub use Rattle.rrd_file.specs.Writer.{Adds, Breaks, Gathers}
pub use Rattle.rrd_file.specs.declared.encoded.Encoded.{Encoded}
pub use Rattle.rrd_file.specs.declared.fault.FileFault.{FileFault}
pub use Rattle.rrd_file.specs.declared.fault.FileFault.TheVariants.{BadBlock, BadEntry, NotOurs, OutOfMemory, Read, Trailing, Truncated}
pub use Rattle.rrd_file.specs.declared.span.Span.{Span}
pub use Rattle.rrd_file.specs.declared.writer.PieceWriter.{PieceWriter}
