-- The names from outside that the proofs import, passed on from one place. Declares nothing.
pub use Rattle.std.proofs.Common.{◌≡◌, ◌∙◌, ◌++◌, ◌∷◌, [], ℕ, Bool, true, false, List, Option, Some, None, Result, Ok, Err, sym, ap, refl, subst, append-nil, ◌<◌, ◌≤◌, ap₂, arith, inl, inr, length, drop, get_or, append_assoc, ◌⊎◌, IfSome, Bor, option_map, ◌≢◌, if◌then◌else◌, map, take}
pub use Rattle.rrd_file.specs.Encoded.{Encodes, Precedes, bytes_in}
pub use Rattle.rrd_file.specs.Faults.{IsAnswer, IsFile, IsTruncated, IsValidStored}
pub use Rattle.rrd_file.specs.Laws.{HasOneAnswer, IsOfFile, IsValidIn, LayoutIsItsFile, PiecesHaveTheirSize, EncodedIsLayout, FileIsLayout, LayoutIsNoOther}
pub use Rattle.rrd_file.specs.Layout.{layout_in, layout}
pub use Rattle.rrd_file.specs.Layout.Pieces.{Piece, spell}
pub use Rattle.rrd_file.specs.Spans.{AgreesOutside, IsBeside}
pub use Rattle.rrd_file.specs.Stages.{Body, Runs, Stage, Start, size}
pub use Rattle.rrd_file.specs.declared.encoded.Encoded.{Encoded}
pub use Rattle.rrd_file.specs.declared.fault.FileFault.{FileFault}
pub use Rattle.rrd_file.specs.declared.fault.FileFault.TheVariants.{Truncated}
pub use Rattle.rrd_file.specs.declared.span.Span.{Span}
pub use Rattle.rrd_fixed.specs.Writing.{Appends-kept, writes_stop, writes_then}
pub use Rattle.rrd_fixed.specs.Written.{AppendsFront, Writes}
pub use Rattle.rrd_spec.specs.Commands.{Updating}
pub use Rattle.rrd_spec.specs.Commands.Creating.{create_verdict, created}
pub use Rattle.rrd_spec.specs.Commands.Verdict.{verdict}
pub use Rattle.rrd_spec.specs.Files.Filed.{filed}
pub use Rattle.rrd_spec.specs.History.{Content}
pub use Rattle.rrd_spec.specs.Journal.Entries.{Entry}
pub use Rattle.rrd_spec.specs.Journal.Survivors.{Stored, changed, State, Action, Reverted, Stands, stored_after}
pub use Rattle.rrd_spec.specs.Laws.Journal.{ActsOn, Begins, DatabaseStays, RevertStays}
pub use Rattle.rrd_spec.specs.Laws.Updates.{UpdateIsLater}
pub use Rattle.rrd_spec.specs.Laws.Validity.{CreatedIsValid}
pub use Rattle.rrd_spec.specs.Laws.Versions.{DatabaseIsWithin}
pub use Rattle.rrd_spec.specs.Limits.{newest}
pub use Rattle.rrd_spec.specs.Validity.{IsValidDatabase}
pub use Rattle.rrd_spec.specs.declared.refusal.Refusal.{Refusal}
pub use Rattle.rrd_spec.specs.declared.requests.create.CreateSpec.{CreateSpec}
pub use Rattle.rrd_spec.specs.declared.requests.update.Update.{Update}
pub use Rattle.rrd_spec.specs.declared.version.Version.{Version}
pub use Rattle.rrd_tool.specs.Batch.{Ran, Stopped, Tally, Told, no_lines, state_after}
pub use Rattle.rrd_tool.specs.Batch.Run.{RunOver, command_of, reading_turn, text_turn, verdict_turn, words_turn}
unfoldable pub use Rattle.rrd_tool.specs.Batch.Run.{turn}
pub use Rattle.rrd_tool.specs.Commands.{effect}
pub use Rattle.rrd_tool.specs.Commands.Reading.{IsReading, reading}
pub use Rattle.rrd_tool.specs.Effects.{Changes, Effect, Makes, Reverts, Shows, is_change, stored_next, next, text_on, verdict_on, StandsFor, stored_of}
pub use Rattle.rrd_tool.specs.Execution.{Comes, database_left, fault_left, has_changed, Executes}
pub use Rattle.rrd_tool.specs.Faults.{error_line}
pub use Rattle.rrd_tool.specs.Fields.Parts.{Unread}
pub use Rattle.rrd_tool.specs.Lines.{is_empty, text_in, words_of}
pub use Rattle.rrd_tool.specs.declared.batch.StreamFault.{StreamFault}
pub use Rattle.rrd_tool.specs.declared.commands.Command.{Command}
pub use Rattle.rrd_tool.specs.declared.execution.Outcome.{Outcome}
pub use Rattle.rrd_tool.specs.declared.execution.Outcome.TheVariants.{Printed, Changed}
pub use Rattle.rrd_tool.specs.declared.faults.Fault.{Fault}
pub use Rattle.rrd_tool.specs.declared.faults.Fault.TheVariants.{Line, NoDatabase, Output, Refused}
pub use Rattle.rrd_tool.specs.declared.faults.LineFault.{LineFault}
pub use Rattle.std.proofs.lemmas.Bool.{cases_lt}
pub use Rattle.std.proofs.lemmas.List.Concat.{flat_map-cons}
pub use Rattle.std.proofs.lemmas.List.Elements.{All-head}
pub use Rattle.std.proofs.lemmas.Result.{err_from_is_err_and}
pub use Rattle.std.specs.Io.KnownBytes.{Appends, Keeps}
pub use Rattle.std.specs.List.{flat_map, All}
pub use Rattle.std.specs.Option.{option_copied}
pub use Rattle.std.specs.Result.{result_err}
pub use Rattle.std.specs.String.{string_bytes}
pub use Rattle.rrd_store.specs.Batch.{IsFileBatch, written, RunsLines}
pub use Rattle.rrd_store.specs.Encoding.{AreOf, IsBefore, IsOf, encoded_by, encoded_in, MayReplace}
pub use Rattle.rrd_tool.specs.Batch.Moved.{IsUpdate}
pub use Rattle.rrd_store.specs.Ending.{report_if}
pub use Rattle.rrd_store.specs.Faults.{report_of, is_usage_error, task_fault_text}
pub use Rattle.rrd_store.specs.Runs.{Answers, AnswersRead, Filing, Holds, IsDone, MayStop, ReadsFile, as_written, database_in, kept_next, state_in, DamagedFileStays, IsOfBreak, IsOfBytes, Run, ByBatch, ByCommand, ByRequest, FaultChangesNothing, fault_of_batch, AnswersLines, BatchRun, CommandRun, Computes, IsFirst, RequestRun, fault_of, first_of, begun, IsUnread, Did, IsCreate, OutputStays, Damaged, Ended, Event, HappenedAll, IsFileOf, Keeping, KeepsNone, Killed, Leads, LeadsAll, LeadsKilled, RunIsComputed, RunsFollowSpecification, Standing, StandsBy, WasKilled, IsValidState}
pub use Rattle.rrd_store.specs.Sessions.{HasBytes, first_there, kept_by, IsRead, kept_unless, IsLinesOn, beside, started}
pub use Rattle.rrd_store.specs.Single.{EndsBy, FindsOne, RunsAs, RunsFrom, StartsBy, Ends, IsSingle}
pub use Rattle.rrd_store.specs.Storages.{Held, Leaves, Missing, IsNoFile, Becomes, Bytes, DiffersWithin, IsAnyFile, Stays, Finds, HasNone, Reads}
pub use Rattle.rrd_store.specs.declared.stored_batch.FileBatchEnd.{FileBatchEnd}
pub use Rattle.rrd_store.specs.declared.encoding.Encoding.{Encoding}
pub use Rattle.rrd_store.specs.declared.faults.TaskFault.{TaskFault}
pub use Rattle.rrd_store.specs.declared.faults.TaskFault.TheVariants.{Stream, File, CannotOpen, CannotWrite}
pub use Rattle.rrd_store.specs.declared.usage.TheConstants.{USAGE}
