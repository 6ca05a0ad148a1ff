-- The names that the proofs of functions import, passed on from one place. Declares nothing.
pub use Rattle.rrd_store.proofs.Names.{◌≡◌, ◌∙◌, ◌++◌, ◌∷◌, [], ℕ, Bool, true, false, List, Option, Some, None, Result, Ok, Err, sym, ap, refl, subst, append-nil, Appends, Keeps, result_err, Stored, effect, Changes, Effect, Makes, Reverts, Shows, is_change, stored_next, next, text_on, verdict_on, StandsFor, CreateSpec, Comes, database_left, fault_left, has_changed, is_empty, Command, Fault, Line, NoDatabase, Output, Refused, LineFault, Held, Leaves, Missing, Answers, AnswersRead, Filing, Holds, IsDone, MayStop, ReadsFile, as_written, database_in, kept_next, state_in, EndsBy, FindsOne, RunsAs, RunsFrom, StartsBy, TaskFault, ◌<◌, ◌≤◌, ap₂, arith, inl, inr, length, drop, get_or, append_assoc, cases_lt, flat_map-cons, flat_map, filed, Version, FileFault, Truncated, IsAnswer, IsFile, IsTruncated, HasOneAnswer, IsOfFile, IsValidIn, LayoutIsItsFile, PiecesHaveTheirSize, layout_in, Piece, spell, Body, Runs, Stage, Start, size, stored_of, IsNoFile, DamagedFileStays, IsOfBreak, IsOfBytes, Run, ◌⊎◌, IfSome, Bor, option_map, All, option_copied, All-head, Updating, verdict, changed, UpdateIsLater, Content, Refusal, Update, Encodes, Precedes, bytes_in, IsValidStored, EncodedIsLayout, layout, AgreesOutside, IsBeside, Encoded, Span, Executes, Outcome, Printed, Changed, AreOf, IsBefore, IsOf, IsUpdate, encoded_by, encoded_in, HasBytes, first_there, kept_by, Ends, Becomes, Bytes, DiffersWithin, IsAnyFile, Stays, Encoding, ◌≢◌, IsFileBatch, written, ByBatch, ByCommand, ByRequest, FaultChangesNothing, fault_of_batch, FileBatchEnd, RunsLines, IsSingle, AnswersLines, BatchRun, CommandRun, Computes, IsFirst, RequestRun, fault_of, first_of, begun, Entry, DatabaseIsWithin, State, FileIsLayout, LayoutIsNoOther, Finds, HasNone, Reads, IsUnread, Stream, File, CannotOpen, CannotWrite, AppendsFront, Appends-kept, IsReading, reading, Unread, Did, IsCreate, OutputStays, newest, IsRead, kept_unless, Damaged, Ended, Event, HappenedAll, IsFileOf, Keeping, KeepsNone, Killed, Leads, LeadsAll, LeadsKilled, RunIsComputed, RunsFollowSpecification, Standing, StandsBy, WasKilled, create_verdict, created, ActsOn, Begins, DatabaseStays, RevertStays, CreatedIsValid, Action, Reverted, Stands, stored_after, IsValidDatabase, Ran, Stopped, Tally, Told, no_lines, state_after, RunOver, command_of, reading_turn, text_turn, verdict_turn, words_turn, text_in, words_of, StreamFault, IsValidState, IsLinesOn, err_from_is_err_and, writes_stop, writes_then, report_if, report_of, USAGE, if◌then◌else◌, Writes, error_line, is_usage_error, task_fault_text, beside, started, MayReplace, map, take, string_bytes}
unfoldable pub use Rattle.rrd_store.proofs.Names.{turn}
pub use Rattle.rrd_store.proofs.Damaged.{damaged_stays}
pub use Rattle.rrd_store.proofs.Encodings.{taken_file, taken_is, has_none, before_of, both_kept, kept_bytes, may_lent}
pub use Rattle.rrd_store.proofs.FaultRuns.{fault_changes_nothing}
pub use Rattle.rrd_store.proofs.Kept.{appends_nothing, executes_kept, keeps_same, stays_same}
pub use Rattle.rrd_store.proofs.Left.{left_by}
pub use Rattle.rrd_store.proofs.Sessions.{lines_read, ok_same, kept_read}
pub use Rattle.rrd_tool.proofs.Moved.{executes_same}
pub use Rattle.rrd_store.proofs.Standings.{run_computed, runs_computed}
