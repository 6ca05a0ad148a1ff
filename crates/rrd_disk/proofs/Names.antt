-- The names from outside that the proofs import, passed on from one place. Declares nothing.
pub use Rattle.std.proofs.Common.{Bool, Err, IfNone, IfOk, IfSome, IsErr, IsOk, IsSome, IsTrue, List, None, Ok, OnErr, OnOk, Option, Result, Some, [], ap, arith, drop, false, get_or, get_or-drop, get_or-take, if◌then◌else◌, inl, inr, length, length-append, length-drop, length-take, lit<, map, max, min, nat_eq, nat_le, not, option_map, refl, replicate, rules, slice_index, subst, suc, sym, take, true, zero, ℕ, ◌%◌, ◌&&◌, ◌++◌, ◌+◌, ◌-◌, ◌<◌, ◌==◌, ◌||◌, ◌↔◌, ◌∙◌, ◌∷◌, ◌≡◌, ◌≤◌, ◌⊎◌}
pub use Rattle.std.proofs.Math.Bool.{or-true}
pub use Rattle.std.proofs.Math.Seq.{drop-append_seam, take-append-add, take-append_seam}
pub use Rattle.std.proofs.lemmas.Bool.{and_from, and_parts, cases_Bool, cases_lt, eq-eqb, eqb-true, false≢true, le-leb, leb-true, not-true, or_cases, true≢false}
pub use Rattle.std.proofs.lemmas.Grind.{common_steps, same_number_lists}
pub use Rattle.std.proofs.lemmas.List.{append_assoc, ext_get_or, get_or-append_right, get_or-replicate, get_or_append_left, get_or_past, length-replicate, length-take-le, take-append-drop, take-append-le, take-take, take_all, take_min}
pub use Rattle.std.proofs.lemmas.List.Elements.{All-more}
pub use Rattle.std.proofs.lemmas.List.Prefix.{front_from_reads, front_reads}
pub use Rattle.std.proofs.lemmas.Nat.{from_be_bytes-to_be_bytes_8}
pub use Rattle.std.proofs.lemmas.Slice.{take-put_mid}
pub use Rattle.std.proofs.lemmas.Slice.Eq.{bytes_eq-Decides}
pub use Rattle.std.specs.Int.{from_be_bytes, to_be_bytes, w64}
pub use Rattle.std.specs.Io.{ReadsAtMost}
pub use Rattle.rrd_change.proofs.Fronts.{begins_from, front_of}
pub use Rattle.rrd_change.proofs.Logs.{by_mark, cut_stands, is_cut, is_plain, log_read, plain_read}
pub use Rattle.rrd_change.proofs.Marking.{cut_under, plain_represents}
pub use Rattle.rrd_change.proofs.Outcomes.{broken_stand, rest_stands}
pub use Rattle.rrd_change.proofs.Overlaid.{settled_cut}
pub use Rattle.rrd_change.proofs.Placing.{in_left, in_right}
pub use Rattle.rrd_change.proofs.Reading.{change_stands, length-change}
pub use Rattle.rrd_change.proofs.Settling.{log_stands_all}
pub use Rattle.rrd_change.proofs.Standing.{standing_begins}
pub use Rattle.rrd_change.proofs.Stepping.{does_then, failed, moves_as, moves_fail, moves_then, seen_moves, steps_as, then_sync}
pub use Rattle.rrd_change.proofs.Restoring.{alone_left}
pub use Rattle.rrd_change.proofs.Stopping.{kept_left, left_held as left_represents, left_told, plain_left}
pub use Rattle.rrd_change.specs.Bytes.{StandsAt, begins_with}
pub use Rattle.rrd_change.specs.Calls.{AreAny, AreAt, ArePut, AreWholeOrNot, IsCut, IsFrontPut, IsSized, IsSizedOrNot, IsTorn}
pub use Rattle.rrd_change.specs.Changes.{Change, body_bytes, change_bytes}
pub use Rattle.rrd_change.specs.Found.{database_of}
pub use Rattle.rrd_change.specs.Laws.{IsLogged, IsUnderCut, first_of}
pub use Rattle.rrd_change.specs.Making.{IsEmpty, IsUnmade}
pub use Rattle.rrd_change.specs.Marks.{IsMarkOf}
pub use Rattle.rrd_change.specs.Outcomes.{AllStand, AllStandAsTold, IsEither, IsWhole}
pub use Rattle.rrd_change.specs.Repairs.{IsFound, IsLeft, IsLoose, IsOnDisk, IsStopped, LogEnd, Whole}
pub use Rattle.rrd_change.specs.Settled.{Cut, cut_mark, database_mark, log_mark, settled_by, spelled_tail, unmarked}
unfoldable pub use Rattle.rrd_change.specs.Settled.{mark_of, settled}
pub use Rattle.rrd_change.specs.Spans.{AgreesOutside, IsIn}
pub use Rattle.rrd_change.specs.States.{Began, IsAtRest, IsDatabase, IsLogFor, Represents, RepresentsEither, Tells}
pub use Rattle.rrd_change.specs.Views.{All, Counts, Does, Effect, Fails, FailsToSize, FailsToWrite, FailsToWritePage, FailsToWriteWhole, IsSynced, IsUnsynced, Moves, Reads, Stays, Steps, Stores, Writes, WritesPage, WritesWhole, seen}
pub use Rattle.rrd_change.specs.declared.calls.Syncs.{Syncs}
pub use Rattle.rrd_change.specs.declared.calls.Syncs.TheVariants.{Never, Ordered}
pub use Rattle.rrd_change.specs.declared.finding.FoundDatabase.{FoundDatabase}
pub use Rattle.rrd_change.specs.declared.finding.Mark.{Mark}
pub use Rattle.rrd_change.specs.declared.log.Base.{Base}
pub use Rattle.rrd_change.specs.declared.log.Log.{Log}
pub use Rattle.rrd_change.specs.declared.span.Span.{Span}
unfoldable pub use Rattle.rrd_file.specs.End.{file_end}
pub use Rattle.rrd_file.specs.Faults.{IsFault, IsFile, IsOfFile}
pub use Rattle.rrd_file.specs.Laws.{FrontHasTheFault, HasOneAnswer}
pub use Rattle.rrd_file.specs.Spans.{IsBeside}
pub use Rattle.rrd_file.specs.declared.encoded.Encoded.{Encoded}
pub use Rattle.rrd_file.specs.declared.fault.FileFault.{FileFault}
pub use Rattle.rrd_file.specs.declared.fault.FileFault.TheVariants.{BadBlock, BadEntry, NotOurs, OutOfMemory, Trailing, Truncated, Version as WrongVersion}
pub use Rattle.rrd_file.specs.declared.span.Span.{Span as FileSpan}
pub use Rattle.rrd_spec.specs.Journal.Survivors.{Stored}
pub use Rattle.rrd_store.proofs.Committed.{holds_state}
pub use Rattle.rrd_store.specs.Commits.{state_of}
pub use Rattle.rrd_store.specs.Runs.{IsOfPlace, Keeping, batch_run, command_run, request_run}
pub use Rattle.rrd_store.specs.Sessions.{IsFileBatchOn, IsInMemory, IsSingleOn, RunsOn}
pub use Rattle.rrd_store.specs.Single.{FindsOne}
pub use Rattle.rrd_store.specs.Storages.{Bytes, Decodes, DiffersWithin, Finds, HasNone, Held, IsAfterFailure, IsAnyFile, IsNoFile, Missing, Missing as NoFile}
pub use Rattle.rrd_store.specs.declared.faults.TaskFault.{TaskFault}
pub use Rattle.rrd_store.specs.declared.faults.TaskFault.TheVariants.{CannotOpen, CannotWrite, Command, File, Stream}
pub use Rattle.rrd_disk.specs.Asked.{FallsAsked, code_by, code_of, content_of, file_of, held_of, is_asked, is_honest_in, kind_of, start_by, view_of, world_asked, world_for, world_in, world_of}
pub use Rattle.rrd_disk.specs.Calls.{AreGot, Did, DidOr, Falls, IsCutShort, IsGot, IsGotAtOnce, IsPartPut, KeepsHeld, KeepsHeldFor, PlaceStays, Rests, RestsFor, opened}
pub use Rattle.rrd_disk.specs.Contents.{IsSound, StandFor, contents_after, is_honest_by, represented}
pub use Rattle.rrd_disk.specs.Entries.{SaysEntry}
pub use Rattle.rrd_disk.specs.Events.{Event, Got, Locked, Made, Measured, Missing as NotFound, NoLocks, Put, PutFailed, SizeFailed, Sized, Streamed, SyncFailed, Synced}
pub use Rattle.rrd_disk.specs.Fronts.{Begins}
pub use Rattle.rrd_disk.specs.Kills.{are_failed, interrupted, is_failed}
pub use Rattle.rrd_disk.specs.Known.{Measures, ShowsBytes, TellsMark}
pub use Rattle.rrd_disk.specs.Loading.{HasNoChange, IsFaultIn, IsForged, IsJudged, IsJudgedFault, IsStandingIn, is_fault_of_bytes, is_of_bytes}
pub use Rattle.rrd_disk.specs.Locks.{Guards, KeepsGuard, locked}
pub use Rattle.rrd_disk.specs.Making.{Had, HadNone, IsBare, IsGone, IsLacking, IsMadeAs, IsMadeOf, IsSafeAs, IsUnmadeOr, IsUnwritable, Lacks, Makes, MakesOrNot, MakesSafely, MayLoad, StaysUnmarked, StoresMaking, SurvivesMade, SurvivesMaking, SurvivesMakingFailure, is_safe_by}
pub use Rattle.rrd_disk.specs.OpenRuns.{AreOpenRuns, Finishes, IsKept, IsKeptOf, IsOpenRun, IsReload, LeavesSound, OpenFilesFollowSpecification, RecordedOpen, Settles, record_of}
pub use Rattle.rrd_disk.specs.Openings.{HasLength, IsNone, IsThere}
pub use Rattle.rrd_disk.specs.Power.{AreTorn, Follows, Leaves, moved, world_after, world_before}
pub use Rattle.rrd_disk.specs.Programs.{ArePrograms, AreSteps, End, IsEnd, IsKeeper, IsKilledOpenRun, IsLeaving, IsProgram, Keeper, Keeps, KilledIn, Left, Program, ProgramsFollowSpecification, Ran, Reread, Runs, Step, all_runs, end_run, last_of, record_after, record_at, runs_of, steps_run}
pub use Rattle.rrd_disk.specs.Replayed.{World, bytes_after, bytes_left, bytes_of, failures, held_after, is_honest_after, is_honest_call, is_honest_of, is_small, is_there, left, padded_or_not, part_after}
unfoldable pub use Rattle.rrd_disk.specs.Replayed.{is_honest_part, is_honest_read, overlaid, padded}
pub use Rattle.rrd_disk.specs.Runs.{AreHonest, AreRuns, FilesFollowSpecification, IsKilledRun, IsRecordOf, IsRun, Recorded, left_by}
pub use Rattle.rrd_disk.specs.Safe.{BeganAs, DoesSafely, DoesSafelyUnmarked, IsClosedAs, IsLeftAs, IsPut, IsSafeOpen, Opens, PutsSafely, Reopens, StaysSafe, StoresOpenRun, StoresRun, SurvivesAs, SurvivesInOpenRun, SurvivesMeanwhile, SurvivesOpenRun, SurvivesRun}
pub use Rattle.rrd_disk.specs.Storing.{AreMore, AreOf, Breaks, Changes, HasNoDatabase, IsAsLoaded, IsBased, IsFoundAs, IsLoaded, IsOpen, IsPrepared, IsSoundAs, IsWritten, Laws, Loads, LoadsAs, LoadsMarked, LoadsOpen, LoadsUnmarked, MayDiffer, Prepares, PreparesMarked, StaysAs, WritesAll, WritesFirst, WritesOver, alone, is_sound_by}
pub use Rattle.rrd_disk.specs.Surviving.{Becomes, BecomesOrNot, DoesOr, IsChange, IsChanged, IsMade, IsMadeOrNone, IsMaking, Readies, Replaces, ReplacesOrNot, StaysLeft, Survives, SurvivesFailure, SurvivesPower, found_after}
pub use Rattle.rrd_disk.specs.Told.{Call, HonestRecordsExist, Locks, Sizes, answer, opened_none, told, told_to, world_from}
pub use Rattle.rrd_disk.specs.declared.disk.Facts.{Facts}
pub use Rattle.rrd_disk.specs.declared.disk.Lock.{Lock}
pub use Rattle.rrd_disk.specs.declared.disk.LockResult.{LockResult}
pub use Rattle.rrd_disk.specs.declared.disk.LockResult.TheVariants.{NoLocks as Lacking, Taken}
pub use Rattle.rrd_disk.specs.declared.disk.Opening.{Opening}
pub use Rattle.rrd_disk.specs.declared.disk.Opening.TheVariants.{Make, Read, Write}
pub use Rattle.rrd_disk.specs.declared.file_bytes.Entry.{Entry}
pub use Rattle.rrd_disk.specs.declared.file_bytes.Entry.TheVariants.{Pipe}
pub use Rattle.rrd_disk.specs.declared.loading.Standing.{Standing}
pub use Rattle.rrd_disk.specs.declared.locks.LockedFile.{LockedFile}
pub use Rattle.rrd_disk.specs.declared.storage.Found.{Found}
pub use Rattle.rrd_disk.specs.declared.storage.Found.TheVariants.{Kept, Open, Unopened, Unwritable}
