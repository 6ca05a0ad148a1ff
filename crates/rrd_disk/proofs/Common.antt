-- The names that the proofs of functions import, passed on from one place. Declares nothing.
pub use Rattle.rrd_disk.proofs.Names.{AreMore, AreOf, ArePut, AreTorn, Base, Becomes, BecomesOrNot, Begins, Bool, Bytes, Counts, Decodes, Did, Does, DoesOr, Err, Event, Fails, FailsToSize, FailsToWrite, FailsToWritePage, FileSpan, Found, HasNoChange, Held, IsFile, IsFileBatchOn, IsOpen, IsPartPut, IsReload, IsRun, IsSingleOn, IsSized, IsSizedOrNot, IsSome, IsSound, IsTrue, Keeping, KeepsGuard, Kept, Laws, List, Make, MakesSafely, Measures, Moves, None, Ok, OnErr, Open, Option, Ordered, Pipe, PutsSafely, Read, Readies, Rests, RestsFor, RunsOn, ShowsBytes, Some, Span, Stays, StaysLeft, Steps, Stored, Stores, StoresMaking, StoresRun, SurvivesMaking, SurvivesMeanwhile, SurvivesRun, Syncs, TellsMark, Unopened, Unwritable, Whole, World, Write, Writes, WritesPage, [], all_runs, ap, arith, batch_run, begins_with, bytes_after, bytes_of, command_run, common_steps, cut_mark, database_of, does_then, eqb-true, failed, false, from_be_bytes, held_after, holds_state, inl, inr, interrupted, is_honest_after, last_of, length, max, min, moves_fail, option_map, plain_left, refl, represented, request_run, rules, seen, seen_moves, state_of, steps_as, subst, sym, take, take-put_mid, take_all, then_sync, true, view_of, w64, world_after, ℕ, ◌++◌, ◌+◌, ◌-◌, ◌<◌, ◌↔◌, ◌∙◌, ◌≡◌, ◌≤◌}
unfoldable pub use Rattle.rrd_disk.proofs.Names.{file_end, mark_of}
pub use Rattle.rrd_disk.proofs.Calling.{IsGotSoFar, got_some, more_so_far}
pub use Rattle.rrd_disk.proofs.Doing.{counts_steps, did_failed, did_put, did_size, lost_did, page_fails, page_unmade, page_writes, part_any, part_fails, put_ended, put_failed_again, put_more, put_none, put_not, put_short, put_short_of, put_whole, reads_does, rests_moves, rests_steps, size_ended, size_failed_again, size_fails, size_none, sync_did, sync_keeps, whole_does}
pub use Rattle.rrd_disk.proofs.Failures.{change_begun, changed_begun, changes_ordered, failure_survived, interrupted_change}
pub use Rattle.rrd_disk.proofs.Faults.{of_place}
pub use Rattle.rrd_disk.proofs.FileRuns.{files_follow, run_from}
pub use Rattle.rrd_disk.proofs.Finishing.{finished, finished_sound, prepared_settles, reloaded, rests_settles}
pub use Rattle.rrd_disk.proofs.Forged.{cut_database, cut_marked, forged_none, if_none_at, if_some_at}
pub use Rattle.rrd_disk.proofs.Fronts.{whole}
pub use Rattle.rrd_disk.proofs.Headed.{log_other, log_past, log_word, not_equal, rest_of}
pub use Rattle.rrd_disk.proofs.Kills.{interrupted_run}
pub use Rattle.rrd_disk.proofs.Knowing.{got_behind, guards_kept, measures_longer, some_is}
pub use Rattle.rrd_disk.proofs.Lacking.{interrupted_makes, loads_sound, loads_unopened, making_survived, reopens_unopened, run_makes, run_makes_stored, run_stored, run_survives, safe_loaded, safe_put, safe_stored}
pub use Rattle.rrd_disk.proofs.Loaded.{begins_itself, decodes_front, no_file, reads_judged}
pub use Rattle.rrd_disk.proofs.Making.{bare_stays, closed_making, created_making, failed_making, first_making, found_making, interrupted_making, made_begun, made_safely, making_begun, making_ordered, marked_never, new_making, new_unmade, open_making, over_making, rests_unmarked, uncreated_making, unmade_by, unmade_safely, unmarked_twice, untruncated_making}
pub use Rattle.rrd_disk.proofs.Marked.{mark_shown, take_same}
pub use Rattle.rrd_disk.proofs.OpenRuns.{kept_as, kept_closed, kept_from, kept_none, open_files_follow, open_from, reload_between, reload_from, run_between}
pub use Rattle.rrd_disk.proofs.Parts.{within_page}
pub use Rattle.rrd_disk.proofs.Powering.{fault_power, first_power, made_power, or_failed, over_power, repaired_power, replaced_power, rested_power, rests_left, rests_stay, settled_power, unmarked_power, unready_power, unrepaired_power, unreplaced_power}
pub use Rattle.rrd_disk.proofs.Programs.{alive_kept, alive_reload, alive_run, kept_sound, killed_open, leaving, programs_follow}
pub use Rattle.rrd_disk.proofs.Repairing.{closed_unrepaired, fault_loaded, loaded_repaired, loaded_unrepaired, no_fault, prepared_broken, prepared_repaired, standing_loaded}
pub use Rattle.rrd_disk.proofs.Resting.{rests_trans}
pub use Rattle.rrd_disk.proofs.Safe.{as_left, became_safely, changed_safely, closed_safely, differs_by, failed_safely, found_safely, interrupted_survives, missing_safely, reopens, repaired_opens, rests_closed, rests_missing, rests_then, rests_then_unmarked, survives, surviving, tells_unmarked, unchanged_safely, unmarked_opens, unopened_as, unrepaired_opens, whole_differs_by, write_rests}
pub use Rattle.rrd_disk.proofs.SafeOpen.{open_loads, open_stores, open_survives, power_in_run, power_meanwhile, reopened_safe, rests_safe, rests_safe_closed}
pub use Rattle.rrd_disk.proofs.Spans.{are_more, more_pushed}
pub use Rattle.rrd_disk.proofs.Stages.{closed_loaded, fault_unmarked, loaded_as, loaded_unmarked, loads_closed, loads_from, marked_from, open_from_marked, open_from_unmarked, open_kept, prepared_unmarked, written_err, written_ok, written_sound}
pub use Rattle.rrd_disk.proofs.Storing.{any_enough, began_at, database_unmarked, does_falls, file_database, finds_closed, finds_there, found_there, if_ok_at, itself, loaded_same, says_at, sound_as, sound_at, stands_for, there_file, told_unmarked, whole_may_differ, written_from}
pub use Rattle.rrd_disk.proofs.Told.{records_exist}
pub use Rattle.rrd_disk.proofs.Writing.{after_near, closed_sound, created, failed_written, made_near, made_sound, missing_none, missing_sound, replaced, truncated, uncreated, unprepared_write, unreplaced, untruncated, unwritten, written_first, written_over}
