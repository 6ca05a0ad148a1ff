-- The names that the proofs of functions import, passed on from one place. Declares nothing.
pub use Rattle.std.specs.Prelude.{◌≡◌, false, ◌||◌, ◌++◌, ◌∷◌, ℕ, Bool, true, List, [], Option, Some, None, Result, Ok, Err, map, ◌+◌, ◌*◌, ◌/◌, ◌≤◌, ◌<◌, length, nat_lt, drop, suc, IfSome, option_map, ◌&&◌, cond, is_some, zero, take, nat_le, ◌⊎◌, if◌then◌else◌, OnOk, ⊤, ◌-◌, codes, slice_get, min, IfNone, slice_index_or, ◌≢◌, ℤ, pos, slice_index, not, Box, encode_utf8, OnErr, is_ok, IfOk, ◌^◌}
pub use Rattle.rrd_tool.proofs.Names.{◌∙◌, GoesOnBy, IsUpdated, are_values, begins_with_minus, list_all-map, nil_from_length, ap, ap₂, AddsArg, AddsSubcommand, App, Rule, rule_of, with_rule, with_subcommand, Arg, Command, HasApp, sym, refl, append_assoc, append-nil, Appends, Consumes, Keeps, Appends-trans, Consumes-trans, is_err, Ran, Stopped, Tally, Told, Turn, is_told, line_told, state_after, tallied, tally_after, text_of, Answers, AppendsSome, Performs, is_empty, last_part, lines_of, whole_lines, AppendsFront, WriteFault, Appends-kept, subst, arith, ⊎_elim, AllByRecursion, find, filter, enumerate_from, option_or, cases_Bool, nat_tests, mul-le-mul_left, Function, RraDef, Candidate, Chosen, FetchRequest, Refusal, BadTime, BadSpan, Rra, Content, best, candidate, candidates, choice, covers, is_farther, is_nearer, same_function, span, span_of, span_rows, taken, unless_refused, IsValid, IsValidArchive, ◌refuses◌, first_refusal, IsReadable, present, get_or, Text, DsDef, definitions_of, archives_in, definition_of, sources_in, Meets, each_of, or_fault, LineFault, Usage, BadWord, OutOfMemory, Definition, add-one, drop-cons, Unread, ◌>>=◌, Part, bytes_eq, bytes_eq-Decides, Row, subcommand_of, Serves, app_with, first_name, line_of, shape_of, values_of, command_names, name_in, name_text, CommandName, cond_both, list_all, fold, option_map_or, Kinds, Shape, fault_of, is_simple, is_simple_and_free, or_else, built_fault, check_fault, defaults_fault, entered_fault, is_free_app, level_fault, other_fault, settle_fault, step_fault, Names, Walk, after_step, answers_to, finished, idle, nothing_held, settled, subcommand_met, subcommand_or_other, walk, walk_from, argument_words, built, entered, label_of, names_of, rows_at, both, walk_stopped, stopped_fault, nat_eq, length-append, inl, inr, has_end, is_plain, is_text, without_cr, BuffersBy, IsLost, Ending, Plain, Cr, Lost, State, Stored, Moves, Tallies, Refusals, StandsFor, IsSplitOnceResult, split_parts, Lacks, list_any-Lacks, list_any-at, before_first-at, after_first-at, slice_split-Lacks, slice_split-at, cut_of, pieces, take_more, cases_lt, slice_get_read, writes_stop, writes_then, names_text, texts_below, le-div, Cell, CreateSpec, create_verdict, created, CreatedIsValid, Entry, Changed, Reverted, Stands, stored_after, Action, verdict, ActsOn, Begins, Effect, Makes, Changes, Reverts, Shows, is_change, stored_next, stored_of, next, text_on, verdict_on, first_state, Affects, Comes, IsFault, database_left, fault_left, has_changed, Asks, line_turns, Prints, PrintsBy, fault_line, text_in, words_of, IsReading, effect_turn, reading_turn, refusal_turn, text_turn, unless_short, words_turn, Outcome, Fault, Line, Refused, NoDatabase, Output, unwrap_or, result_map_both, result_ok, result_err, oldest_time, effect, fetch_text, time_line, Executes, PrintsSome, eqb-true, take-add, drop_more, take-append-drop, take_all, list_any, IsFirstByte, is_byte, HasKind, IsAmong, kind_of, Error, rows_of, found_of, subcommand_rows, check_kinds, Held, stop_after, explicit_source, is_given, SubCommand, out-SubCommand, box_value, IsTaken, chars, bundle_fault, bundle_step_fault, long_fault, short_fault, stray_fault, turn_fault, use_fault, after_flag, arg_by_index, arg_by_long, arg_by_short, bundle, bundle_step, has_long, has_short, plain, takes_values, long_of, short_of, DisplayHelp, IsRefused, IsAscii, IsUtf8, IsUtf8-from_ascii, if_some, is_blank, words_after, rules, IfOk-weaker, app_of, first_value-rows, raw_values-rows, err_from_is_err_and, length-drop, take_rest, Buffers, command_turn, no_lines, Consumes-nil, get_or-map, length-map, new_app, letter_rule, many_rule, option_rule, set, to_z-of_z, length-set, Puts, cell_text, time_text, puts_before, puts_byte, cell_at, row_text, to_z, w64, to_z_pos, row_of, row_room, fetch_answer, required_rule, header_text, rows_text, FitsSigned, first_text, archive_at, head_text, info_text, source_at, archive_text, Raw, Unknown, source_text, last_text, raw_text, raw_at, lastupdate_text, raws_text, Writes, subcommand_rows_of, out-ArgMatches, first_of, whole_of, archive_tune_of, setting_of, tune_of, bound_of, name_of, optional, Name, ArchiveTune, word_rule, sample_of, Sample, named, each_in, drop-drop, is_byte2}
unfoldable pub use Rattle.rrd_tool.proofs.Names.{choice_within, entered_of, rrdi_app, walk_fault, walked, turn, clap_on_literals, create_app, fetch_app, first_app, resize_app, tune_app, update_app, command_of, flags_fault, bundle_met}
pub use Rattle.rrd_tool.proofs.Added.{nested, added}
pub use Rattle.rrd_tool.proofs.BatchLemmas.{performed_stopped, performed_text, refused_answers, refused_stopped, feed_fails, feed_goes, last_fails, last_goes, none_left, ran_none}
pub use Rattle.rrd_tool.proofs.Choosable.{chosen_readable}
pub use Rattle.rrd_tool.proofs.Defined.{read_fails, read_more, HasRead}
pub use Rattle.rrd_tool.proofs.Each.{meets_first, word_more, word_fails, prepend}
pub use Rattle.rrd_tool.proofs.Fast.{first_is, read_as, serves_as}
pub use Rattle.rrd_tool.proofs.LineLemmas.{no_part, no_whole, part_append, whole_append, at_ok, none_empty, on_ok, one_part, one_whole, some_held, cut_none, lost_cr, lost_byte, lost_long, kept_text, lost_ended, cr_dropped, cr_kept}
pub use Rattle.rrd_tool.proofs.MoveLemmas.{MovesStopped, moves_front, moves_more, MovesRan}
pub use Rattle.rrd_tool.proofs.Moved.{changed_once, keeps, updates}
pub use Rattle.rrd_tool.proofs.Pieces.{cut_is, pieces_none, pieces_some}
pub use Rattle.rrd_tool.proofs.PrintLemmas.{names_more, within, front_below, one_more, one_stops, at_place, below_more}
pub use Rattle.rrd_tool.proofs.RowLemmas.{cell_read, one_put, room_step, div_some, min_first}
pub use Rattle.rrd_tool.proofs.RunLemmas.{performs_as, asks_command, asks_fault, asks_nothing, asks_short, asks_usage, no_length, some_length, done_performs, flushed_performs, refused_performs, unflushed_performs, unwritten_performs, appends_nothing, shown_comes, runs_on}
pub use Rattle.rrd_tool.proofs.SaidLemmas.{fault_says, shown_says, prints_some}
pub use Rattle.rrd_tool.proofs.SearchLemmas.{found_line, found_none, line_inner, found_first, found_parts}
pub use Rattle.rrd_tool.proofs.Simple.{refused}
pub use Rattle.rrd_tool.proofs.Subcommand.{read_from, taken_enters, joined}
pub use Rattle.rrd_tool.proofs.Unknown.{unnamed_refused}
pub use Rattle.rrd_tool.proofs.Values.{last_alone, lastupdate_alone, info_alone, revert_alone, update_read}
pub use Rattle.rrd_tool.proofs.WordLemmas.{plain_utf8, on_err, plain_take, plain_drop, some_words, words_first, words_last}
