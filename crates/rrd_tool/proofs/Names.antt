-- The names from outside that the proofs import, passed on from one place. Declares nothing.
pub use Rattle.rrd_spec.specs.Names.{◌∙◌, ap, ap₂, sym, refl, append_assoc, append-nil, subst, get_or, add-one, length-append, unwrap_or, set, to_z, w64, FitsSigned, Puts, whole_of, cell_text, time_text, raw_text, Appends-kept, writes_stop, writes_then, AppendsFront, Writes, Cell, Name, Raw, WriteFault, Function, drop-cons, take-append-drop, take_all, length-drop, drop-drop, box_value, Appends, Consumes, Keeps, AllByRecursion, find, filter, enumerate_from, list_all, list_any, option_or, option_map_or, fold, is_err, result_map_both, result_ok, result_err, bytes_eq, chars, IsAscii, IsUtf8}
pub use Rattle.rrd_spec.proofs.Names.{arith, ⊎_elim, nat_eq, inl, inr, rules, to_z-of_z, puts_before, puts_byte, Appends-trans, Consumes-trans, Consumes-nil, mul-le-mul_left, take-add, cases_Bool, cond_both, cases_lt, eqb-true, nat_tests, to_z_pos, take_more, drop_more, take_rest, get_or-map, length-map, length-set, le-div, slice_get_read, IfOk-weaker, err_from_is_err_and, bytes_eq-Decides, IsUtf8-from_ascii, IsSplitOnceResult, split_parts}
pub use Rattle.clap.specs.Words.{AddsArg, AddsSubcommand, Kinds, Shape, HasKind, IsAmong, rows_of, subcommand_rows}
pub use Rattle.rrd_tool.specs.Names.{App, Rule, rule_of, with_rule, with_subcommand, Text, Row, subcommand_of, fault_of, is_simple, is_simple_and_free, found_of, app_of, new_app, subcommand_rows_of, first_of, Arg, Error, DisplayHelp, out-SubCommand, out-ArgMatches, SubCommand, Unknown, Refusal, BadTime, BadSpan, CreateSpec, Candidate, Chosen, FetchRequest, ArchiveTune, DsDef, RraDef}
pub use Rattle.rrd_spec.specs.Words.{best, candidate, candidates, choice, covers, is_farther, is_nearer, same_function, span, span_of, span_rows, taken, unless_refused, create_verdict, created, ◌refuses◌, first_refusal, verdict, Rra, Content, oldest_time, cell_at, Entry, State, Stored, Changed, Reverted, Stands, stored_after, Action, ActsOn, Begins, CreatedIsValid, present, IsValid, IsValidArchive}
unfoldable pub use Rattle.rrd_spec.proofs.Names.{choice_within}
pub use Rattle.rrd_tool.specs.Words.{GoesOnBy, IsUpdated, are_values, begins_with_minus, samples_of, letter_rule, many_rule, option_rule, required_rule, word_rule, HasApp, Serves, app_with, first_name, IsRefused, IsTaken, Ran, Stopped, Tally, Told, Turn, is_told, line_told, state_after, tallied, tally_after, text_of, no_lines, Answers, AppendsSome, Performs, Moves, Tallies, Asks, line_turns, effect_turn, reading_turn, refusal_turn, text_turn, unless_short, words_turn, command_turn, line_of, shape_of, values_of, effect, definitions_of, archives_in, definition_of, sources_in, names_text, texts_below, fetch_text, row_text, row_of, fetch_answer, header_text, rows_text, IsReadable, row_room, first_text, archive_at, head_text, info_text, source_at, archive_text, source_text, time_line, last_text, raw_at, lastupdate_text, raws_text, command_names, name_in, name_text, IsReading, archive_tune_of, setting_of, tune_of, sample_of, StandsFor, Effect, Makes, Changes, Reverts, Shows, is_change, stored_next, stored_of, next, text_on, verdict_on, first_state, Affects, Comes, IsFault, database_left, fault_left, has_changed, Executes, PrintsSome, Prints, PrintsBy, fault_line, cut_of, pieces, bound_of, name_of, named, each_in, Meets, each_of, or_fault, Unread, ◌>>=◌, optional, is_empty, last_part, lines_of, whole_lines, has_end, is_plain, is_text, without_cr, text_in, words_of, if_some, is_blank, words_after, BuffersBy, IsLost, Buffers, Command, Definition, CommandName, Outcome, Fault, Line, Refused, NoDatabase, Output, LineFault, Usage, BadWord, OutOfMemory, Part, Sample, Ending, Plain, Cr, Lost, Refusals}
pub use Rattle.std.proofs.lemmas.List.{nil_from_length}
pub use Rattle.std.proofs.lemmas.List.Folds.{list_all-map}
pub use Rattle.clap.proofs.CutLemmas.{Lacks, list_any-Lacks, list_any-at, before_first-at, after_first-at, slice_split-Lacks, slice_split-at}
pub use Rattle.clap.proofs.FaultLemmas.{stopped_fault}
unfoldable pub use Rattle.clap.proofs.OnLiterals.{clap_on_literals}
pub use Rattle.clap.proofs.WalkLemmas.{both, walk_stopped, first_value-rows, raw_values-rows}
pub use Rattle.clap.specs.Facts.{explicit_source}
pub use Rattle.clap.specs.Faults.{built_fault, check_fault, defaults_fault, entered_fault, is_free_app, level_fault, other_fault, settle_fault, step_fault, bundle_fault, bundle_step_fault, long_fault, short_fault, stray_fault, turn_fault, use_fault}
unfoldable pub use Rattle.clap.specs.Faults.{walk_fault, flags_fault}
pub use Rattle.clap.specs.Kinds.{or_else, check_kinds}
pub use Rattle.clap.specs.Lexer.{long_of, short_of}
pub use Rattle.clap.specs.Simple.{argument_words, built, entered, label_of, names_of, rows_at}
pub use Rattle.clap.specs.Takes.{is_given}
pub use Rattle.clap.specs.Values.{kind_of}
pub use Rattle.clap.specs.Walk.{Names, Walk, after_step, answers_to, finished, idle, nothing_held, settled, subcommand_met, subcommand_or_other, walk, walk_from, Held, stop_after, after_flag, arg_by_index, arg_by_long, arg_by_short, bundle, bundle_step, has_long, has_short, plain, takes_values}
unfoldable pub use Rattle.clap.specs.Walk.{walked, bundle_met}
pub use Rattle.memchr.specs.Find.{IsFirstByte, is_byte, is_byte2}
unfoldable pub use Rattle.rrd_tool.specs.Arguments.Taken.{entered_of}
unfoldable pub use Rattle.rrd_tool.specs.Batch.Run.{turn, command_of}
unfoldable pub use Rattle.rrd_tool.specs.Commands.{rrdi_app}
unfoldable pub use Rattle.rrd_tool.specs.Commands.Create.{create_app}
unfoldable pub use Rattle.rrd_tool.specs.Commands.Fetch.{fetch_app}
unfoldable pub use Rattle.rrd_tool.specs.Commands.First.{first_app}
unfoldable pub use Rattle.rrd_tool.specs.Commands.Resize.{resize_app}
unfoldable pub use Rattle.rrd_tool.specs.Commands.Tune.{tune_app}
unfoldable pub use Rattle.rrd_tool.specs.Commands.Update.{update_app}
