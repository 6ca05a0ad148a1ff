-- Glue: the words of this crate that contracts and the crates above import, passed on from one place.
pub use Rattle.rrd_tool.specs.Arguments.{are_values, bare_top, begins_with_minus, letter_rule, many_rule, option_rule, required_rule, word_rule}
pub use Rattle.rrd_tool.specs.Arguments.Shapes.{HasApp, IsParsedBy, IsRefused, Serves, app_with, first_name}
pub use Rattle.rrd_tool.specs.Arguments.Taken.{IsTaken}
pub use Rattle.rrd_tool.specs.Batch.{Counts, Ran, Stopped, Tally, Told, Turn, is_told, line_told, no_lines, state_after, tallied, tally_after, text_of}
pub use Rattle.rrd_tool.specs.Batch.Answers.{Answers, AppendsSome, Asks, Moves, MovesByCommand, MovesByLine, Performs, Tallies, line_turns}
pub use Rattle.rrd_tool.specs.Batch.Moved.{GoesOnBy, IsChangedBy, IsUpdate, IsUpdated, with_change}
pub use Rattle.rrd_tool.specs.Batch.Run.{RunOver, command_turn, effect_turn, reading_turn, refusal_turn, text_turn, unless_short, words_turn}
pub use Rattle.rrd_tool.specs.Commands.{effect, line_of, shape_of, values_of}
pub use Rattle.rrd_tool.specs.Commands.Create.{archive_of, archives_in, create_app, create_of, definition_of, definitions_of, share_of, source_of, sources_in}
pub use Rattle.rrd_tool.specs.Commands.Fetch.{fetch_answer, fetch_app, fetch_of, fetch_text, header_text, names_text, row_of, row_text, rows_text, texts_below}
pub use Rattle.rrd_tool.specs.Commands.Fetched.{IsReadable, row_room}
pub use Rattle.rrd_tool.specs.Commands.First.{first_app, first_from, first_text}
pub use Rattle.rrd_tool.specs.Commands.Info.{archive_at, archive_text, bound_text, head_text, info_text, numbered, setting, source_at, source_text}
pub use Rattle.rrd_tool.specs.Commands.Last.{last_text, time_line}
pub use Rattle.rrd_tool.specs.Commands.LastUpdate.{lastupdate_text, raw_at, raws_text}
pub use Rattle.rrd_tool.specs.Commands.Names.{command_names, name_in, name_text}
pub use Rattle.rrd_tool.specs.Commands.Reading.{IsReading}
pub use Rattle.rrd_tool.specs.Commands.Resize.{change_of, resize_app, resize_of}
pub use Rattle.rrd_tool.specs.Commands.Tune.{archive_tune_of, setting_of, tune_app, tune_of}
pub use Rattle.rrd_tool.specs.Commands.Update.{sample_of, samples_of, time_of, update_app, update_of, value_of}
pub use Rattle.rrd_tool.specs.Effects.{Changes, Effect, Makes, Reverts, Shows, StandsFor, first_state, is_change, next, stored_next, stored_of, text_on, verdict_on}
pub use Rattle.rrd_tool.specs.Execution.{Affects, Comes, Executes, IsFault, PrintsSome, RunsOn, database_left, fault_left, has_changed}
pub use Rattle.rrd_tool.specs.Execution.Printing.{Prints, PrintsBy}
pub use Rattle.rrd_tool.specs.Faults.{error_line, fault_line, fault_text, is_numbered, line_fault_text, unread_text, word_of}
pub use Rattle.rrd_tool.specs.Fields.{bound_of, cut_of, each_in, function_of, function_text, kind_of, kind_text, name_of, named, pieces}
pub use Rattle.rrd_tool.specs.Fields.Answers.{Meets}
pub use Rattle.rrd_tool.specs.Fields.Parts.{Unread, each_of, given, optional, or_fault, required, ◌>>=◌}
pub use Rattle.rrd_tool.specs.Lines.{has_end, if_some, is_blank, is_empty, is_plain, is_text, last_part, lines_of, text_in, whole_lines, without_cr, words_after, words_of}
pub use Rattle.rrd_tool.specs.Lines.Buffer.{Buffers, BuffersBy, IsLost}
pub use Rattle.rrd_tool.specs.declared.commands.Command.{Command}
pub use Rattle.rrd_tool.specs.declared.commands.create.Definition.{Definition}
pub use Rattle.rrd_tool.specs.declared.commands.name.CommandName.{CommandName}
pub use Rattle.rrd_tool.specs.declared.execution.Outcome.{Outcome}
pub use Rattle.rrd_tool.specs.declared.faults.Fault.{Fault}
pub use Rattle.rrd_tool.specs.declared.faults.Fault.TheVariants.{Line, NoDatabase, Output, Refused}
pub use Rattle.rrd_tool.specs.declared.faults.LineFault.{LineFault}
pub use Rattle.rrd_tool.specs.declared.faults.LineFault.TheVariants.{BadWord, OutOfMemory, Usage}
pub use Rattle.rrd_tool.specs.declared.faults.Part.{Part}
pub use Rattle.rrd_tool.specs.declared.faults.Part.TheVariants.{Sample}
pub use Rattle.rrd_tool.specs.declared.lines.Ending.{Ending}
pub use Rattle.rrd_tool.specs.declared.lines.Ending.TheVariants.{Cr, Lost, Plain}
pub use Rattle.rrd_tool.specs.declared.refusals.Refusals.{Refusals}
