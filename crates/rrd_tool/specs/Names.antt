-- Glue: the names from outside that definitions and contracts import, passed on from one place.
pub use Rattle.clap.specs.Words.{App, Row, Rule, Text, all_of, app_of, fault_of, first_of, found_of, is_simple, is_simple_and_free, new_app, new_rule, rows_of, rule_of, subcommand_of, subcommand_rows_of, with_rule, with_subcommand}
pub use Rattle.clap.specs.declared.builder.action.ArgAction.TheVariants.{Append}
pub use Rattle.clap.specs.declared.builder.arg.Arg.{Arg}
pub use Rattle.clap.specs.declared.builder.command.Command.{Command}
pub use Rattle.clap.specs.declared.builder.command.Command.TheViews.{out-Command}
pub use Rattle.clap.specs.declared.error.Error.{Error}
pub use Rattle.clap.specs.declared.error.kind.ErrorKind.TheVariants.{DisplayHelp}
pub use Rattle.clap.specs.declared.parser.matches.ArgMatches.{ArgMatches}
pub use Rattle.clap.specs.declared.parser.matches.ArgMatches.TheViews.{out-ArgMatches, out-SubCommand}
pub use Rattle.clap.specs.declared.parser.matches.SubCommand.{SubCommand}
pub use Rattle.rrd_fixed.specs.declared.raw.Raw.TheVariants.{Unknown}
pub use Rattle.rrd_spec.specs.Names.{Appends, AppendsFront, Cell, Consumes, Function, IsAtEnd, Keeps, Kind, Name, Puts, Raw, WriteFault, Writes, after_first, before_first, bytes_eq, cell_text, find, fits, fold, list_all, list_any, number_of, option_map_or, raw_text, result_err, result_map_both, result_ok, signed_text, slice_split, time_text, unwrap_or, whole_of}
pub use Rattle.rrd_spec.specs.Words.{Changed, Content, DatabaseChange, Entry, Resizing, Reverted, Stands, State, Stored, TuningBy, Updating, after, cell_at, changed, choice, create_verdict, created, definitions, is_addition, journal_of, oldest_time, refusal_text, reverted, survived, verdict}
pub use Rattle.rrd_spec.specs.declared.refusal.Refusal.{Refusal}
pub use Rattle.rrd_spec.specs.declared.refusal.Refusal.TheVariants.{BadSpan, BadTime, NothingToRevert}
pub use Rattle.rrd_spec.specs.declared.requests.create.CreateSpec.{CreateSpec}
pub use Rattle.rrd_spec.specs.declared.requests.fetch.Candidate.{Candidate}
pub use Rattle.rrd_spec.specs.declared.requests.fetch.Chosen.{Chosen}
pub use Rattle.rrd_spec.specs.declared.requests.fetch.FetchRequest.{FetchRequest}
pub use Rattle.rrd_spec.specs.declared.requests.resize.Change.{Change}
pub use Rattle.rrd_spec.specs.declared.requests.tune.ArchiveTune.{ArchiveTune}
pub use Rattle.rrd_spec.specs.declared.requests.update.Given.{Given}
pub use Rattle.rrd_spec.specs.declared.requests.update.Sample.{Sample}
pub use Rattle.rrd_spec.specs.declared.settings.DsDef.{DsDef}
pub use Rattle.rrd_spec.specs.declared.settings.RraDef.{RraDef}
