-- Definition: the commands: their names and shapes, how their values are parsed, and their effects (rrdcreate,
-- rrdupdate, rrdtune, rrdresize, rrdfetch, rrdfirst, rrdlast, rrdlastupdate, rrdinfo; revert is this project's).
use Rattle.std.specs.Prelude.{ℕ, List, Option, Result, Ok, option_and_then, option_map}
use Rattle.rrd_tool.specs.Names.{fold, App, Row, Text, new_app, with_subcommand, Resizing, TuningBy, Updating}
use Rattle.rrd_tool.specs.Arguments.{bare_top}
use Rattle.rrd_tool.specs.Effects.{Effect, Makes, Changes, Reverts, Shows}
use Rattle.rrd_tool.specs.Fields.Parts.{Unread}
use Rattle.rrd_tool.specs.Commands.Names.{name_in, command_names, name_text}
use Rattle.rrd_tool.specs.Commands.Create.{create_app, create_of}
use Rattle.rrd_tool.specs.Commands.Update.{update_app, update_of}
use Rattle.rrd_tool.specs.Commands.Tune.{tune_app, tune_of}
use Rattle.rrd_tool.specs.Commands.Resize.{resize_app, resize_of}
use Rattle.rrd_tool.specs.Commands.Fetch.{fetch_app, fetch_of, fetch_answer}
use Rattle.rrd_tool.specs.Commands.First.{first_app, first_from, first_text}
use Rattle.rrd_tool.specs.Commands.Last.{last_text}
use Rattle.rrd_tool.specs.Commands.LastUpdate.{lastupdate_text}
use Rattle.rrd_tool.specs.Commands.Info.{info_text}
use Rattle.rrd_tool.specs.declared.commands.Command.{Command}
use Rattle.rrd_tool.specs.declared.commands.Command.TheVariants as command
use Rattle.rrd_tool.specs.declared.commands.name.CommandName.{CommandName}
use Rattle.rrd_tool.specs.declared.commands.name.CommandName.TheVariants as verb
pub mod Names
pub mod Create
pub mod Update
pub mod Tune
pub mod Resize
pub mod Fetch
pub mod First
pub mod Last
pub mod LastUpdate
pub mod Info
pub mod Reading
pub mod Fetched

-- the shape of the command with a name; the shape of a command without arguments is only a name
abbrev pub shape_of : CommandName → App
shape_of verb.Create = create_app
shape_of verb.Update = update_app
shape_of verb.Fetch = fetch_app
shape_of verb.Tune = tune_app
shape_of verb.Resize = resize_app
shape_of verb.First = first_app
shape_of verb.Last = new_app (name_text verb.Last)
shape_of verb.LastUpdate = new_app (name_text verb.LastUpdate)
shape_of verb.Info = new_app (name_text verb.Info)
shape_of verb.Revert = new_app (name_text verb.Revert)

-- all commands
abbrev pub with_command : App → CommandName → App
with_command app name = with_subcommand app (shape_of name).top

unfoldable pub rrdi_app : App
rrdi_app = fold with_command bare_top command_names

-- the command that its values are parsed as
abbrev pub values_of : CommandName → List Row → ℕ → Result Command Unread
values_of verb.Create rows now = create_of rows now
values_of verb.Update rows now = update_of rows now
values_of verb.Fetch rows now = fetch_of rows now
values_of verb.Tune rows now = tune_of rows
values_of verb.Resize rows now = resize_of rows
values_of verb.First rows now = first_from rows
values_of verb.Last rows now = Ok command.Last
values_of verb.LastUpdate rows now = Ok command.LastUpdate
values_of verb.Info rows now = Ok command.Info
values_of verb.Revert rows now = Ok command.Revert

-- the command of the subcommand that was entered, from its name and its values; `None` for an unknown name
abbrev pub line_of : Option (Text × List Row) → ℕ → Option (Result Command Unread)
line_of entered now =
    option_and_then (λ e. option_map (λ name. values_of name e.1 now) (name_in e.0)) entered

-- the effect of a command
abbrev pub effect : Command → Effect
effect (command.Create spec) = Makes spec
effect (command.Update update) = Changes (Updating update)
effect (command.Tune tuning) = Changes (TuningBy tuning)
effect (command.Resize archive change rows) = Changes (Resizing archive change rows)
effect (command.Fetch request) = Shows (λ kept. fetch_answer kept.content request)
effect (command.First archive) = Shows (λ kept. first_text kept.content archive)
effect command.Last = Shows (λ kept. last_text kept.content)
effect command.LastUpdate = Shows (λ kept. lastupdate_text kept.content)
effect command.Info = Shows info_text
effect command.Revert = Reverts
