-- Definition: the names of the commands (RRDtool's; revert is this project's).
use Rattle.std.specs.Prelude.{List, [], ◌∷◌, Option, codes}
use Rattle.rrd_tool.specs.Names.{Text}
use Rattle.rrd_tool.specs.Fields.{named}
use Rattle.rrd_tool.specs.declared.commands.name.CommandName.{CommandName}
use Rattle.rrd_tool.specs.declared.commands.name.CommandName.TheVariants as verb

abbrev pub name_text : CommandName → Text
name_text verb.Create = codes "create"
name_text verb.Update = codes "update"
name_text verb.Fetch = codes "fetch"
name_text verb.Tune = codes "tune"
name_text verb.Resize = codes "resize"
name_text verb.First = codes "first"
name_text verb.Last = codes "last"
name_text verb.LastUpdate = codes "lastupdate"
name_text verb.Info = codes "info"
name_text verb.Revert = codes "revert"

-- all commands, in the order in which clap has them
abbrev pub command_names : List CommandName
command_names =
    verb.Create ∷ verb.Update ∷ verb.Fetch ∷ verb.Tune ∷ verb.Resize ∷ verb.First ∷
    verb.Last ∷ verb.LastUpdate ∷ verb.Info ∷ verb.Revert ∷ []

-- the command with this name; `None` for another word
abbrev pub name_in : Text → Option CommandName
name_in word = named name_text command_names word
