-- What an argument or a subcommand more makes of a command's shape.
use Rattle.std.specs.Prelude.{◌≡◌, false}
use Rattle.rrd_tool.proofs.Names.{arith, AddsArg, AddsSubcommand, App, Rule, rule_of, with_rule, with_subcommand, Arg, HasApp}
use Rattle.clap.specs.declared.builder.command.Command.{Command}

pub added : (old new : Command) (a : Arg) (app : App) (r : Rule) → AddsArg old a new
    → HasApp app old → rule_of a ≡ r → a.global ≡ false → HasApp (with_rule app r) new
added old new a app r h o e l = grind arith

pub nested : (old sub new : Command) (app s : App) → AddsSubcommand old sub new
    → HasApp app old → HasApp s sub → HasApp (with_subcommand app s.top) new
nested old sub new app s h o e = grind arith
