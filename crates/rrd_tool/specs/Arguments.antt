-- Definition: the arguments of a command, as clap parses them.
use Rattle.std.specs.Prelude.{◌==◌, ◌∷◌, ℕ, Bool, List, [], Some, false, not, true, codes}
use Rattle.rrd_tool.specs.Names.{list_all, unwrap_or, App, Row, Rule, Text, all_of, new_app, new_rule, Append}
pub mod Taken
pub mod Shapes

-- the option `--long VALUE`
abbrev pub option_rule : Text → Text → Rule
option_rule id long = record (new_rule id) { long = Some long }

-- the option `--long VALUE` or `-letter VALUE`
abbrev pub letter_rule : Text → Text → ℕ → Rule
letter_rule id long letter = record (new_rule id) { long = Some long; short = Some letter }

-- an argument that is required
abbrev pub required_rule : Text → Rule
required_rule id = record (new_rule id) { required = true }

-- an argument that may be left out
abbrev pub word_rule : Text → Rule
word_rule id = new_rule id

-- an argument with any number of values
abbrev pub many_rule : Text → Rule
many_rule id = record (new_rule id) { action = Some Append }

abbrev pub bare_top : App
bare_top = record (new_app (codes "rrdi")) {
  top = record (new_app (codes "rrdi")).top {
    no_binary_name = true;
    subcommand_required = true;
    disable_help_subcommand = true;
  };
}

-- the text is an option, and neither a command nor a file
abbrev pub begins_with_minus : Text → Bool
begins_with_minus [] = false
begins_with_minus (b ∷ bs) = b == 45

-- no text is an option
abbrev pub are_values : List Text → Bool
are_values words = list_all (λ word. not (begins_with_minus word)) words

-- the values of an argument that may have any number of them
abbrev pub words_of : Text → List Row → List Text
words_of id rows = unwrap_or (all_of id rows) []
