-- The command with only the named subcommand serves, and enters that subcommand.
use Rattle.std.specs.Prelude.{◌≡◌, ℕ, List, ◌∷◌, [], Option, Some, None, IfSome, Result, drop, true, option_map}
use Rattle.rrd_tool.proofs.Names.{arith, ◌∙◌, refl, ap, bytes_eq, bytes_eq-Decides, App, Row, Text, subcommand_of, Serves, app_with, first_name, entered_of, line_of, rrdi_app, shape_of, values_of, command_names, name_in, name_text, Meets, Command, CommandName, LineFault}
use Rattle.rrd_tool.proofs.OnLiterals.{shapes_on_literals}
use Rattle.rrd_tool.proofs.Finding.{found_passes}
use Rattle.rrd_tool.proofs.FirstWord.{entered_by, serves}
use Rattle.rrd_tool.specs.declared.commands.name.CommandName.TheVariants as verb

-- each name's command serves words that begin with the name
named_serves : (name : CommandName) (rest : List Text) → Serves (app_with (shape_of name)) (name_text name ∷ rest)
unfolding shapes_on_literals
named_serves verb.Create = serves (app_with (shape_of verb.Create)) (name_text verb.Create) (refl, refl, refl, refl, refl, refl, refl)
named_serves name = serves (app_with (shape_of name)) (name_text name) (refl, refl, refl, refl, refl, refl, refl)

same_name : (a b : Text) → bytes_eq a b ≡ true → a ≡ b
same_name a b t = (bytes_eq-Decides a b).0 t

-- a word that is a name's is that name's word
pub name_is : (word : Text) (name : CommandName) → name_in word ≡ Some name → word ≡ name_text name
name_is word name h = same_name word (name_text name) (found_passes (λ item. bytes_eq word (name_text item)) command_names name h)

-- words that begin with a command's name begin with the text of the name
pub first_is : (words : List Text) (name : CommandName) → first_name words ≡ Some name → words ≡ name_text name ∷ drop 1 words
first_is [] name e = cc
first_is (w ∷ ws) name e = ap (λ y. y ∷ ws) (name_is w name e)

-- a command of that name's shape serves these words
pub serves_as : (app : App) (name : CommandName) (words : List Text) → app ≡ app_with (shape_of name) → first_name words ≡ Some name → Serves app words
serves_as app name words e h = rw (e, first_is words name h) (named_serves name (drop 1 words))

-- ---- the subcommand that is entered

-- the name of the subcommand that was entered
abbrev entered_name : Option (Text × List Row) → Option Text
entered_name entered = option_map (λ (e : Text × List Row). e.0) entered

-- words that begin with a name enter the subcommand of that name
enters_named : (name : CommandName) (rest : List Text) → entered_name (subcommand_of rrdi_app (name_text name ∷ rest)) ≡ Some (name_text name)
unfolding shapes_on_literals
enters_named verb.Create rest = ap entered_name (entered_by rrdi_app (name_text verb.Create) rest refl refl)
enters_named name rest = ap entered_name (entered_by rrdi_app (name_text name) rest refl refl)

values_read : (name : CommandName) (now : ℕ) (entered : Option (Text × List Row)) (r : Result Command LineFault) → entered_name entered ≡ Some (name_text name)
    → IfSome entered (λ e. Meets (values_of name e.1 now) r) → IfSome (line_of entered now) (λ read. Meets read r)
values_read name now None r e h = tt
values_read name now (Some p) r e h = grind arith

-- what the values are read as by the words' name is what the words are read as
pub read_as : (name : CommandName) (words : List Text) (now : ℕ) (entered : Option (Text × List Row)) (r : Result Command LineFault)
    → first_name words ≡ Some name → entered ≡ entered_of words → IfSome entered (λ e. Meets (values_of name e.1 now) r) → IfSome (line_of entered now) (λ read. Meets read r)
unfolding entered_of
read_as name words now entered r h e meets =
    values_read name now entered r (ap entered_name (e ∙ ap (subcommand_of rrdi_app) (first_is words name h)) ∙ enters_named name (drop 1 words)) meets
