-- Texts that aren't empty: what prints prints something.
use Rattle.std.specs.Prelude.{◌≡◌, ◌++◌, ◌∷◌, [], ℕ, Bool, false, List, Option, Some, None, Result, Ok, Err, ℤ, codes, option_map, pos}
use Rattle.rrd_tool.proofs.Names.{arith, ◌∙◌, ap, sym, refl, unwrap_or, result_map_both, result_ok, result_err, oldest_time, Stored, Refusal, effect, time_line, Effect, Makes, Changes, Reverts, Shows, is_change, text_on, verdict_on, Comes, Executes, PrintsSome, fault_left, has_changed, fault_line, is_empty, Command, Outcome, Fault, Refused}
use Rattle.rrd_tool.specs.declared.commands.Command.TheVariants as command

-- what stands behind something
some_last : (xs ys : List ℕ) → is_empty ys ≡ false → is_empty (xs ++ ys) ≡ false
some_last [] ys h = h
some_last (x ∷ xs) ys h = refl

-- a text of which some is not written
pub unwritten_some : (text front : List ℕ) (next : ℕ) (rest : List ℕ) → text ≡ front ++ next ∷ rest → is_empty text ≡ false
unwritten_some text front next rest h = ap is_empty h ∙ some_last front (next ∷ rest) refl

-- the line of a fault
pub fault_says : (fault : Fault) → is_empty (fault_line fault) ≡ false
fault_says fault = refl

-- a time, and a line's end
line_says : (time : ℤ) → is_empty (time_line time) ≡ false
line_says time = some_last _ (codes "\n") refl

-- an answer that is a text
answer_says : {A : Type 0} (text : A → List ℕ) (answer : Result A Refusal) → ((x : A) → is_empty (text x) ≡ false)
    → result_err (result_map_both text (λ refusal. refusal) answer) ≡ None
    → is_empty (unwrap_or (result_ok (result_map_both text (λ refusal. refusal) answer)) []) ≡ false
answer_says text (Ok x) some h = some x
answer_says text (Err refusal) some h = absurd cc

-- what it shows is some text
abbrev Says : Effect → Type 0
Says (Makes spec) = Unit {0}
Says (Changes change) = Unit {0}
Says Reverts = Unit {0}
Says (Shows show) = (kept : Stored) → result_err (show kept) ≡ None → is_empty (unwrap_or (result_ok (show kept)) []) ≡ false

each_says : (asked : Command) → Says (effect asked)
each_says (command.Fetch request) = grind arith
each_says (command.First archive) = λ kept h. answer_says time_line (oldest_time kept.content archive) line_says h
each_says command.Last = λ kept h. line_says (pos kept.content.last)
each_says command.LastUpdate = λ kept h. refl
each_says command.Info = λ kept h. refl
each_says x = tt

no_fault : (refusal : Option Refusal) → option_map Refused refusal ≡ None → refusal ≡ None
no_fault None h = refl
no_fault (Some refusal) h = absurd cc

effect_says : (kept : Option Stored) (e : Effect) → Says e → verdict_on kept e ≡ None → false ≡ is_change e → is_empty (text_on kept e) ≡ false
effect_says kept (Makes spec) says h n = absurd cc
effect_says kept (Changes change) says h n = absurd cc
effect_says kept Reverts says h n = absurd cc
effect_says None (Shows show) says h n = absurd cc
effect_says (Some kept) (Shows show) says h n = says kept (no_fault (result_err (show kept)) h)

-- a command that is accepted and changes nothing prints something
pub shown_says : (kept : Option Stored) (asked : Command) → verdict_on kept (effect asked) ≡ None → false ≡ is_change (effect asked)
    → is_empty (text_on kept (effect asked)) ≡ false
shown_says kept asked h n = effect_says kept (effect asked) (each_says asked) h n

-- what was done was accepted, and changed the database where its effect does
came_done : (verdict : Option Fault) (text : List ℕ) (e : Effect) (Moved Same : Type 0) (c0 c1 : Option (List ℕ)) (changed : Bool) (fault : Option Fault)
    → fault ≡ None → Comes verdict text e Moved Same c0 c1 changed fault → (verdict ≡ None) × (changed ≡ is_change e)
came_done verdict text e Moved Same c0 c1 changed None f h = (h.0, h.2)
came_done verdict text e Moved Same c0 c1 changed (Some fault) f h = absurd cc

pub prints_some : (kept : Option Stored) (asked : Command) (c0 c1 : Option (List ℕ)) (outcome : Outcome) → Executes kept asked c0 c1 outcome → PrintsSome kept asked outcome
prints_some kept asked c0 c1 outcome h f n =
    let done = came_done (verdict_on kept (effect asked)) (text_on kept (effect asked)) (effect asked) _ _ c0 c1 (has_changed outcome) (fault_left outcome) f h in
    shown_says kept asked done.0 (sym n ∙ done.1)
