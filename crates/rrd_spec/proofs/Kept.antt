-- What groups keep to.
use Rattle.std.specs.Prelude.{◌≡◌, ℕ, ◌+◌, ◌*◌, ◌/◌, ◌%◌, ◌<◌, List, [], ◌∷◌, length}
use Rattle.rrd_spec.proofs.Names.{common_steps, ◌∙◌, ap, arith, mod_below, mod-mul-add, AllByRecursion, Rule, finished, unfinished}
use Rattle.rrd_spec.proofs.GroupLemmas.{goes_on, finished_nil, unfinished_nil, finished_within, unfinished_within, finished_filling, unfinished_filling}

next_mod : (n size : ℕ) → 0 < size → n + 1 < (n / size + 1) * size → (n + 1) % size ≡ n % size + 1
next_mod n size some h = grind arith

full_mod : (n size : ℕ) → 0 < size → n + 1 ≡ (n / size + 1) * size → (n + 1) % size ≡ 0
full_mod n size some h = ap (λ m. m % size) {x = n + 1} {y = (n / size + 1) * size + 0} (omega arith) ∙ mod-mul-add (n / size + 1) size 0 some

-- what holds of a group's part, by how many items it has, and so of what full groups give
pub record Keeps {A P B : Type 0} (rule : Rule A P B) (Item : A → Type 0) (Begun : ℕ → P → Type 0) (Given : B → Type 0) : Type 0 where
  pub some : 0 < rule.size
  pub starts : Begun 0 rule.empty
  pub adds : (n : ℕ) (part : P) (item : A) → n < rule.size → Begun n part → Item item → Begun (n + 1) (rule.add part item)
  pub closes : (part : P) → Begun rule.size part → Given (rule.close part)

pub record Kept {A P B : Type 0} (rule : Rule A P B) (Begun : ℕ → P → Type 0) (Given : B → Type 0) (before : ℕ) (begun : P) (items : List A) : Type 0 where
  pub begun_is : Begun ((before + length items) % rule.size) (unfinished rule before begun items)
  pub given_are : AllByRecursion Given (finished rule before begun items)

pub kept : {A P B : Type 0} (rule : Rule A P B) (Item : A → Type 0) (Begun : ℕ → P → Type 0) (Given : B → Type 0) → Keeps rule Item Begun Given → (before : ℕ) (begun : P) (items : List A) → Begun (before % rule.size) begun → AllByRecursion Item items → Kept rule Begun Given before begun items
kept {A = A} {B = B} rule Item Begun Given keeps before begun [] h is = grind (arith, unfinished_nil, finished_nil)
kept {A = A} {B = B} rule Item Begun Given keeps before begun (item ∷ items) h is =
    let size = rule.size in
    let one : List A = item ∷ [] in
    let part = unfinished rule before begun one in
    let on = goes_on rule before begun one items keeps.some in
    let added = keeps.adds (before % size) begun item (mod_below before size keeps.some) h is.0 in
    let this : Kept rule Begun Given before begun one = grind (arith, next_mod, unfinished_within, finished_within, full_mod, unfinished_filling, finished_filling) in
    grind (arith, common_steps, kept rule Item Begun Given keeps (before + 1) part items this.begun_is is.1)
