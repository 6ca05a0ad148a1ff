-- The database that updates and other commands leave.
use Rattle.std.specs.Prelude.{◌≡◌, ◌≤◌, ◌+◌, ◌-◌, ◌/◌, ◌++◌, ◌^◌, ◌⊎◌, ℕ, Bool, true, false, if◌then◌else◌, nat_lt, List, [], ◌∷◌, Option, Some, None, length, take, drop, min, option_map, suc, zero}
use Rattle.rrd_tool.proofs.Names.{◌∙◌, refl, sym, ap, subst, arith, inl, inr, cases_lt, take-append-drop, Command, Outcome, Fault, Line, Refused, NoDatabase, Output, Refusal, Stored, Rra, Content, Executes, Comes, Effect, Changes, effect, stored_next, verdict_on, database_left, has_changed, verdict}
use Rattle.std.proofs.Math.Nat.{div-mul-le_self}
use Rattle.std.proofs.Math.Seq.{take-add}
use Rattle.std.proofs.lemmas.List.{append_assoc, length-append, length-take, take-take, append_cancel_left, drop_all, drop-drop, drop-take, take_at}
use Rattle.std.proofs.lemmas.Nat.{le-div}
use Rattle.rrd_spec.specs.Commands.{Updating}
use Rattle.rrd_spec.specs.Journal.Survivors.{changed}
use Rattle.rrd_spec.specs.Laws.Updates.{AddsEntries, IsLater, MoveOn, MovesOn, UpdateIsLater, dropped}
use Rattle.rrd_spec.specs.Journal.Entries.{entry, rows_between}
use Rattle.rrd_spec.specs.Settings.{resolution}
use Rattle.rrd_spec.specs.Validity.{IsValid}
use Rattle.rrd_spec.specs.declared.requests.update.Update.{Update}
use Rattle.rrd_tool.specs.Batch.Moved.{IsChangedBy, IsUpdated, with_change}
use Rattle.rrd_tool.specs.declared.changed_by.ChangedBy.{ChangedBy}
use Rattle.rrd_tool.specs.declared.changed_by.ChangedBy.TheVariants.{Nothing, Updates, Anything}

-- ---- later and later

rest_is : {A : Type 0} (n : ℕ) (xs ys : List A) → xs ≡ take n xs ++ ys → drop n xs ≡ ys
rest_is n xs ys e = append_cancel_left (take n xs) (drop n xs) ys (take-append-drop n xs ∙ e)

div_mono : (a b r : ℕ) → a ≤ b → a / r ≤ b / r
div_mono a b zero h = omega arith
div_mono a b (suc r) h = le-div (a / suc r) b (suc r) (omega arith) (omega (arith, h, div-mul-le_self a (suc r)))

-- of all rows, two numbers of rows are the first, or make up all
both_or_all : (p q all : ℕ) → (min (p + q) all ≡ min p all + min q all) ⊎ (min (p + q) all ≡ all)
both_or_all p q all = grind arith

module _ {A : Type 0} (xs ys zs : List A) (n m : ℕ) (as_many : length ys ≡ length xs) (still : length zs ≡ length ys)
    (first : drop n xs ≡ take (length ys - n) ys) (second : drop m ys ≡ take (length zs - m) zs) where
  after_both : n + m ≤ length xs → drop (n + m) xs ≡ take (length zs - (n + m)) zs
  after_both within =
      let p = length xs - (n + m) in
      let some : length ys - n ≡ m + p = omega (arith, as_many, within) in
      let more : length zs - m ≡ p + n = omega (arith, as_many, still, within) in
      let left : length zs - (n + m) ≡ p = omega (arith, as_many, still) in
      let short : length (take p zs) ≡ p = omega (arith, length-take p zs, as_many, still) in
      sym (drop-drop m n xs) ∙ ap (drop m) first ∙ ap (λ k. drop m (take k ys)) some ∙ drop-take m p ys ∙ ap (take p) second
      ∙ ap (λ k. take p (take k zs)) more ∙ ap (take p) (take-add p n zs) ∙ take_at (take p zs) (take n (drop p zs)) p short
      ∙ ap (λ k. take k zs) (sym left)

  after_all : drop (length xs) xs ≡ take (length zs - length xs) zs
  after_all =
      let none : length zs - length xs ≡ 0 = omega (arith, as_many, still) in
      drop_all (length xs) xs (omega arith) ∙ ap (λ k. take k zs) (sym none)

  after_some : (k : ℕ) → n + m ≤ length xs ⊎ (k ≡ length xs) → (k ≡ n + m) ⊎ (k ≡ length xs) → drop k xs ≡ take (length zs - k) zs
  after_some k (inl within) (inl both) = rw both (after_both within)
  after_some k (inr all) (inl both) = rw all after_all
  after_some k within (inr all) = rw all after_all

module _ (step a b c : ℕ) (ab : a ≤ b) (bc : b ≤ c) where
  more_rows : (old mid : Rra) → mid.def ≡ old.def → rows_between step old.def a c ≡ rows_between step old.def a b + rows_between step mid.def b c
  more_rows old mid same =
      let r = resolution step old.def in
      rw same (omega (arith, div_mono a b r ab, div_mono b c r bc))

  moves_on : (old mid new : Rra) → MovesOn step a b old mid → MovesOn step b c mid new → MovesOn step a c old new
  moves_on old mid new x y =
      let all = length old.rows in
      let p = rows_between step old.def a b in
      let q = rows_between step mid.def b c in
      let k = dropped step a c old in
      let is : k ≡ min (p + q) all = ap (λ rows. min rows all) (more_rows old mid x.def_is) in
      let same : min q all ≡ min q (length mid.rows) = ap (min q) (sym x.as_many) in
      let rest : drop k old.rows ≡ take (length new.rows - k) new.rows =
      after_some old.rows mid.rows new.rows (min p all) (min q (length mid.rows)) x.as_many y.as_many
      (rest_is (min p all) old.rows _ x.rows_are) (rest_is (min q (length mid.rows)) mid.rows _ y.rows_are) k
      (elim (cases_lt all (p + q)) [ inl past ↦ inr (is ∙ omega (arith, past)) | inr within ↦ inl (omega (arith, within, same)) ])
      (elim (both_or_all p q all) [ inl both ↦ inl (is ∙ both ∙ ap (λ rows. min p all + rows) same) | inr last ↦ inr (is ∙ last) ]) in
      record {
        def_is = y.def_is ∙ x.def_is;
        as_many = y.as_many ∙ x.as_many;
        rows_are = sym (take-append-drop k old.rows) ∙ ap (λ rows. take k old.rows ++ rows) rest;
      }

  move_on : (olds mids news : List Rra) → MoveOn step a b olds mids → MoveOn step b c mids news → MoveOn step a c olds news
  move_on [] [] [] x y = tt
  move_on [] [] (new ∷ news) x y = absurd y
  move_on [] (mid ∷ mids) news x y = absurd x
  move_on (old ∷ olds) [] news x y = absurd x
  move_on (old ∷ olds) (mid ∷ mids) [] x y = absurd y
  move_on (old ∷ olds) (mid ∷ mids) (new ∷ news) x y = (moves_on old mid new x.0 y.0, move_on olds mids news x.1 y.1)

later_still : (old mid new : Content) → IsLater old mid → IsLater mid new → IsLater old new
later_still old mid new x y =
    let Move : ℕ → Type 0 = λ step. MoveOn step mid.last new.last mid.archives new.archives in
    record {
      step_is = y.step_is ∙ x.step_is;
      sources_are = y.sources_are ∙ x.sources_are;
      later = omega (arith, x.later, y.later);
      archives_are = move_on old.step old.last mid.last new.last (omega (arith, x.later)) (omega (arith, y.later)) old.archives mid.archives new.archives x.archives_are (subst Move x.step_is y.archives_are);
    }

-- ---- more and more entries

-- what has no room at once has none later
room_stays : {A : Type 0} (n room : ℕ) (new old : List A) → n ≤ room → take n (new ++ take room old) ≡ take n (new ++ old)
room_stays n room [] old few = take-take n room old few
room_stays zero room (x ∷ new) old few = refl
room_stays (suc n) room (x ∷ new) old few = ap (λ l. x ∷ l) (room_stays n room new old (omega (arith, few)))

adds_still : (n m : ℕ) (old mid new : Stored) → AddsEntries n old mid → AddsEntries m mid new → AddsEntries (n + m) old new
adds_still n m old mid new x y =
    let depth = old.content.depth in
    record {
      added = y.added ++ x.added;
      as_many = omega (arith, length-append y.added x.added, x.as_many, y.as_many);
      depth_is = y.depth_is ∙ x.depth_is;
      journal_is =
          y.journal_is ∙ ap (λ room. take room (y.added ++ mid.journal)) x.depth_is ∙ ap (λ l. take depth (y.added ++ l)) x.journal_is
          ∙ room_stays depth depth y.added (x.added ++ old.journal) (omega arith) ∙ ap (take depth) (sym (append_assoc y.added x.added old.journal));
    }

adds_one : (d : Stored) (update : Update) → AddsEntries 1 d (changed d (Updating update))
adds_one d update = record {
  added = entry d.content (Updating update) ∷ [];
  as_many = refl;
  depth_is = refl;
  journal_is = refl;
}

-- ---- one more change

abbrev pub UpdateLaw : Type 0
UpdateLaw = (base : Content) (update : Update) → UpdateIsLater base update

some_same : {A : Type 0} (x y : A) → Some x ≡ Some y → x ≡ y
some_same x y e = cc

updated_still : (count : ℕ) (old mid new : Option Stored) → IsUpdated count old mid → IsUpdated 1 mid new → IsUpdated (count + 1) old new
updated_still count old mid new x y =
    let same : y.before ≡ x.now = some_same y.before x.now (sym y.old_is ∙ x.new_is) in
    let later : IsLater x.now.content y.now.content = subst (λ (d : Stored). IsLater d.content y.now.content) same y.later in
    record {
      before = x.before;
      now = y.now;
      old_is = x.old_is;
      new_is = y.new_is;
      valid = x.valid;
      later = later_still x.before.content x.now.content y.now.content x.later later;
      adds = adds_still count 1 x.before x.now y.now x.adds (subst (λ (d : Stored). AddsEntries 1 d y.now) same y.adds);
    }

counted_so : (count : ℕ) (start new : Option Stored) → IsUpdated count start new → (fits : Bool) → IsChangedBy (if fits then Updates count else Anything) start new
counted_so count start new is true = is
counted_so count start new is false = tt

pub changed_once : (by : ChangedBy) (is_update : Bool) (start old new : Option Stored) → (is_update ≡ true → IsUpdated 1 old new) → IsChangedBy by start old
    → IsChangedBy (with_change by is_update) start new
changed_once Nothing true start old new is was = subst (λ (d : Option Stored). IsUpdated 1 d new) was (is refl)
changed_once (Updates count) true start old new is was =
    counted_so (count + 1) start new (updated_still count start old new was (is refl)) (nat_lt (count + 1) (2 ^ 64))
changed_once Anything true start old new is was = tt
changed_once Nothing false start old new is was = tt
changed_once (Updates count) false start old new is was = tt
changed_once Anything false start old new is was = tt

-- ---- a command that was run

-- a command that was accepted leaves the next database
pub accepted : (verdict : Option Fault) (text : List ℕ) (effect : Effect) (kept left : Option Stored) (a b : Option (List ℕ)) (changed : Bool) (fault : Option Fault)
    → Comes verdict text effect (left ≡ stored_next kept effect) (left ≡ kept) a b changed fault → changed ≡ true → (verdict ≡ None) × (left ≡ stored_next kept effect)
accepted verdict text effect kept left a b changed None p e = (p.0, p.1)
accepted verdict text effect kept left a b changed (Some Output) p e = (p.0, p.1)
accepted verdict text effect kept left a b changed (Some (Line fault)) p e = absurd (let no : false ≡ true = sym p.2 ∙ e in cc)
accepted verdict text effect kept left a b changed (Some (Refused fault)) p e = absurd (let no : false ≡ true = sym p.2 ∙ e in cc)
accepted verdict text effect kept left a b changed (Some NoDatabase) p e = absurd (let no : false ≡ true = sym p.2 ∙ e in cc)

pub not_refused : (verdict : Option Refusal) → ◌≡◌ {A = Option Fault} (option_map Refused verdict) None → verdict ≡ None
not_refused None h = refl
not_refused (Some refusal) h = absurd cc

update_of : (found : Option Stored) (update : Update) (new : Stored) → ((d : Stored) → found ≡ Some d → IsValid d.content) → UpdateLaw
    → verdict_on found (Changes (Updating update)) ≡ None → Some new ≡ stored_next found (Changes (Updating update)) → IsUpdated 1 found (Some new)
update_of None update new valid law taken next = absurd cc
update_of (Some d) update new valid law taken next = grind (arith, adds_one d update)

pub updates : (found : Option Stored) (command : Command) (update : Update) (a b : Option (List ℕ)) (new : Stored) → effect command ≡ Changes (Updating update)
    → ((d : Stored) → found ≡ Some d → IsValid d.content) → UpdateLaw → Executes found command a b (Outcome.Changed new) → IsUpdated 1 found (Some new)
updates found command update a b new is valid law executed =
    let taken : (verdict_on found (Changes (Updating update)) ≡ None) × (Some new ≡ stored_next found (Changes (Updating update))) = grind arith in
    update_of found update new valid law taken.0 taken.1

-- ---- a command that changed nothing leaves the database that it ran on

pub executes_same : (kept : Option Stored) (command : Command) (a b : Option (List ℕ)) (outcome : Outcome)
    → Executes kept command a b outcome → has_changed outcome ≡ false → database_left outcome ≡ kept
executes_same kept command a b outcome p e = grind arith

pub keeps : (by : ChangedBy) (start found : Option Stored) (command : Command) (a b : Option (List ℕ)) (outcome : Outcome) → Executes found command a b outcome → has_changed outcome ≡ false
    → IsChangedBy by start found → IsChangedBy by start (database_left outcome)
keeps by start found command a b outcome executed same was = grind arith
