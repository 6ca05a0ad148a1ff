-- The archives of a history, each followed by itself.
use Rattle.std.specs.Prelude.{◌≡◌, ℕ, zero, suc, ◌+◌, ◌*◌, ◌/◌, ◌<◌, ◌≤◌, List, [], ◌∷◌, length, map}
use Rattle.rrd_spec.proofs.Names.{common_steps, refl, sym, ◌∙◌, ap, subst, arith, length-append, div-div-eq-div-mul, length-drop, fold-append, fold, AllByRecursion, RraDef, Content, Event, Sampled, Tuned, Resized, Added, Removed, Moment, moment_after, moment_of, moment_at_end, rows_after, IsHistory, IsArchive, IsBase, Life, life_of, life_added, with_event, change_at, lives_after, lives_from, lives, steps_to_rows, steps_before, steps_for, steps_of, archive_for, content_lived, kept_for, rows_for, All-map}
use Rattle.rrd_spec.proofs.ContentLemmas.{div_rises, rows_stay}
use Rattle.rrd_spec.proofs.RowLemmas.{length-filled_up, room_first, room_last}
use Rattle.rrd_spec.proofs.GroupLemmas.{length-finished, reached_before}
use Rattle.rrd_spec.proofs.HistoryLemmas.{last_rises, length-steps_of, IsHistory-append}

-- how an archive stands at a moment of its history
pub record LifeAt (base : Content) (now : Moment) (life : Life) : Type 0 where
  pub archive_is : IsArchive life.begun
  pub history : IsHistory life.birth life.since
  pub now_is : fold moment_after life.birth life.since ≡ now
  pub late : base.last ≤ life.birth.last
  pub missed_is : life.missed + base.last / base.step ≡ life.birth.last / base.step

pub All-change_at : {A : Type 0} (P : A → Type 0) (f : A → A) (xs : List A) (n : ℕ) → ((x : A) → P x → P (f x)) → AllByRecursion P xs → AllByRecursion P (change_at f xs n)
All-change_at P f [] n h is = tt
All-change_at P f (x ∷ xs) zero h is = (h x is.0, is.1)
All-change_at P f (x ∷ xs) (suc n) h is = (is.0, All-change_at P f xs n h is.1)

event_at : (base : Content) (now : Moment) (e : Event) (life : Life) → IsHistory now (e ∷ []) → LifeAt base now life → LifeAt base (moment_after now e) (with_event e life)
event_at base now e life h at = assumption (at, IsHistory-append life.birth life.since (e ∷ []) at.history (subst (λ m. IsHistory m (e ∷ [])) (sym at.now_is) h), fold-append moment_after life.birth life.since (e ∷ []) ∙ ap (λ m. moment_after m e) at.now_is)

added_at : (base : Content) (now : Moment) (def : RraDef) → 0 < base.step → base.last ≤ now.last → 0 < def.steps → 0 < def.rows → LifeAt base now (life_added base now def)
added_at base now def some late steps rows = grind (arith, common_steps, div_rises)

from_at : (base : Content) (now : Moment) (all : List Life) (es : List Event) → 0 < base.step → base.last ≤ now.last → IsHistory now es → AllByRecursion (LifeAt base now) all → AllByRecursion (LifeAt base (fold moment_after now es)) (lives_from base now all es)
from_at base now all [] some late h is = is
from_at base now all (Sampled sample ∷ es) some late h is =
    from_at base (moment_after now (Sampled sample)) (lives_after base now all (Sampled sample)) es some (omega (arith, h.0)) h.1
    (All-map (LifeAt base now) (LifeAt base (moment_after now (Sampled sample))) (with_event (Sampled sample)) all (λ life at. event_at base now (Sampled sample) life (h.0, tt) at) is)
from_at base now all (Tuned sources ∷ es) some late h is =
    from_at base (moment_after now (Tuned sources)) (lives_after base now all (Tuned sources)) es some late h.1
    (All-map (LifeAt base now) (LifeAt base (moment_after now (Tuned sources))) (with_event (Tuned sources)) all (λ life at. event_at base now (Tuned sources) life (h.0, tt) at) is)
from_at base now all (Resized archive rows ∷ es) some late h is =
    from_at base now (lives_after base now all (Resized archive rows)) es some late h.1
    (All-change_at (LifeAt base now) (with_event (Resized 0 rows)) all archive (λ life at. event_at base now (Resized 0 rows) life (h.0, tt) at) is)
from_at base now all (Added def ∷ es) some late h is = grind (arith, common_steps, from_at base now (lives_after base now all (Added def)) es some late h.2, added_at)
from_at base now all (Removed archive ∷ es) some late h is = grind (arith, common_steps, from_at base now (lives_after base now all (Removed archive)) es some late h)

pub lives_are : (base : Content) (es : List Event) → IsBase base → IsHistory (moment_of base) es → AllByRecursion (LifeAt base (moment_at_end base es)) (lives base es)
lives_are base es is h =
    from_at base (moment_of base) (map (life_of base) base.archives) es is.some_step (omega arith) h
    (All-map IsArchive (LifeAt base (moment_of base)) (life_of base) base.archives (λ archive of. record { archive_is = of; history = tt; now_is = refl; late = omega arith; missed_is = omega arith }) is.archives_are)

-- ---- the steps that it hasn't missed, and its rows

pub born_before : (base : Content) (es : List Event) (life : Life) → LifeAt base (moment_at_end base es) life → life.birth.last ≤ (moment_at_end base es).last
born_before base es life at = omega (arith, last_rises life.birth life.since at.history, ap (λ (m : Moment). m.last) at.now_is)

pub few_missed : (base : Content) (es : List Event) (life : Life) → 0 < base.step → IsHistory (moment_of base) es → LifeAt base (moment_at_end base es) life → life.missed ≤ length (steps_of base es)
few_missed base es life some h at = grind (arith, length-steps_of, div_rises, born_before)

pub steps_until : (base : Content) (es : List Event) (life : Life) → 0 < base.step → IsHistory (moment_of base) es → LifeAt base (moment_at_end base es) life → steps_before base life + length (steps_for base life es) ≡ (moment_at_end base es).last / base.step
steps_until base es life some h at =
    omega (arith, length-drop life.missed (steps_of base es), length-steps_of base es some h, few_missed base es life some h at, at.missed_is)

pub length-rows_for : (base : Content) (es : List Event) (life : Life) → 0 < base.step → IsHistory (moment_of base) es → LifeAt base (moment_at_end base es) life → life.birth.last / (base.step * life.begun.def.steps) + length (rows_for base es life) ≡ (moment_at_end base es).last / (base.step * life.begun.def.steps)
unfolding rows_for
length-rows_for base es life some h at =
    let steps = life.begun.def.steps in
    let before = steps_before base life in
    let items = steps_for base life es in
    let end = (moment_at_end base es).last in
    grind (arith, length-finished (steps_to_rows life.begun.def (length base.sources)) before life.begun.parts items, steps_until base es life some h, reached_before before (length items) steps at.archive_is.some_steps, div-div-eq-div-mul life.birth.last base.step steps, div-div-eq-div-mul end base.step steps)

-- ---- the content is a base again

pub length-kept_for : (base : Content) (es : List Event) (life : Life) → 0 < base.step → IsHistory (moment_of base) es → LifeAt base (moment_at_end base es) life → length (kept_for base es life) ≡ fold (rows_after 0) life.begun.def.rows life.since
unfolding kept_for
length-kept_for base es life some h at = grind (arith, common_steps, length-append, length-rows_for, room_first, length-filled_up, room_last)

pub archive_for_is : (base : Content) (es : List Event) (life : Life) → 0 < base.step → IsHistory (moment_of base) es → LifeAt base (moment_at_end base es) life → IsArchive (archive_for base es life)
archive_for_is base es life some h at = assumption (at.archive_is, rows_stay 0 life.begun.def.rows life.birth life.since at.archive_is.some_rows at.history, length-kept_for base es life some h at)

pub IsBase-lived : (base : Content) (es : List Event) → IsBase base → IsHistory (moment_of base) es → IsBase (content_lived base es)
unfolding content_lived
IsBase-lived base es is h = record {
  some_step = is.some_step;
  archives_are = All-map (LifeAt base (moment_at_end base es)) IsArchive (archive_for base es) (lives base es) (λ life at. archive_for_is base es life is.some_step h at) (lives_are base es is h);
}
