-- Lemmas on bringing the changes of a log into place.
use Rattle.rrd_change.proofs.Names.{◌≡◌, ℕ, ◌-◌, ◌<◌, ◌≤◌, List, ◌++◌, length, drop, get_or, sym, ◌∙◌, ap, arith, inl, inr, ◌⊎◌, zero-add, slice_range, cases_lt, length-append, length-take, length-drop, get_or-take, get_or-drop, get_or-append_right, get_or_past, ArePut, IsSized, IsSizedOrNot, Change, IsUnderCut, cut_mark, AreAnyIn, ArePutIn, Follows, IsDatabase, IsInPlace, IsLogOf, IsOpen, Represents, cut_of, All, World, Log, common_steps}
use Rattle.rrd_change.proofs.Beginning.{open_stands}
use Rattle.rrd_change.proofs.Holding.{all_as}
use Rattle.rrd_change.proofs.Laying.{touched_said}
use Rattle.rrd_change.proofs.Logs.{others_in_place, write_keeps}
use Rattle.rrd_change.proofs.Marking.{is_cut_of, put_behind, put_front}

-- whatever became of the bytes of the spans, the log stays
pub open_any : (old now : List ℕ) (cs : List Change) (log : Log) (x f : List ℕ) → Follows old now cs log → IsOpen old log.tail cs x → AreAnyIn log.spans.items now x f →
    IsOpen old log.tail cs f
open_any old now cs log x f follows is a =
    let begun = is.logged.log.begun in
    let below = follows.below in
    let len : length f ≡ length x = omega (arith, a.longer, a.bound, begun, below) in
    let stays : (k : ℕ) → (k < 16) ⊎ (length now ≤ k) → get_or f k 0 ≡ get_or x k 0 = λ k far. grind arith in
    record {
      logged = write_keeps old log.tail cs x f is.logged len (λ k low high. stays k (inl high)) (λ k low high. stays k (inr (omega (arith, low, below))))
          (λ k low high. grind (arith, touched_said));
      ends = len ∙ is.ends;
    }

-- a file with a log whose changes are in place
pub record IsPlaced (old now : List ℕ) (cs : List Change) (log : Log) (f : List ℕ) : Type 0 where
  pub is : IsOpen old log.tail cs f
  pub placed : IsInPlace now f

pub placed_put : (old now : List ℕ) (cs : List Change) (log : Log) (x f : List ℕ) → Follows old now cs log → IsOpen old log.tail cs x → ArePutIn log.spans.items now x f →
    IsPlaced old now cs log f
placed_put old now cs log x f follows is p = grind (arith, common_steps, open_any old now cs log x f follows is (record { longer = p.longer; bound = p.bound; same = p.same }), others_in_place old now log.tail cs f)

-- ---- the first bytes

abbrev pub cut_front_of : List ℕ → List ℕ
cut_front_of new = cut_mark ++ slice_range new 4 16

pub length-front : (new : List ℕ) → 16 ≤ length new → length (cut_front_of new) ≡ 16
length-front new enough = omega (arith, length-append cut_mark (slice_range new 4 16), length-take 12 (drop 4 new), length-drop 4 new, enough)

front_rest : (new : List ℕ) (k : ℕ) → 4 ≤ k → k < 16 → get_or (cut_front_of new) k 0 ≡ get_or new k 0
front_rest new k high low = grind (arith, common_steps, get_or-append_right cut_mark (slice_range new 4 16) 4 k 0, get_or-take 12 (drop 4 new) (k - 4) 0, get_or-drop 4 new (k - 4) 0)

pub cut_placed : (now x f : List ℕ) → IsDatabase now → length now ≤ length x → IsInPlace now x → ArePut 0 (cut_front_of now) x f → IsUnderCut now f
cut_placed now x f is reach placed put =
    let enough = is.enough in
    let size = length-front now enough in
    record {
      begins = is.begins;
      marked = grind arith;
      reaches = omega (arith, put.len, reach);
      same = λ k low high. grind (arith, put_front, front_rest, put_behind);
    }

-- ---- the length

pub sized_stands : (now x f : List ℕ) → IsUnderCut now x → IsSizedOrNot (length now) x f → IsUnderCut now f
sized_stands now x f under h = grind arith

pub cut_sized : (now x f : List ℕ) → IsDatabase now → IsUnderCut now x → IsSized (length now) x f → f ≡ cut_of now
cut_sized now x f is under s =
    let enough = is.enough in
    is_cut_of now f (omega (arith, enough)) s.len
    (λ k low. s.below k (omega (arith, low, enough)) ∙ ap (λ n. get_or x n 0) (sym (zero-add k)) ∙ under.marked.each k low)
    (λ k high. elim (cases_lt k (length now)) [
      | inl within ↦ s.below k within ∙ under.same k high within
      | inr past ↦ get_or_past f k 0 (omega (arith, s.len, past)) ∙ sym (get_or_past now k 0 past)
    ])

pub log_stands_all : (now : List ℕ) (log : Log) (w : World) → IsLogOf now log w → All (Represents now) w
log_stands_all now log w h = all_as (IsOpen h.old log.tail h.changes) (Represents now) w (λ f is. open_stands h.old now log.tail h.changes f h.follows.leads h.follows.fill is) h.world

pub reach_placed : (old now : List ℕ) (cs : List Change) (log : Log) (x : List ℕ) → Follows old now cs log → IsPlaced old now cs log x → length now ≤ length x
reach_placed old now cs log x follows p = omega (arith, p.is.logged.log.begun, follows.below)
