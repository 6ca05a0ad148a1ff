-- Lemmas on the beginning of a log.
use Rattle.rrd_change.proofs.Names.{◌≡◌, ℕ, ◌+◌, ◌-◌, ◌^◌, ◌<◌, ◌≤◌, max, List, [], ◌∷◌, ◌++◌, length, refl, sym, ◌∙◌, ap, subst, arith, inl, inr, ◌⊎◌, append_assoc, replicate, append-nil, length-append, length-replicate, get_or_append_left, get_or-append-add, StandsAt, AreAny, ArePut, AreWholeOrNot, IsTorn, Change, IsRight, change_bytes, change_size, Fill, IsUnderCut, Leads, chain_end, first_of, log_mark, AgreesOutside, AreSpans, change_of, Began, Follows, IsDatabase, IsFirst, IsInPlace, IsOpen, IsReady, Represents, cut_of, Base, Log, Span, World, Fails, All, common_steps}
use Rattle.rrd_change.proofs.Holding.{marks_all}
use Rattle.rrd_change.proofs.Spanned.{have_in, in_have, pieces_within, spans_fill, spans_make}
use Rattle.rrd_change.proofs.Logs.{log_begins}
use Rattle.rrd_change.proofs.Marking.{cut_under, length-cut, put_behind, under_stays}
use Rattle.rrd_change.proofs.Reading.{change_reads, length-change, past_read}
use Rattle.rrd_change.proofs.Resumed.{put_any}

-- bytes in the middle of those that were put
pub put_stands : (at : ℕ) (xs ys zs old new : List ℕ) → ArePut at (xs ++ (ys ++ zs)) old new → StandsAt new (at + length xs) ys
put_stands at xs ys zs old new p = grind (arith, common_steps, length-append xs (ys ++ zs), length-append ys zs, get_or-append-add xs (ys ++ zs), get_or_append_left ys zs 0)

pub length-first : (old : List ℕ) → 16 ≤ length old → change_size (first_of old) ≡ 80
length-first old enough = grind arith

first_right : (old : List ℕ) (tail : ℕ) → tail < 2 ^ 64 → 16 ≤ length old → length old ≤ tail → IsRight tail (first_of old)
first_right old tail fits enough below = grind arith

-- the first two changes are behind the database
pub ready_put : (old : List ℕ) (tail : ℕ) (c : Change) (at : ℕ) (bytes x f : List ℕ) → IsFirst old tail c at bytes → tail < 2 ^ 64 → length bytes < 2 ^ 64 →
    x ≡ cut_of old → ArePut at bytes x f → IsReady old tail (c ∷ []) f
ready_put old tail c at bytes x f h fits few e put =
    let zeros : List ℕ = replicate (tail - length old) 0 in
    let first = first_of old in
    let own = change_bytes tail tail first in
    let next = change_bytes tail (tail + 80) c in
    let enough = h.is.enough in
    let below = h.below in
    let eighty = length-first old enough in
    let gap : length zeros ≡ tail - length old = length-replicate (tail - length old) 0 in
    let own_size = length-change tail tail first in
    let next_size = length-change tail (tail + 80) c in
    let all : length bytes ≡ tail - length old + (80 + change_size c) = grind (arith, length-append) in
    let x_size : length x ≡ length old = ap length e ∙ length-cut old (omega (arith, enough)) in
    let f_size : length f ≡ tail + 80 + change_size c = omega (arith, put.len, all, x_size, h.behind, below) in
    let P : List ℕ → Type 0 = λ xs. ArePut at xs x f in
    let in_order : ArePut at (zeros ++ (own ++ next)) x f = subst P h.spelled put in
    let at_tail : StandsAt f tail own = subst (λ (n : ℕ). StandsAt f n own) (omega (arith, gap, h.behind, below)) (put_stands at zeros own next x f in_order) in
    let regrouped : zeros ++ (own ++ next) ≡ (zeros ++ own) ++ (next ++ []) = sym (append_assoc zeros own next) ∙ ap (λ xs. (zeros ++ own) ++ xs) (sym (append-nil next)) in
    let second : StandsAt f (tail + 80) next =
    subst (λ (n : ℕ). StandsAt f n next) (omega (arith, length-append zeros own, gap, own_size, eighty, h.behind, below)) (put_stands at (zeros ++ own) next [] x f (subst P regrouped in_order)) in
    let right : IsRight tail c = record { fits = fits; body_fits = omega (arith, all, few); enough = h.enough; below = h.within; pieces = h.pieces } in
    record {
      prepared = record {
        fits = fits;
        under = under_stays old x f at (length bytes) h.is (cut_under old x h.is e) (omega (arith, h.behind)) (put_any at bytes x f put);
        enough = enough;
        below = below;
        begun = omega (arith, f_size);
        chain = (
          change_reads tail tail first f (first_right old tail fits enough below) at_tail,
          (
            change_reads tail (tail + change_size first) c f right (subst (λ (n : ℕ). StandsAt f (tail + n) (change_bytes tail (tail + n) c)) (sym eighty) second),
            past_read tail (tail + change_size first + change_size c) f (omega (arith, f_size, eighty)),
          ),
        );
      };
      ends = omega (arith, f_size, eighty);
    }

-- the log mark names the log
pub open_put : (old : List ℕ) (tail : ℕ) (cs : List Change) (x f : List ℕ) → IsReady old tail cs x → ArePut 0 (log_mark tail) x f → IsOpen old tail cs f
open_put old tail cs x f ready put = grind (arith, common_steps, log_begins old tail cs x f, put_behind (log_mark tail) x f)

abbrev pub IsReadyOrOpen : List ℕ → ℕ → List Change → List ℕ → Type 0
IsReadyOrOpen old tail cs f = IsReady old tail cs f ⊎ (IsOpen old tail cs f × IsInPlace old f)

pub open_marked : (old : List ℕ) (tail : ℕ) (cs : List Change) (u v : World) → Fails (AreWholeOrNot 0 (log_mark tail)) (IsTorn 0 (log_mark tail)) u v → All (IsReady old tail cs) u →
    All (IsReadyOrOpen old tail cs) v
open_marked old tail cs u v f a = marks_all (IsReady old tail cs) (IsReadyOrOpen old tail cs) (log_mark tail) u v (λ x ready. inl ready)
    (λ x ready. omega (arith, ready.prepared.begun, ready.prepared.enough, ready.prepared.below))
    (λ x y ready p. inr (open_put old tail cs x y ready p, λ k high low. put_behind (log_mark tail) x y k p high ∙ ready.prepared.under.same k (omega (arith, high)) low)) f a

-- what such a file stands for
pub open_stands : (old new : List ℕ) (tail : ℕ) (cs : List Change) (f : List ℕ) → Leads old cs new → Fill (length old) cs → IsOpen old tail cs f → Represents new f
open_stands old new tail cs f leads fill is = inr (inr (record { old = old; tail = tail; changes = cs; logged = is.logged; leads = leads; fill = fill }))

-- what is written behind a marked database changes nothing
pub behind_stands : (old x f : List ℕ) (at count : ℕ) → IsDatabase old → x ≡ cut_of old → at ≡ length old → AreAny at count x f → IsUnderCut old f
behind_stands old x f at count is e behind a = under_stays old x f at count is (cut_under old x is e) (omega (arith, behind)) a

-- ---- a change of spans

pub first_length : (old : List ℕ) (tail : ℕ) (c : Change) (at : ℕ) (bytes : List ℕ) → IsFirst old tail c at bytes → at + length bytes ≡ chain_end tail (first_of old ∷ c ∷ [])
first_length old tail c at bytes h =
    let zeros : List ℕ = replicate (tail - length old) 0 in
    let own = change_bytes tail tail (first_of old) in
    let next = change_bytes tail (tail + 80) c in
    let gap : length zeros ≡ tail - length old = length-replicate (tail - length old) 0 in
    grind (arith, length-change tail tail (first_of old), length-change tail (tail + 80) c, length-append zeros (own ++ next), length-append own next, length-first old h.is.enough)

pub first_made : (base : Base) (old new : List ℕ) (changed : List Span) (tail : ℕ) (bytes : List ℕ) → Began base old → IsDatabase new → AreSpans (length new) changed →
    max base.length (length new) ≤ tail →
    bytes ≡ replicate (tail - base.length) 0 ++ (change_bytes tail tail (change_of base.length base.first (record { start = 0; end = 16 } ∷ [])) ++ change_bytes tail (tail + 80) (change_of (length new) new changed)) →
    IsFirst old tail (change_of (length new) new changed) base.length bytes
first_made base old new changed tail bytes b is are at_tail e = grind (arith, pieces_within)

pub leads_first : (old new : List ℕ) (changed : List Span) → AreSpans (length new) changed → AgreesOutside changed old new → Leads old (change_of (length new) new changed ∷ []) new
leads_first old new changed are agrees = (new, spans_make changed old new are agrees, refl)

pub fill_first : (old new : List ℕ) (changed : List Span) → AreSpans (length new) changed → AgreesOutside changed old new → Fill (length old) (change_of (length new) new changed ∷ [])
fill_first old new changed are agrees = (λ k high low. spans_fill changed old new k are agrees high low, tt)

-- a log of one change
pub follows_first : (base : Base) (old new : List ℕ) (changed : List Span) (log : Log) (bytes : List ℕ) → IsDatabase new → AreSpans (length new) changed → AgreesOutside changed old new →
    IsFirst old log.tail (change_of (length new) new changed) base.length bytes → log.end ≡ base.length + length bytes → log.changes ≡ 1 → log.spans.items ≡ changed →
    Follows old new (change_of (length new) new changed ∷ []) log
follows_first base old new changed log bytes is are agrees h ends count spans = grind (arith, common_steps, leads_first old new changed are agrees, fill_first old new changed are agrees, first_length old log.tail (change_of (length new) new changed) base.length bytes h, have_in, in_have new changed)
