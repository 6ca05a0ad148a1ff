-- Lemmas on a change that is appended to a log.
use Rattle.rrd_change.proofs.Names.{common_steps, ◌≡◌, ℕ, ◌+◌, ◌^◌, ◌<◌, ◌≤◌, List, [], ◌∷◌, ◌++◌, length, take, refl, sym, ◌∙◌, ap, subst, arith, inl, inr, ◌⊎◌, cases_lt, length_push, take_all, length-take, get_or-take, take-append-le, AreAny, ArePut, IsCut, Change, IsRight, change_bytes, change_size, changes_in, last_size, Fill, HaveByte, IsLogged, Leads, Makes, TouchByte, chain_end, first_of, IsLogHeld, IsStopped, Torn, AgreesOutside, AreSpans, IsIn, change_of, Follows, IsDatabase, IsOpen, All, Fails, World, Span, rules}
use Rattle.rrd_change.proofs.Holding.{fails_disk, held_left}
use Rattle.rrd_change.proofs.Chains.{chain_all, chain_count}
use Rattle.rrd_change.proofs.Laying.{leads_more, leads_size}
use Rattle.rrd_change.proofs.Logs.{append_cut, append_whole}
use Rattle.rrd_change.proofs.Placing.{in_join, in_left, in_right}
use Rattle.rrd_change.proofs.Reading.{length-change}
use Rattle.rrd_change.proofs.Spanned.{have_in, in_have, pieces_within, spans_fill, spans_make}
use Rattle.rrd_change.specs.declared.log.Log as logs

pub end_more : (at : ℕ) (cs : List Change) (c : Change) → chain_end at (cs ++ c ∷ []) ≡ chain_end at cs + change_size c
end_more at [] c = refl
end_more at (d ∷ cs) c = end_more (at + change_size d) cs c

-- these bytes are a change at the end of a log
pub record IsNext (old : List ℕ) (tail : ℕ) (cs : List Change) (c : Change) (at : ℕ) (bytes : List ℕ) : Type 0 where
  pub right : IsRight tail c
  pub spelled : bytes ≡ change_bytes tail at c
  pub here : at ≡ chain_end tail (first_of old ∷ cs)

pub whole_appended : (old : List ℕ) (tail : ℕ) (cs : List Change) (c : Change) (at : ℕ) (bytes x f : List ℕ) → IsNext old tail cs c at bytes → IsOpen old tail cs x → ArePut at bytes x f →
    IsOpen old tail (cs ++ c ∷ []) f
whole_appended old tail cs c at bytes x f next is put = grind (arith, common_steps, length-change tail, append_whole old tail cs c x f is.logged next.right, end_more tail (first_of old ∷ cs) c)

part_appended : (old : List ℕ) (tail : ℕ) (cs : List Change) (c : Change) (at n : ℕ) (bytes x f : List ℕ) → IsNext old tail cs c at bytes → IsOpen old tail cs x → n < length bytes →
    ArePut at (take n bytes) x f → IsLogged old tail cs f
part_appended old tail cs c at n bytes x f next is few put = grind (arith, common_steps, length-change tail, length-take n bytes, get_or-take n bytes, append_cut old tail cs c x f is.logged next.right)

-- an append that was cut short: the change is in the log, or not
pub cut_appended : (old : List ℕ) (tail : ℕ) (cs : List Change) (c : Change) (at : ℕ) (bytes x f : List ℕ) → IsNext old tail cs c at bytes → IsOpen old tail cs x → IsCut at bytes x f →
    IsLogged old tail cs f ⊎ IsLogged old tail (cs ++ c ∷ []) f
cut_appended old tail cs c at bytes x f next is cut =
    let front = cut.front (omega (arith, is.ends, next.here)) in
    let n = front.0 in
    elim (cases_lt 0 n) [
      | inr none ↦ let P : List ℕ → Type 0 = λ xs. IsLogged old tail cs xs in inl (subst P (sym (front.2.none (omega (arith, none)))) is.logged)
      | inl some ↦ elim (cases_lt n (length bytes)) [
        | inl few ↦ inl (part_appended old tail cs c at n bytes x f next is few (front.2.some some))
        | inr all ↦ grind (arith, whole_appended, take_all)
      ]
    ]

-- ---- what is known in memory

touch_join : (k : ℕ) (cs : List Change) (c : Change) → TouchByte k (cs ++ c ∷ []) → TouchByte k cs ⊎ HaveByte k c.pieces
touch_join k [] c h = grind arith
touch_join k (d ∷ cs) c (inl h) = inl (inl h)
touch_join k (d ∷ cs) c (inr h) = grind (arith, touch_join k cs c h)

touch_left : (k : ℕ) (cs : List Change) (c : Change) → TouchByte k cs → TouchByte k (cs ++ c ∷ [])
touch_left k [] c h = absurd h
touch_left k (d ∷ cs) c (inl h) = inl h
touch_left k (d ∷ cs) c (inr h) = inr (touch_left k cs c h)

touch_right : (k : ℕ) (cs : List Change) (c : Change) → HaveByte k c.pieces → TouchByte k (cs ++ c ∷ [])
touch_right k [] c h = inl h
touch_right k (d ∷ cs) c h = inr (touch_right k cs c h)

fill_more : (size : ℕ) (cs : List Change) (c : Change) → Fill size cs → ((k : ℕ) → last_size size cs ≤ k → k < c.size → HaveByte k c.pieces) → Fill size (cs ++ c ∷ [])
fill_more size [] c h more = (more, tt)
fill_more size (d ∷ cs) c h more = (h.0, fill_more d.size cs c h.1 more)

pub fill_next : (old now new : List ℕ) (cs : List Change) (log : logs.Log) (changed : List Span) → Follows old now cs log → AreSpans (length new) changed → AgreesOutside changed now new →
    Fill (length old) (cs ++ change_of (length new) new changed ∷ [])
fill_next old now new cs log changed h are agrees =
    fill_more (length old) cs (change_of (length new) new changed) h.fill (λ k high low. spans_fill changed now new k are agrees (omega (arith, high, leads_size old cs now h.leads)) low)

pub follows_more : (old now new : List ℕ) (cs : List Change) (log next : logs.Log) (changed : List Span) → Follows old now cs log → IsDatabase new → AreSpans (length new) changed →
    AgreesOutside changed now new → length new ≤ log.tail → next.tail ≡ log.tail → next.end ≡ log.end + change_size (change_of (length new) new changed) →
    next.changes ≡ log.changes + 1 → next.spans.items ≡ log.spans.items ++ changed → Follows old new (cs ++ change_of (length new) new changed ∷ []) next
follows_more old now new cs log next changed h is are agrees below tail end count spans =
    let c = change_of (length new) new changed in
    record {
      is = is;
      leads = leads_more old cs c now new h.leads (spans_make changed now new are agrees);
      fill = fill_next old now new cs log changed h are agrees;
      below = omega (arith, below, tail);
      ends = end ∙ ap (λ n. n + change_size c) h.ends ∙ sym (end_more log.tail (first_of old ∷ cs) c) ∙ ap (λ n. chain_end n (first_of old ∷ (cs ++ c ∷ []))) (sym tail);
      count = omega (arith, count, h.count, length_push cs c);
      each = subst (λ (xs : List Span). (k : ℕ) → TouchByte k (cs ++ c ∷ []) → IsIn k xs) (sym spans) (λ k touched. elim (touch_join k cs c touched) [
        | inl front ↦ in_left k log.spans.items changed (h.each k front)
        | inr back ↦ in_right k log.spans.items changed (have_in new changed k are back)
      ]);
      only = subst (λ (xs : List Span). (k : ℕ) → 16 ≤ k → IsIn k xs → TouchByte k (cs ++ c ∷ [])) (sym spans) (λ k high is_in. elim (in_join k log.spans.items changed is_in) [
        | inl front ↦ touch_left k cs c (h.only k high front)
        | inr back ↦ touch_right k cs c (in_have new changed k are back)
      ]);
    }

-- ---- failures of the power

-- the first of these changes are the first of more
pub first_of_more : (xs : List Change) (c : Change) (n : ℕ) → (m : ℕ) × (take n xs ≡ take m (xs ++ c ∷ []))
first_of_more xs c n = grind (arith, common_steps, cases_lt n (length xs), take-append-le n xs (c ∷ []), take_all n xs, take_all (length xs) xs, take-append-le (length xs) xs (c ∷ []))

pub logged_all : (old : List ℕ) (tail : ℕ) (cs : List Change) (f : List ℕ) → IsLogged old tail cs f → changes_in tail f ≡ first_of old ∷ cs
logged_all old tail cs f h = chain_all tail f (first_of old ∷ cs) h.log.chain h.log.begun

-- ---- an append

pub next_made : (old now new : List ℕ) (cs : List Change) (log : logs.Log) (changed : List Span) (bytes : List ℕ) → Follows old now cs log → IsDatabase new → AreSpans (length new) changed →
    length new ≤ log.tail → bytes ≡ change_bytes log.tail log.end (change_of (length new) new changed) → log.tail < 2 ^ 64 → length bytes < 2 ^ 64 →
    IsNext old log.tail cs (change_of (length new) new changed) log.end bytes
next_made old now new cs log changed bytes h is are below spelled fits few = grind (arith, common_steps, length-change, pieces_within)

-- the disk has any bytes behind the changes before
torn_held : (other now old : List ℕ) (tail at : ℕ) (cs all : List Change) (bytes : List ℕ) (u v : World) → at ≡ chain_end tail (first_of old ∷ cs) →
    (all ≡ cs) ⊎ ((c : Change) × (all ≡ cs ++ c ∷ []) × Leads old cs other × Fill (length old) cs) → All (IsOpen old tail cs) u → Fails (IsCut at bytes) (AreAny at (length bytes)) u v →
    IsLogged old tail all v.held → IsLogHeld Torn other now old tail all v
torn_held other now old tail at cs all bytes u v here last is f held = search (rules, fails_disk)

pub append_stopped : (old now new : List ℕ) (tail at : ℕ) (cs : List Change) (c : Change) (bytes : List ℕ) (u v : World) → IsNext old tail cs c at bytes → Leads old cs now → Makes c now new →
    Fill (length old) cs → Fill (length old) (cs ++ c ∷ []) → All (IsOpen old tail cs) u → Fails (IsCut at bytes) (AreAny at (length bytes)) u v → IsStopped Torn now new v
append_stopped old now new tail at cs c bytes u v next leads makes fill more all f = elim (cut_appended old tail cs c at bytes u.held v.held next all.held f.held) [
  | inl none ↦ inl (inr (inr (held_left Torn new now old tail cs v leads fill (torn_held new now old tail at cs cs bytes u v next.here (inl refl) all f none))))
  | inr one ↦ inr (inr (inr (held_left Torn now new old tail (cs ++ c ∷ []) v (leads_more old cs c now new leads makes) more
      (torn_held now new old tail at cs (cs ++ c ∷ []) bytes u v next.here (inr (c, refl, leads, fill)) all f one))))
]

-- a log has fewer changes than a file has bytes
pub count_fits : (old now : List ℕ) (cs : List Change) (log : logs.Log) → Follows old now cs log → log.changes + 1 ≤ log.end
count_fits old now cs log h = omega (arith, h.count, h.ends, chain_count log.tail (first_of old ∷ cs))
