-- What the calls of the module once say, by the events that they note.
use Rattle.rrd_disk.proofs.Names.{◌≡◌, ℕ, ◌+◌, ◌-◌, ◌<◌, ◌≤◌, inl, inr, List, ◌∷◌, ◌++◌, length, take, slice_index, IsTrue, Result, Ok, Err, IfOk, sym, ◌∙◌, ap, arith, length-append, length-take, get_or-take, ReadsAtMost, get_or_append_left, get_or-append_right, cases_lt, AreGot, IsGotAtOnce, Event, Got, World, bytes_after, is_honest_after, is_honest_read, common_steps}
use Rattle.rrd_disk.proofs.Replaying.{read-AreGot, read_ends, read_is, read_within}

-- ---- reading

-- the bytes of one honest read
got_once : (file : List ℕ) (at wanted n : ℕ) (bytes : List ℕ) → n ≤ length bytes → wanted ≡ length bytes
    → IsTrue (is_honest_read file at wanted (take n bytes)) → IsGotAtOnce file at n bytes
got_once file at wanted n bytes few all honest = grind (arith, common_steps, length-take, read-AreGot, read_within, read_ends)

-- one call of the system
pub got_some : {E : Type 0} (r : Result ℕ E) (old mid new : List Event) (at : ℕ) (before bytes : List ℕ)
    → mid ≡ old → length before ≡ length bytes → ReadsAtMost r bytes
    → IfOk r (λ n. new ≡ Got at (length before) (take n bytes) ∷ mid)
    → IfOk r (λ n. (s : World) → IsTrue (is_honest_after s new) → IsGotAtOnce (bytes_after s old) at n bytes)
got_some (Err e) old mid new at before bytes stays same bound ok = tt
got_some (Ok n) old mid new at before bytes stays same bound ok = grind (arith, read_is, got_once)

-- the first `count` bytes are the file's
pub record IsGotSoFar (file : List ℕ) (at count : ℕ) (bytes : List ℕ) : Type 0 where
  pub each : AreGot file at count (take count bytes)
  pub within : 0 < count → at + count ≤ length file

-- more bytes after them
pub more_so_far : (file : List ℕ) (at count more : ℕ) (bytes rest new : List ℕ)
    → count ≤ length bytes → more ≤ length rest → take (count + length rest) new ≡ take count bytes ++ rest
    → IsGotSoFar file at count bytes → IsGotAtOnce file (at + count) more rest
    → IsGotSoFar file at (count + more) new
more_so_far file at count more bytes rest new low few joined so_far got =
    let front : List ℕ = take count bytes in
    let end = count + length rest in
    let front_len : length front ≡ count = omega (arith, length-take count bytes) in
    let long : end ≤ length new = omega (arith, ap (λ (s : List ℕ). length s) joined, length-take end new, length-append front rest, front_len) in
    record {
      each = record {
        len = omega (arith, length-take (count + more) new, long, few);
        each = λ i below.
            let at_joined : slice_index new i ≡ slice_index (front ++ rest) i =
            sym (get_or-take end new i 0 (omega (arith, below, few))) ∙ ap (λ (s : List ℕ). slice_index s i) joined in
            get_or-take (count + more) new i 0 below ∙ at_joined ∙ elim (cases_lt i count) as (λ _. slice_index (front ++ rest) i ≡ slice_index file (at + i)) [
              | inl first ↦ get_or_append_left front rest 0 i (omega (arith, front_len, first)) ∙ so_far.each.each i first
              | inr later ↦
                  let small : i - count < more = omega (arith, below, later) in
                  let here : at + count + (i - count) ≡ at + i = omega (arith, later) in
                  get_or-append_right front rest count i 0 front_len later
                  ∙ sym (get_or-take more rest (i - count) 0 small) ∙ got.each.each (i - count) small ∙ ap (slice_index file) here
            ];
      };
      within = grind arith;
    }
