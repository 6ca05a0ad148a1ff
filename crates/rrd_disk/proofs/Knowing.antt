-- What is known in memory of a file, after its calls.
use Rattle.rrd_disk.proofs.Names.{◌≡◌, ℕ, ◌+◌, ◌≤◌, ◌++◌, max, List, Option, Some, IsTrue, IfOk, Result, Ok, Err, length, take, slice_index, option_map, sym, ◌∙◌, ap, arith, length-append, ReadsAtMost, take-append-add, cases_lt, get_or_append_left, get_or-append_right, length-take-le, take-take, Event, Falls, IsGot, Begins, Measures, Guards, KeepsGuard, LockedFile, World, bytes_after, is_honest_after, ArePut, common_steps}

pub measures_longer : (known result : Option ℕ) (at end : ℕ) (bytes : List ℕ) (old new : List Event)
    → result ≡ option_map (λ m. max m end) known → end ≡ at + length bytes → Falls old new → Measures known old
    → ((s : World) → IsTrue (is_honest_after s new) → ArePut at bytes (bytes_after s old) (bytes_after s new))
    → Measures result new
measures_longer known result at end bytes old new is ends falls was put s h n e = grind arith

-- ---- the bytes that were read after those in memory

-- `bytes` got longer by zeros, of which `part` came to be the file's; of these n count
more_came : (bytes part x new : List ℕ) (n : ℕ) → n ≤ length part → take (length bytes + length part) x ≡ bytes ++ part → new ≡ take (length bytes + n) x
    → new ≡ bytes ++ take n part
more_came bytes part x new n few joined cut =
    let had = length bytes in
    let front : take (had + n) (take (had + length part) x) ≡ take (had + n) x = take-take (had + n) (had + length part) x (omega (arith, few)) in
    cut ∙ sym front ∙ ap (take (had + n)) joined ∙ take-append-add bytes part n

more_shown : (file bytes part : List ℕ) (n : ℕ) → Begins file bytes → IsGot file (length bytes) n part → Begins file (bytes ++ take n part)
more_shown file bytes part n begins got = grind (arith, common_steps, length-append, cases_lt, slice_index, get_or_append_left, get_or-append_right)

-- the same in a list that keeps its first bytes
pub shown_behind : (file old part x : List ℕ) (had n : ℕ) → had ≤ length old → n ≤ length part → take (had + length part) x ≡ take had old ++ part
    → Begins file (take had old) → IsGot file had n part → Begins file (take (had + n) x)
shown_behind file old part x had n room few joined begins got =
    let front : List ℕ = take had old in
    let long : length front ≡ had = length-take-le had old room in
    let put : take (length front + length part) x ≡ front ++ part = ap (λ k. take (k + length part) x) long ∙ joined in
    let came = more_came front part x (take (had + n) x) n few put (ap (λ k. take (k + n) x) (sym long)) in
    grind (arith, more_shown)

pub got_behind : {E : Type 0} (r : Result ℕ E) (old part x : List ℕ) (had : ℕ) (file : World → List ℕ) (Honest : World → Type 0)
    → had ≤ length old → ReadsAtMost r part → take (had + length part) x ≡ take had old ++ part
    → IfOk r (λ n. (s : World) → Honest s → IsGot (file s) had n part)
    → IfOk r (λ n. (s : World) → Honest s → Begins (file s) (take had old) → Begins (file s) (take (had + n) x))
got_behind (Err e) old part x had file Honest room bound joined got = tt
got_behind (Ok n) old part x had file Honest room bound joined got = λ s h begins. shown_behind (file s) old part x had n room bound.0 joined begins (got s h)

-- ---- the lock

pub guards_kept : {F : Type 0} (file : Option (LockedFile F)) (old new : List Event) → KeepsGuard old new → Guards file old → Guards file new
guards_kept file old new keeps guards locked is own = keeps ∙ guards locked is own

pub some_is : (n count : ℕ) → Some count ≡ Some n → n ≡ count
some_is n count is = cc
