-- What `rrd_change` and `rrd_store` are asked of a file, by what the record says.
use Rattle.rrd_disk.proofs.Names.{arith, ◌≡◌, ℕ, suc, true, false, not, List, [], ◌∷◌, ◌++◌, length, take, drop, IsTrue, inl, inr, refl, sym, ◌∙◌, ap, subst, drop-append_seam, take-append_seam, and_from, and_parts, cases_Bool, true≢false, Held, Missing, Bytes, FallsAsked, code_by, code_of, content_of, held_of, is_asked, is_honest_in, kind_of, start_by, world_in, world_of, Event, World, bytes_of, held_after, is_honest_after, is_there, left, part_after}

-- whatever is asked, the record is honest
pub honest_in : (s : List ℕ) (events : List Event) → IsTrue (is_honest_in s events) → IsTrue (is_honest_after (world_of s) events)
honest_in s events h = (and_parts (is_honest_after (world_of s) events) (is_asked s (is_there (held_after (world_of s) events))) h).0

-- ---- a question about each world

-- a world of these two
abbrev world : Held → List ℕ → World
world start parts = record { start = start; parts = parts }

parts_back : (w : World) → take (length w.parts) (w.parts ++ content_of w.start) ≡ w.parts
parts_back w = take-append_seam w.parts (content_of w.start)

content_back : (w : World) → drop (length w.parts) (w.parts ++ content_of w.start) ≡ content_of w.start
content_back w = drop-append_seam w.parts (content_of w.start)

start_back : (start : Held) → start_by (kind_of start) (content_of start) ≡ start
start_back Missing = refl
start_back (Bytes bytes) = refl

pub world_of_code : (w : World) → world_of (code_of w) ≡ w
world_of_code w = grind (arith, content_back, parts_back, start_back)

pub world_in_held : (w : World) → world_in (held_of w) ≡ w
world_in_held = world_of_code

-- a world without a file, of which this is asked too
missing_of_code : (asked : ℕ) (w : World) → w.start ≡ Missing → world_of (code_by (suc asked) w) ≡ w
missing_of_code asked w none = grind (arith, parts_back)

plainly_asked : (start : Held) (rest : List ℕ) (there : _) → is_asked (kind_of start ∷ rest) there ≡ true
plainly_asked Missing rest there = refl
plainly_asked (Bytes bytes) rest there = refl

pub code_honest : (w : World) (events : List Event) → IsTrue (is_honest_after w events) → IsTrue (is_honest_in (code_of w) events)
code_honest w events h = grind (arith, and_from, world_of_code, plainly_asked)

-- ---- what an answer to each question says

pub for_each : (P : World → Type 0) (events : List Event) → ((s : List ℕ) → IsTrue (is_honest_in s events) → P (world_of s)) → (s : World) → IsTrue (is_honest_after s events) → P s
for_each P events asked s h = subst P (world_of_code s) (asked (code_of s) (code_honest s events h))

pub falls_asked : (old new : List Event) → FallsAsked old new → (s : World) → IsTrue (is_honest_after s new) → IsTrue (is_honest_after s old)
falls_asked old new falls = for_each (λ s. IsTrue (is_honest_after s old)) new (λ s h. honest_in s old (falls s h))

-- no call removes a file
left_there : (h : Held) (part : ℕ) (e : Event) → IsTrue (is_there h) → IsTrue (is_there (left h part e))
left_there Missing part e is = absurd (true≢false (sym is))
left_there (Bytes file) part e is = refl

pub stays_there : (w : World) (events : List Event) → IsTrue (is_there w.start) → IsTrue (is_there (held_after w events))
stays_there w [] is = is
stays_there w (e ∷ earlier) is = left_there (held_after w earlier) (part_after w earlier) e (stays_there w earlier is)

-- what was asked after some calls, and is so, was so before them
asked_before : (old new : List Event) (asked : ℕ) (w : World) → FallsAsked old new → w.start ≡ Missing → IsTrue (is_honest_after w new)
    → IsTrue (is_asked (suc asked ∷ []) (is_there (held_after w new))) → IsTrue (is_asked (suc asked ∷ []) (is_there (held_after w old)))
asked_before old new asked w falls none h is =
    let code = code_by (suc asked) w in
    let same = missing_of_code asked w none in
    let now : IsTrue (is_honest_in code new) = grind arith in
    subst (λ (v : World). IsTrue (is_asked (suc asked ∷ []) (is_there (held_after v old)))) same
    (and_parts (is_honest_after (world_of code) old) (is_asked code (is_there (held_after (world_of code) old))) (falls code now)).1

missing_start : (h : Held) → is_there h ≡ false → h ≡ Missing
missing_start Missing none = refl
missing_start (Bytes bytes) none = absurd (true≢false none)

-- a file that there is not after some calls was not there before them
none_before : (old new : List Event) → FallsAsked old new → (w : World) → w.start ≡ Missing → IsTrue (is_honest_after w new) → is_there (held_after w new) ≡ false
    → not (is_there (held_after w old)) ≡ true
none_before old new falls w missing h none = asked_before old new 1 w falls missing h (ap not none)

pub still_there : (old new : List Event) → FallsAsked old new → (s : World) → IsTrue (is_honest_after s new) → IsTrue (is_there (held_after s old)) → IsTrue (is_there (held_after s new))
still_there old new falls s h is = elim (cases_Bool (is_there (held_after s new))) as (λ _. is_there (held_after s new) ≡ true) [
  | inl some ↦ some
  | inr none ↦ elim (cases_Bool (is_there s.start)) as (λ _. is_there (held_after s new) ≡ true) [
    | inl was ↦ stays_there s new was
    | inr missing ↦ absurd (true≢false (sym (none_before old new falls s (missing_start s.start missing) h none) ∙ ap not is))
  ]
]

-- a file that there is after some calls was there before them
pub was_there : (old new : List Event) → FallsAsked old new → (s : World) → IsTrue (is_honest_after s new) → IsTrue (is_there (held_after s new)) → IsTrue (is_there (held_after s old))
was_there old new falls s h is = elim (cases_Bool (is_there s.start)) as (λ _. is_there (held_after s old) ≡ true) [
  | inl was ↦ stays_there s old was
  | inr missing ↦ asked_before old new 2 s falls (missing_start s.start missing) h is
]

-- ---- whether there is a file

pub bytes_there : (h : Held) → IsTrue (is_there h) → h ≡ Bytes (bytes_of h)
bytes_there Missing is = absurd (true≢false (sym is))
bytes_there (Bytes file) is = refl
