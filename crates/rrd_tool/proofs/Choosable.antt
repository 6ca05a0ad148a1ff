-- What a fetch reads, in a database that is valid.
use Rattle.std.specs.Prelude.{◌≡◌, ◌+◌, ◌*◌, ◌/◌, ◌≤◌, ◌<◌, ℕ, Bool, true, false, List, [], ◌∷◌, Option, Some, None, Result, Ok, length, map, nat_lt}
use Rattle.rrd_tool.proofs.Names.{refl, subst, arith, ⊎_elim, AllByRecursion, find, filter, enumerate_from, option_or, cases_Bool, nat_tests, mul-le-mul_left, Function, RraDef, Candidate, Chosen, FetchRequest, Refusal, BadTime, BadSpan, Rra, Content, best, candidate, candidates, choice, covers, is_farther, is_nearer, same_function, span, span_of, taken, unless_refused, choice_within, IsValid, IsValidArchive, ◌refuses◌, first_refusal, IsReadable, present}

-- ---- lists

all_found : {A : Type 0} (P : A → Type 0) (p : A → Bool) (items : List A) (x : A) → AllByRecursion P items → find p items ≡ Some x → P x
all_found P p [] x h e = absurd cc
all_found P p (y ∷ items) x h e = ⊎_elim
    (λ (is : p y ≡ true). let same = rw is at e in let here : y ≡ x = cc in subst P here h.0)
    (λ (no : p y ≡ false). all_found P p items x h.1 (rw no at e))
    (cases_Bool (p y))

all_filtered : {A : Type 0} (P : A → Type 0) (p : A → Bool) (items : List A) → AllByRecursion P items → AllByRecursion P (filter p items)
all_filtered P p [] h = tt
all_filtered P p (y ∷ items) h = ⊎_elim
    (λ (is : p y ≡ true). rw is (h.0, all_filtered P p items h.1))
    (λ (no : p y ≡ false). rw no (all_filtered P p items h.1))
    (cases_Bool (p y))

all_mapped : {A B : Type 0} (P : A → Type 0) (Q : B → Type 0) (f : A → B) (items : List A) → ((x : A) → P x → Q (f x)) → AllByRecursion P items → AllByRecursion Q (map f items)
all_mapped P Q f [] g h = tt
all_mapped P Q f (x ∷ items) g h = (g x h.0, all_mapped P Q f items g h.1)

-- ---- the archives

-- an archive that can be read, of so many
abbrev IsUsable : ℕ → Candidate → Type 0
IsUsable count one = (one.archive < count) × (0 < one.resolution) × (one.resolution ≤ 1000000000000)

abbrev IsNumbered : ℕ → ℕ × RraDef → Type 0
IsNumbered count pair = (pair.0 < count) × (0 < pair.1.steps) × (pair.1.steps ≤ 1000000)

all_numbered : (sources steps from count : ℕ) (archives : List Rra) → from + length archives ≤ count → AllByRecursion (IsValidArchive sources steps) archives
    → AllByRecursion (IsNumbered count) (enumerate_from from (map (λ (archive : Rra). archive.def) archives))
all_numbered sources steps from count [] le h = tt
all_numbered sources steps from count (archive ∷ archives) le h =
    ((omega arith, h.0.some_steps, h.0.few_steps), all_numbered sources steps (from + 1) count archives (omega arith) h.1)

usable : (step last count : ℕ) (pair : ℕ × RraDef) → 0 < step → step ≤ 1000000 → IsNumbered count pair → IsUsable count (candidate step last pair)
usable step last count (number, def) some small h =
    let few : def.steps ≤ 1000000 = h.2 in
    let positive : 1 ≤ def.steps = h.1 in
    let low : step * 1 ≤ step * def.steps = mul-le-mul_left step positive in
    let high : step * def.steps ≤ step * 1000000 = mul-le-mul_left step few in
    (h.0, omega arith, omega arith)

all_usable : (content : Content) (function : Function) → IsValid content
    → AllByRecursion (IsUsable (length content.archives)) (candidates content.step content.last function (map (λ (archive : Rra). archive.def) content.archives))
all_usable content function valid =
    let count = length content.archives in
    let Is : ℕ × RraDef → Bool = λ pair. same_function pair.1.function function in
    all_mapped (IsNumbered count) (IsUsable count) (candidate content.step content.last) _
    (λ pair h. usable content.step content.last count pair valid.some_step valid.small_step h)
    (all_filtered (IsNumbered count) Is _ (all_numbered (length content.sources) (content.last / content.step) 0 count content.archives (omega arith) valid.archives_are))

either : {A : Type 0} (P : A → Type 0) (o p : Option A) (x : A) → ((y : A) → o ≡ Some y → P y) → ((y : A) → p ≡ Some y → P y) → option_or o p ≡ Some x → P x
either P None p x f g e = g x e
either P (Some y) p x f g e = f x e

taken_usable : (count asked start : ℕ) (list : List Candidate) (one : Candidate) → AllByRecursion (IsUsable count) list → taken asked start list ≡ Some one → IsUsable count one
taken_usable count asked start list one all e =
    either (IsUsable count) (best (is_nearer asked) (filter (covers start) list)) (best (is_farther asked) list) one
    (λ y h. all_found (IsUsable count) _ (filter (covers start) list) y (all_filtered (IsUsable count) (covers start) list all) h)
    (λ y h. all_found (IsUsable count) _ list y all h)
    e

-- ---- the span

unrefused : (verdict : Option Refusal) (answer : Result Chosen Refusal) (chosen : Chosen) → unless_refused verdict answer ≡ Ok chosen → (verdict ≡ None) × (answer ≡ Ok chosen)
unrefused None answer chosen e = (refl, e)
unrefused (Some refusal) answer chosen e = absurd cc

spanned : (request : FetchRequest) (found : Option Candidate) (chosen : Chosen) → span_of present request found ≡ Ok chosen → (one : Candidate) × (found ≡ Some one) × (span request one ≡ chosen)
spanned request None chosen e = absurd cc
spanned request (Some one) chosen e = grind arith

second_passes : (a b c : Bool) (r s t : Refusal) → first_refusal (◌refuses◌ a r ∷ ◌refuses◌ b s ∷ ◌refuses◌ c t ∷ []) ≡ None → b ≡ false
second_passes true b c r s t e = absurd cc
second_passes false true c r s t e = absurd cc
second_passes false false c r s t e = refl

in_time : (end : ℕ) → nat_lt 9999999999 end ≡ false → end ≤ 9999999999
in_time end h = grind (arith, nat_tests)

span_readable : (content : Content) (request : FetchRequest) (one : Candidate) → IsUsable (length content.archives) one → request.end ≤ 9999999999 → IsReadable content (span request one)
span_readable content request one h end = grind arith

-- what is chosen can be read
pub chosen_readable : (content : Content) (function : Function) (asked start end : ℕ) (chosen : Chosen) → IsValid content → choice content function asked start end ≡ Ok chosen → IsReadable content chosen
unfolding choice_within
chosen_readable content function asked start end chosen valid e =
    let request : FetchRequest = record { function = function; asked = asked; start = start; end = end } in
    let list = candidates content.step content.last function (map (λ (archive : Rra). archive.def) content.archives) in
    let answered = unrefused _ (span_of present request (taken asked start list)) chosen e in
    let found = spanned request (taken asked start list) chosen answered.1 in
    let late = second_passes (nat_lt 9999999999 start) (nat_lt 9999999999 end) (nat_lt end start) BadTime BadTime BadSpan answered.0 in
    let can = taken_usable (length content.archives) asked start list found.0 (all_usable content function valid) found.1 in
    subst (IsReadable content) found.2 (span_readable content request found.0 can (in_time end late))
