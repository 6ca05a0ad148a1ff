-- Values from the bytes that they were spelled as.
use Rattle.std.specs.Prelude.{◌≡◌, ◌≢◌, ◌++◌, ◌∷◌, ◌-◌, ◌^◌, ◌<◌, ◌≤◌, ℕ, zero, suc, ◌+◌, ◌*◌, replicate, List, [], take, drop, length, ℤ, pos, ◌==◌, true, Bool, if◌then◌else◌, Option, Some, None, IfSome}
use Rattle.rrd_file.proofs.Names.{◌∙◌, sym, ap, refl, subst, get_or, arith, length-take-le, length-drop, append_assoc, append-nil, list_all, Name, fits, Function, RraDef, SavedSource, OfSavedSource, OfArchive, OfHeader, OfSource, OfRawAndPart, count_bytes, spell, header_size, FitsSavedSource, FitsArchive, FitsDef, FitsSource, Version, Source, Raw, Part, DsDef, w128, to_be_bytes, take-append-drop, of_z-to_z, of_z, to_z, two_bytes, four_bytes, eight_bytes, signed_bytes, bound_bytes, function_byte, kind_byte, name_bytes, part_bytes, raw_bytes, source_bytes}
use Rattle.rrd_file.proofs.Spelled.{append_same, short_fit}
use Rattle.rrd_file.proofs.Lengths.{name_length, source_length}
use Rattle.rrd_file.proofs.SignedBytes.{halves}
use Rattle.rrd_base.proofs.Dues.{none_there}

-- a number by its halves
pub halves_back : (bytes behind rest : List ℕ) (high low bits : ℕ) (z : ℤ) → bytes ≡ eight_bytes high ++ behind → behind ≡ eight_bytes low ++ rest → low < 2 ^ 64 → bits ≡ high * 2 ^ 64 + low → bits < 2 ^ 128 → z ≡ to_z w128 bits → bytes ≡ signed_bytes z ++ rest
unfolding signed_bytes
halves_back bytes behind rest high low bits z first second small is below number = cc (first, second, append_assoc (eight_bytes high) (eight_bytes low) rest, sym (halves bits high low is small) ∙ ap (to_be_bytes w128) (sym (of_z-to_z w128 bits below) ∙ ap (of_z w128) (sym number)))

pub header_back : (version : Version) (bs r s t u v w : List ℕ) (a b c d e f : ℕ) → length bs ≡ header_size version → bs ≡ four_bytes a ++ r → r ≡ eight_bytes b ++ s → s ≡ count_bytes version c ++ t → t ≡ two_bytes d ++ u → u ≡ two_bytes e ++ v → v ≡ count_bytes version f ++ w → length w + header_size version ≡ length bs
    → spell (OfHeader (record { version = version; step = a; last = b; depth = c; sources = d; archives = e; entries = f })) ≡ bs
unfolding spell
header_back version bs r s t u v w a b c d e f l p q x y z o n = grind (arith, none_there)

pub archive_back : (bs first r s t u : List ℕ) (function : Function) (a b c : ℕ) → length bs ≡ 13 → first ≡ take 1 bs → r ≡ drop 1 bs → function_byte function ≡ get_or first 0 0 → r ≡ four_bytes a ++ s → s ≡ four_bytes b ++ t → t ≡ four_bytes c ++ u → length u + 12 ≡ length r
    → spell (OfArchive (record { function = function; xff = pos b; steps = a; rows = c })) ≡ bs
unfolding spell
archive_back bs first r s t u function a b c l f d k p q x n = grind (arith, none_there)

pub archive_none : (bs first : List ℕ) → first ≡ take 1 bs → ((function : Function) → function_byte function ≢ get_or first 0 0) → (def : RraDef) → spell (OfArchive def) ≢ bs
unfolding spell
archive_none bs first f none def e = none def.function (ap (λ l. get_or l 0 0) (ap (take 1) e ∙ sym f))

-- ---- names

zeros_are : (bs : List ℕ) → list_all (λ (byte : ℕ). byte == 0) bs ≡ true → bs ≡ replicate (length bs) 0
zeros_are [] h = refl
zeros_are (zero ∷ bs) h = ap (λ l. 0 ∷ l) (zeros_are bs h)
zeros_are (suc b ∷ bs) h = grind (arith, h)

are_zeros : (n : ℕ) → list_all (λ (byte : ℕ). byte == 0) (replicate n 0) ≡ true
are_zeros zero = refl
are_zeros (suc n) = are_zeros n

pub name_back : (bs first rest text zeros : List ℕ) (size : ℕ) → length bs ≡ 20 → first ≡ take 1 bs → rest ≡ drop 1 bs → size ≡ get_or first 0 0 → size ≤ 19 → text ≡ take size rest → zeros ≡ drop size rest → list_all (λ (byte : ℕ). byte == 0) zeros ≡ true → name_bytes text ≡ bs
name_back [] first rest text zeros size l f r s small t z all = absurd (omega (arith, l))
name_back (b ∷ bs) first rest text zeros size l f r s small t z all =
    let wide : size ≤ length rest = omega (arith, ap length r, l, small) in
    let long : length text ≡ size = ap length t ∙ length-take-le size rest wide in
    let head : size ≡ b = s ∙ ap (λ m. get_or m 0 0) f in
    let count : length zeros ≡ 19 - length text = omega (arith, ap length z, length-drop size rest, ap length r, l, long) in
    let tail : text ++ replicate (19 - length text) 0 ≡ bs =
    ap (λ n. text ++ replicate n 0) (sym count) ∙ ap (λ m. text ++ m) (sym (zeros_are zeros all)) ∙ (λ i. t i ++ z i) ∙ take-append-drop size rest ∙ r in
    λ i. (long ∙ head) i ∷ tail i

drop_own : (a b : List ℕ) → drop (length a) (a ++ b) ≡ b
drop_own [] b = refl
drop_own (x ∷ a) b = drop_own a b

-- what a name's bytes say
pub size_said : (bs first : List ℕ) (size : ℕ) (name : Name) → name_bytes name ≡ bs → first ≡ take 1 bs → size ≡ get_or first 0 0 → length name ≡ size
size_said bs first size name e f s = ap (λ l. get_or l 0 0) (ap (take 1) e ∙ sym f) ∙ sym s

pub zeros_said : (bs first rest zeros : List ℕ) (size : ℕ) (name : Name) → name_bytes name ≡ bs → first ≡ take 1 bs → rest ≡ drop 1 bs → size ≡ get_or first 0 0 → zeros ≡ drop size rest → list_all (λ (byte : ℕ). byte == 0) zeros ≡ true
zeros_said bs first rest zeros size name e f r s z = grind (arith, size_said, drop_own, are_zeros)

fit_some_at : (b : Bool) (text : Name) (bs : List ℕ) → fits text ≡ b → name_bytes text ≡ bs → IfSome (if b then Some text else None) (λ (name : Name). (fits name ≡ true) × (name_bytes name ≡ bs))
fit_some_at b text bs f e = grind arith

pub fit_some : (text : Name) (bs : List ℕ) (r : Option Name) → r ≡ (if fits text then Some text else None) → name_bytes text ≡ bs → IfSome r (λ (name : Name). (fits name ≡ true) × (name_bytes name ≡ bs))
fit_some text bs r is e = subst (λ (o : Option Name). IfSome o (λ (name : Name). (fits name ≡ true) × (name_bytes name ≡ bs))) (sym is) (fit_some_at (fits text) text bs refl e)

pub archive_some : (bs : List ℕ) (function : Function) (a b c : ℕ) (xff : ℤ) → xff ≡ pos b → a < 2 ^ 32 → b < 2 ^ 32 → c < 2 ^ 32 → spell (OfArchive (record { function = function; xff = pos b; steps = a; rows = c })) ≡ bs
    → FitsArchive (record { function = function; xff = xff; steps = a; rows = c }) × (spell (OfArchive (record { function = function; xff = xff; steps = a; rows = c })) ≡ bs)
archive_some bs function a b c xff is fa fb fc back = grind arith

-- ---- settings

nested : (n a b c : List ℕ) → n ++ a ++ b ++ c ≡ n ++ (a ++ (b ++ c))
nested n a b c = append_assoc (n ++ a) b c ∙ append_assoc n a (b ++ c)

pub def_said : (bs : List ℕ) (y : DsDef) → length bs ≡ 61 → FitsDef y → source_bytes y ≡ bs → (name_bytes y.name ≡ take 20 bs) × (kind_byte y.kind ≡ get_or (take 1 (drop 20 bs)) 0 0)
def_said bs y l fit e =
    let long : length (name_bytes y.name) ≡ length (take 20 bs) = name_length y.name (short_fit y.name fit.name) ∙ sym (length-take-le 20 bs (omega (arith, l))) in
    let whole = sym (nested (name_bytes y.name) (kind_byte y.kind ∷ eight_bytes y.heartbeat) (bound_bytes y.min) (bound_bytes y.max)) ∙ e ∙ sym (take-append-drop 20 bs) in
    grind (arith, append_same)

pub before_back : (bs r s : List ℕ) (raw : Raw) (part : Part) → length bs ≡ 36 → bs ≡ raw_bytes raw ++ r → r ≡ part_bytes part ++ s → length s + 36 ≡ length bs → spell (OfRawAndPart raw part) ≡ bs
unfolding spell
before_back bs r s raw part l p q m = grind (arith, none_there, append-nil)

pub source_back : (bs front rest : List ℕ) (source : Source) → front ≡ take 61 bs → rest ≡ drop 61 bs → source_bytes source.def ≡ front → spell (OfRawAndPart source.raw source.part) ≡ rest → spell (OfSource source) ≡ bs
unfolding spell
source_back bs front rest source f d p q =
    append_assoc (source_bytes source.def) (raw_bytes source.raw) (part_bytes source.part) ∙ (λ i. (p ∙ f) i ++ (q ∙ d) i) ∙ take-append-drop 61 bs

pub source_said : (bs : List ℕ) (y : Source) → length bs ≡ 97 → FitsSource y → spell (OfSource y) ≡ bs → source_bytes y.def ≡ take 61 bs
unfolding spell
source_said bs y l fit e =
    let long : length (source_bytes y.def) ≡ length (take 61 bs) = source_length y.def (short_fit y.def.name fit.def.name) ∙ sym (length-take-le 61 bs (omega (arith, l))) in
    (append_same (source_bytes y.def) (raw_bytes y.raw ++ part_bytes y.part) (take 61 bs) (drop 61 bs) long (sym (append_assoc (source_bytes y.def) (raw_bytes y.raw) (part_bytes y.part)) ∙ e ∙ sym (take-append-drop 61 bs))).0

pub saved_source_back : (bs more front rest last : List ℕ) (old : SavedSource) → length bs ≡ 79 → bs ≡ two_bytes old.number ++ more → length more + 2 ≡ length bs → front ≡ take 61 more → rest ≡ drop 61 more → source_bytes old.source ≡ front → rest ≡ raw_bytes old.raw ++ last → length last + 16 ≡ length rest → spell (OfSavedSource old) ≡ bs
unfolding spell
saved_source_back bs more front rest last old l n s f d p q m =
    let none : last ≡ [] = none_there last (omega (arith, l, s, m, ap length d, length-drop 61 more)) in
    let tail : raw_bytes old.raw ≡ rest = sym (append-nil (raw_bytes old.raw)) ∙ ap (λ m. raw_bytes old.raw ++ m) (sym none) ∙ sym q in
    ap (λ m. two_bytes old.number ++ m) ((λ i. (p ∙ f) i ++ (tail ∙ d) i) ∙ take-append-drop 61 more) ∙ sym n

pub saved_source_said : (bs more : List ℕ) (number : ℕ) (y : SavedSource) → length bs ≡ 79 → bs ≡ two_bytes number ++ more → FitsSavedSource y → spell (OfSavedSource y) ≡ bs → source_bytes y.source ≡ take 61 more
unfolding spell
saved_source_said bs more number y l n fit e =
    let after : source_bytes y.source ++ raw_bytes y.raw ≡ more = (append_same (two_bytes y.number) (source_bytes y.source ++ raw_bytes y.raw) (two_bytes number) more refl (e ∙ n)).1 in
    let long : 61 ≤ length more = omega (arith, l, ap length n) in
    let same : length (source_bytes y.source) ≡ length (take 61 more) = source_length y.source (short_fit y.source.name fit.source.name) ∙ sym (length-take-le 61 more long) in
    (append_same (source_bytes y.source) (raw_bytes y.raw) (take 61 more) (drop 61 more) same (after ∙ sym (take-append-drop 61 more))).0
