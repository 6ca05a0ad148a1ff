-- Definition: the values of texts (rrdcreate, "DS" and "RRA").
use Rattle.std.specs.Prelude.{ℕ, ℤ, ◌==◌, Bool, List, [], ◌∷◌, Option, Some, None, codes, if◌then◌else◌}
use Rattle.rrd_tool.specs.Names.{find, list_any, before_first, after_first, slice_split, bytes_eq, Text, fits, number_of, Kind, Name, Function}
pub mod Parts
pub mod Answers

-- the value that is parsed next, unless something before it cannot be parsed
infixl 10 ◌>>?◌
abbrev pub ◌>>?◌ : {A B : Type 0} → Option A → (A → Option B) → Option B
Some x >>? next = next x
None >>? next = None

-- ---- colons

abbrev pub is_colon : ℕ → Bool
is_colon c = c == 58

-- the text before the first colon, and the text after it; `None` without a colon
abbrev pub cut_of : Text → Option (Text × Text)
cut_of text = if list_any is_colon text then Some (before_first is_colon text, after_first is_colon text) else None

-- the value of the text before the first colon, and then of the text after it
abbrev pub field : {A B : Type 0} → (Text → Option A) → Text → (A → Text → Option B) → Option B
field read text next = cut_of text >>? (λ cut. read cut.0 >>? (λ x. next x cut.1))

-- the texts between the colons
abbrev pub pieces : Text → List Text
pieces text = slice_split is_colon text

-- the values of the texts, if all of them can be parsed
abbrev pub each_in : {A : Type 0} → (Text → Option A) → List Text → Option (List A)
each_in read [] = Some []
each_in read (piece ∷ more) = read piece >>? (λ x. each_in read more >>? (λ xs. Some (x ∷ xs)))

-- ---- words for one value

-- a name that the type of names can hold, valid or not
abbrev pub name_of : Text → Option Name
name_of text = if fits text then Some text else None

-- the item that has this word
abbrev pub named : {A : Type 0} → (A → Text) → List A → Text → Option A
named word_of all text = find (λ item. bytes_eq text (word_of item)) all

-- the word of a type, as it is parsed and printed
abbrev pub kind_text : Kind → Text
kind_text Kind.Gauge = codes "GAUGE"
kind_text Kind.Counter = codes "COUNTER"
kind_text Kind.Derive = codes "DERIVE"
kind_text Kind.Absolute = codes "ABSOLUTE"

abbrev pub kinds : List Kind
kinds = Kind.Gauge ∷ Kind.Counter ∷ Kind.Derive ∷ Kind.Absolute ∷ []

abbrev pub kind_of : Text → Option Kind
kind_of text = named kind_text kinds text

-- the word of a function, as it is parsed and printed
abbrev pub function_text : Function → Text
function_text Function.Average = codes "AVERAGE"
function_text Function.Min = codes "MIN"
function_text Function.Max = codes "MAX"
function_text Function.Last = codes "LAST"

abbrev pub functions : List Function
functions = Function.Average ∷ Function.Min ∷ Function.Max ∷ Function.Last ∷ []

abbrev pub function_of : Text → Option Function
function_of text = named function_text functions text

abbrev pub is_unknown : Text → Bool
is_unknown text = bytes_eq text (codes "U")

-- a bound in millionths; `U` is no bound
abbrev pub bound_of : Text → Option (Option ℤ)
bound_of text = if is_unknown text then Some None else number_of text >>? (λ number. Some (Some number.millionths))
