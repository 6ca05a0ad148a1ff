-- Definition: parsing that may stop at a part that cannot be parsed (this project's rule).
use Rattle.std.specs.Prelude.{◌+◌, ℕ, List, [], ◌∷◌, Option, Some, None, Result, Ok, Err}
use Rattle.rrd_tool.specs.Names.{Text}
use Rattle.rrd_tool.specs.declared.faults.Part.{Part}

-- the part that cannot be parsed, and its number
abbrev pub Unread : Type 0
Unread = Part × ℕ

-- the value that is parsed next, unless the part before it cannot be parsed
infixl 10 ◌>>=◌
abbrev pub ◌>>=◌ : {A B : Type 0} → Result A Unread → (A → Result B Unread) → Result B Unread
Ok x >>= next = next x
Err unread >>= next = Err unread

-- the value that was parsed, or else the part that cannot be parsed
abbrev pub or_fault : {A : Type 0} → Part → ℕ → Option A → Result A Unread
or_fault part number (Some x) = Ok x
or_fault part number None = Err (part, number)

-- the value of a required argument
abbrev pub required : {A : Type 0} → (Text → Option A) → Part → Option Text → Result A Unread
required read part (Some text) = or_fault part 1 (read text)
required read part None = Err (part, 1)

-- the value of an option, if it is given
abbrev pub optional : {A : Type 0} → (Text → Option A) → Part → Option Text → Result (Option A) Unread
optional read part (Some text) = or_fault part 1 (read text) >>= (λ x. Ok (Some x))
optional read part None = Ok None

-- the value of an option, or its default if it is not given
abbrev pub given : {A : Type 0} → (Text → Option A) → Part → Option Text → A → Result A Unread
given read part (Some text) standard = or_fault part 1 (read text)
given read part None standard = Ok standard

-- the values of the arguments, which are numbered from `number`; or else the first that cannot be parsed
abbrev pub each_of : {A : Type 0} → (Text → Option A) → Part → ℕ → List Text → Result (List A) Unread
each_of read part number [] = Ok []
each_of read part number (word ∷ words) =
    or_fault part number (read word) >>= (λ x. each_of read part (number + 1) words >>= (λ xs. Ok (x ∷ xs)))
