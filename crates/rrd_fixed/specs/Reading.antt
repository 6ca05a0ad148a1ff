-- Definition: the texts of numbers that are accepted (this project's rule).
use Rattle.std.specs.Prelude.{ℕ, ◌+◌, ◌-◌, ◌*◌, ◌^◌, pos, neg_ℤ, List, [], ◌∷◌, Bool, true, false, ◌&&◌, ◌==◌, nat_lt, nat_le, length, if◌then◌else◌, Option, Some, None, option_map}
use Rattle.std.specs.Char.{is_ascii_digit}
use Rattle.std.specs.List.{list_all, list_any, before_first, after_first}
use Rattle.rrd_fixed.specs.declared.number.Number.{Number}

-- 1 to `most` digits, and no other character
abbrev pub are_digits : ℕ → List ℕ → Bool
are_digits most text = nat_lt 0 (length text) && nat_le (length text) most && list_all is_ascii_digit text

-- the number of a text of digits: each digit counts ten times as much as the one after it
abbrev pub value_of : List ℕ → ℕ
value_of [] = 0
value_of (digit ∷ rest) = (digit - 48) * 10 ^ length rest + value_of rest

-- a whole number: 1 to 20 digits, at most 2 ^ 64 - 1
unfoldable pub whole_of : List ℕ → Option ℕ
whole_of text = if are_digits 20 text && nat_lt (value_of text) (2 ^ 64) then Some (value_of text) else None

abbrev pub is_point : ℕ → Bool
is_point c = c == 46

-- the millionths of up to six digits after a point
abbrev pub fraction_of : List ℕ → ℕ
fraction_of digits = value_of digits * 10 ^ (6 - length digits)

-- 1 to 20 digits, and no point
abbrev pub plain_of : List ℕ → Option Number
plain_of digits =
    if are_digits 20 digits
    then Some (record { millionths = pos (value_of digits * 10 ^ 6); point = false })
    else None

-- 1 to 20 digits before a point, and 1 to 6 digits after it
abbrev pub pointed_of : List ℕ → List ℕ → Option Number
pointed_of whole fraction =
    if are_digits 20 whole && are_digits 6 fraction
    then Some (record { millionths = pos (value_of whole * 10 ^ 6 + fraction_of fraction); point = true })
    else None

-- a number without a sign, cut at its first point if it has one
unfoldable pub unsigned_of : List ℕ → Option Number
unsigned_of text =
    if list_any is_point text
    then pointed_of (before_first is_point text) (after_first is_point text)
    else plain_of text

abbrev pub negated : Number → Number
negated number = record number { millionths = neg_ℤ number.millionths }

-- a number with or without a minus before it
unfoldable pub number_of : List ℕ → Option Number
number_of [] = None
number_of (c ∷ rest) = if c == 45 then option_map negated (unsigned_of rest) else unsigned_of (c ∷ rest)
