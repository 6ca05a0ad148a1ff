-- Definition: the names of data sources (rrdcreate, "DS").
use Rattle.std.specs.Prelude.{ℕ, List, Bool, ◌&&◌, ◌||◌, ◌==◌, nat_lt, nat_le, length}
use Rattle.std.specs.List.{list_all}
use Rattle.std.specs.Str.{bytes_eq}

-- one of a-z A-Z 0-9 _
abbrev pub is_letter : ℕ → Bool
is_letter c =
    (nat_le 97 c && nat_le c 122) || (nat_le 65 c && nat_le c 90) || (nat_le 48 c && nat_le c 57) || (c == 95)

-- at most 19 ASCII characters: the texts that the type of names can hold
abbrev pub fits : List ℕ → Bool
fits text = nat_le (length text) 19 && list_all (λ c. nat_lt c 128) text

-- 1 to 19 letters: the names that a data source may have
abbrev pub is_good : List ℕ → Bool
is_good name = nat_lt 0 (length name) && nat_le (length name) 19 && list_all is_letter name

abbrev pub same_name : List ℕ → List ℕ → Bool
same_name a b = bytes_eq a b
