-- A piece that was read to its end.
use Rattle.std.specs.Prelude.{◌≡◌, ◌++◌, ◌+◌, ℕ, List, [], ◌∷◌, length}
use Rattle.rrd_file.proofs.Names.{sym, ap, get_or, arith, append-nil}
use Rattle.rrd_base.proofs.Dues.{none_there}

-- no byte is behind the value
pub whole : (piece spelling rest : List ℕ) (n : ℕ) → piece ≡ spelling ++ rest → length rest + n ≡ length piece → length piece ≡ n → spelling ≡ piece
whole piece spelling rest n is room len = grind (arith, append-nil, none_there)

pub one_byte : (piece : List ℕ) (b : ℕ) → length piece ≡ 1 → get_or piece 0 0 ≡ b → b ∷ [] ≡ piece
one_byte (x ∷ []) b l e = ap (λ y. y ∷ []) (sym e)
one_byte x b l e = absurd (omega (arith, l))
