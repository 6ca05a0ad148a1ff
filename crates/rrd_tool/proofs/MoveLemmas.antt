-- What the database stands for after more lines.
use Rattle.std.specs.Prelude.{◌++◌, List, ℕ, Option, Result}
use Rattle.rrd_tool.proofs.Names.{WriteFault, State, Stored, last_part, whole_lines, Moves, Tallies, Ran, Stopped, Tally, Refusals, StandsFor, turn}
use Rattle.rrd_tool.proofs.BatchLemmas.{answers_more, stopped_front}

-- all of them, or some first ones
abbrev pub MovesRan : ℕ → Option Stored → Option Stored → Refusals → Refusals → Option (List ℕ) → Option (List ℕ) → List (List ℕ) → Type 0
MovesRan now b0 b1 k0 k1 c0 c1 lines =
    (s0 : Option State) → StandsFor b0 s0 → (most : ℕ) (t0 : Tally) → Tallies most k0 t0
    → (s1 : Option State) × StandsFor b1 s1 × (t1 : Tally) × Tallies most k1 t1 × Ran (turn now) s0 s1 t0 t1 c0 c1 lines

abbrev pub MovesStopped : ℕ → Option Stored → Option Stored → Refusals → Refusals → Option (List ℕ) → Option (List ℕ) → List (List ℕ) → Type 0
MovesStopped now b0 b1 k0 k1 c0 c1 lines =
    (s0 : Option State) → StandsFor b0 s0 → (most : ℕ) (t0 : Tally) → Tallies most k0 t0
    → (s1 : Option State) × StandsFor b1 s1 × (t1 : Tally) × Tallies most k1 t1 × Stopped (turn now) s0 s1 t0 t1 c0 c1 lines

pub moves_more : {T : Type 0} (now : ℕ) (b0 b1 b2 : Option Stored) (k0 k1 k2 : Refusals) (a b c : Option (List ℕ)) (unfinished xs ys : List ℕ) → MovesRan now b0 b1 k0 k1 a b (whole_lines unfinished xs)
    → (r : Result T WriteFault) → Moves now b1 b2 k1 k2 b c (whole_lines (last_part unfinished xs) ys) r → Moves now b0 b2 k0 k2 a c (whole_lines unfinished (xs ++ ys)) r
moves_more now b0 b1 b2 k0 k1 k2 a b c unfinished xs ys f r k s0 s most t0 tallies =
    let p = f s0 s most t0 tallies in
    let q = k p.0 p.1 most p.2 p.3 in
    (q.0, q.1, q.2, q.3, answers_more (turn now) s0 p.0 q.0 t0 p.2 q.2 a b c unfinished xs ys p.4 r q.4)

pub moves_front : (now : ℕ) (b0 b1 : Option Stored) (k0 k1 : Refusals) (a b : Option (List ℕ)) (unfinished xs ys : List ℕ) → MovesStopped now b0 b1 k0 k1 a b (whole_lines unfinished xs)
    → MovesStopped now b0 b1 k0 k1 a b (whole_lines unfinished (xs ++ ys))
moves_front now b0 b1 k0 k1 a b unfinished xs ys f s0 s most t0 tallies =
    let p = f s0 s most t0 tallies in
    (p.0, p.1, p.2, p.3, stopped_front (turn now) s0 p.0 t0 p.2 a b unfinished xs ys p.4)
