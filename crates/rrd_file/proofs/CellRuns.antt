-- Cells one after another, and their bytes.
use Rattle.std.specs.Prelude.{◌≡◌, ◌++◌, ◌∷◌, ◌+◌, ◌*◌, ◌^◌, ◌<◌, ◌≤◌, ℕ, zero, suc, List, [], replicate, take, drop, length, map}
use Rattle.rrd_file.proofs.Names.{◌∙◌, sym, ap, subst, refl, append_assoc, length-append, arith, take_at, Consumes, flat_map, flat_map-append, length-replicate, length-take, length-take-le, replicate-append-replicate, take-append-drop, take-take, take-add, flat_map-cons, Cell, Unknown, Filed, MayCell, with_cell, MayCells, with_cells, Front, Gives, Input, left, Stands, OfCell, spell, cell_bytes, Body, Takes}
use Rattle.rrd_file.proofs.Reached.{front_more, gives_rest}
use Rattle.rrd_file.proofs.SignedBytes.{signed_length}

-- the bytes of cells
abbrev pub cells_bytes : List Cell → List ℕ
cells_bytes cells = flat_map cell_bytes cells

pub bytes_joined : (xs ys : List Cell) → cells_bytes (xs ++ ys) ≡ cells_bytes xs ++ cells_bytes ys
bytes_joined xs ys = flat_map-append cell_bytes xs ys

pub bytes_count : (cells : List Cell) → length (cells_bytes cells) ≡ 16 * length cells
bytes_count [] = omega arith
bytes_count (cell ∷ cells) = grind (arith, length-append, signed_length, bytes_count cells)

-- as pieces they have the same bytes
pub spelled_so : (cells : List Cell) → flat_map spell (map OfCell cells) ≡ cells_bytes cells
unfolding spell
spelled_so [] = refl
spelled_so (cell ∷ cells) = flat_map-cons spell (OfCell cell) (map OfCell cells) ∙ ap (λ (l : List ℕ). cell_bytes cell ++ l) (spelled_so cells) ∙ sym (flat_map-cons cell_bytes cell cells)

-- the first of them, and their bytes
pub first_bytes : (cells : List Cell) (n : ℕ) (bytes : List ℕ) → n ≤ length cells → bytes ≡ cells_bytes cells → take (16 * n) bytes ≡ cells_bytes (take n cells)
first_bytes cells n bytes h is =
    let front = cells_bytes (take n cells) in
    let back = cells_bytes (drop n cells) in
    let whole : cells_bytes cells ≡ front ++ back = ap cells_bytes (sym (take-append-drop n cells)) ∙ bytes_joined (take n cells) (drop n cells) in
    ap (take (16 * n)) (is ∙ whole) ∙ take_at front back (16 * n) (bytes_count (take n cells) ∙ ap (λ (k : ℕ). 16 * k) (length-take-le n cells h))

-- the bytes of unknown ones
pub unknown_flat : (n : ℕ) → flat_map (λ (bytes : List ℕ). bytes) (replicate n (cell_bytes Unknown)) ≡ cells_bytes (replicate n Unknown)
unknown_flat zero = refl
unknown_flat (suc n) = cc (flat_map-cons (λ (bytes : List ℕ). bytes) (cell_bytes Unknown) (replicate n (cell_bytes Unknown)), unknown_flat n, flat_map-cons cell_bytes Unknown (replicate n Unknown))

-- unknown ones, some and then more
pub unknown_bytes_on : (m n : ℕ) → cells_bytes (replicate m Unknown) ++ cells_bytes (replicate n Unknown) ≡ cells_bytes (replicate (m + n) Unknown)
unknown_bytes_on m n = sym (bytes_joined (replicate m Unknown) (replicate n Unknown)) ∙ ap cells_bytes (replicate-append-replicate m n Unknown)

pub unknown_read : (count : ℕ) (bytes rest : List ℕ) → bytes ≡ cells_bytes (replicate count Unknown) ++ rest → take (16 * count) bytes ≡ cells_bytes (replicate count Unknown)
unknown_read count bytes rest is =
    let front = cells_bytes (replicate count Unknown) in
    ap (take (16 * count)) is ∙ take_at front rest (16 * count) (bytes_count (replicate count Unknown) ∙ ap (λ (k : ℕ). 16 * k) (length-replicate count Unknown))

-- a block of unknown ones behind them
pub unknown_block_read : (count size : ℕ) (bytes rest block : List ℕ) → bytes ≡ cells_bytes (replicate count Unknown) ++ rest → block ≡ cells_bytes (replicate size Unknown) → take (length block) rest ≡ block → bytes ≡ cells_bytes (replicate (count + size) Unknown) ++ drop (length block) rest
unknown_block_read count size bytes rest block is block_is same =
    let front = cells_bytes (replicate count Unknown) in
    let more = drop (length block) rest in
    let split : rest ≡ cells_bytes (replicate size Unknown) ++ more = sym (take-append-drop (length block) rest) ∙ ap (λ (xs : List ℕ). xs ++ more) (same ∙ block_is) in
    is ∙ ap (λ (xs : List ℕ). front ++ xs) split ∙ sym (append_assoc front (cells_bytes (replicate size Unknown)) more) ∙ ap (λ (xs : List ℕ). xs ++ more) (unknown_bytes_on count size)

-- ---- cells as pieces

pub more_spelled : (row : List Cell) (done more : ℕ) → flat_map spell (map OfCell (take done row)) ++ cells_bytes (take more (drop done row)) ≡ flat_map spell (map OfCell (take (done + more) row))
more_spelled row done more = cc (spelled_so (take done row), bytes_joined (take done row) (take more (drop done row)), take-add done more row, spelled_so (take (done + more) row))

pub rest_spelled : (row : List Cell) (done : ℕ) → flat_map spell (map OfCell (take done row)) ++ cells_bytes (drop done row) ≡ flat_map spell (map OfCell row)
rest_spelled row done = cc (spelled_so (take done row), bytes_joined (take done row) (drop done row), take-append-drop done row, spelled_so row)

-- ---- cells that came one after another

takes_cell : (f : Filed) (cell : Cell) → MayCell f cell → Takes (Body f) (OfCell cell) (Body (with_cell f cell))
unfolding Takes
takes_cell f cell may = (may, refl)

cell_spelled : (cell : Cell) → spell (OfCell cell) ≡ cell_bytes cell
unfolding spell
cell_spelled cell = refl

front_cells : (bytes : List ℕ) (f : Filed) (cells : List Cell) (rest : List ℕ) → Front bytes (Body f) (cells_bytes cells ++ rest) → MayCells f cells → Front bytes (Body (with_cells f cells)) rest
front_cells bytes f [] rest front may = front
front_cells bytes f (cell ∷ cells) rest front may =
    let same : cells_bytes (cell ∷ cells) ++ rest ≡ spell (OfCell cell) ++ (cells_bytes cells ++ rest) = grind (arith, append_assoc, cell_spelled) in
    front_cells bytes (with_cell f cell) cells rest (front_more bytes (Body f) (Body (with_cell f cell)) (OfCell cell) (cells_bytes cells ++ rest) (subst (Front bytes (Body f)) same front) (takes_cell f cell may.0)) may.1

pub cells_taken : (bytes piece : List ℕ) (old new : Input) (f to : Filed) (cells : List Cell) → Stands bytes (Body f) old → Gives old piece new → piece ≡ cells_bytes cells → MayCells f cells → to ≡ with_cells f cells → Stands bytes (Body to) new
cells_taken bytes piece old new f to cells st g is may to_is = grind (arith, gives_rest (left old) (left new) piece st.rest st.left_is g.consumed, front_cells, length-append)

-- the first of the cells that wait were taken
pub some_taken : (bytes : List ℕ) (old new : Input) (f to : Filed) (cells : List Cell) (taken n size : ℕ) (front : List ℕ) → Stands bytes (Body f) old → front ≡ take size old.waiting → take (16 * n) front ≡ cells_bytes cells → length cells ≡ n → taken ≤ n
    → MayCells f (take taken cells) → to ≡ with_cells f (take taken cells) → Consumes (left old) (left new) (take (taken * 16) old.waiting) → new.at ≡ old.at + taken * 16 → new.at < 2 ^ 64 → Stands bytes (Body to) new
some_taken bytes old new f to cells taken n size front st front_is spelled count few may to_is consumed at bounded =
    let piece = take (taken * 16) old.waiting in
    let turned : taken * 16 ≡ 16 * taken = omega arith in
    let long : length (take (16 * n) front) ≡ 16 * n = ap length spelled ∙ bytes_count cells ∙ ap (λ (k : ℕ). 16 * k) count in
    let fits : 16 * n ≤ length front = omega (arith, long, length-take (16 * n) front) in
    let within : 16 * n ≤ size = omega (arith, fits, ap length front_is, length-take size old.waiting) in
    let waits : 16 * n ≤ length old.waiting = omega (arith, fits, ap length front_is, length-take size old.waiting) in
    let piece_is : piece ≡ cells_bytes (take taken cells) =
    ap (λ (k : ℕ). take k old.waiting) turned
    ∙ sym (take-take (16 * taken) size old.waiting (omega (arith, few, within)))
    ∙ ap (take (16 * taken)) (sym front_is)
    ∙ sym (take-take (16 * taken) (16 * n) front (omega (arith, few)))
    ∙ first_bytes cells taken (take (16 * n) front) (omega (arith, few, count)) spelled in
    let gives : Gives old piece new = record {
      consumed = consumed;
      advanced = omega (arith, at, length-take-le (taken * 16) old.waiting (omega (arith, few, waits)));
      bounded = bounded;
    } in
    cells_taken bytes piece old new f to (take taken cells) st gives piece_is may to_is
