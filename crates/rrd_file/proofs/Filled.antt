-- Bytes that came behind those that wait in a buffer.
use Rattle.std.specs.Prelude.{◌≡◌, ◌++◌, ◌+◌, ◌-◌, ◌≤◌, ℕ, List, length, take, drop, Option, Some, None}
use Rattle.rrd_file.proofs.Names.{◌∙◌, sym, ap, arith, append_assoc, length-drop, Consumes, Keeps, prepend_known, drop-take, length-take, take-append-drop, IsWaiting, take-take}
use Rattle.std.proofs.Common.{slice_range}
use lib.Seq.{drop-drop, take-add}

-- what was read moves to those that wait
pub waited : (old new : Option (List ℕ)) (before after came : List ℕ) → Consumes old new came → after ≡ before ++ came
    → Keeps (prepend_known before old) (prepend_known after new)
waited old new before after came c e = grind (arith, append_assoc)

-- those that wait, and the next ones
pub grown : (xs before : List ℕ) (m n : ℕ) → slice_range xs 0 m ≡ before → slice_range xs 0 (m + n) ≡ before ++ slice_range xs m (m + n)
grown xs before m n is = grind (arith, take-add m n xs)

-- ---- the first bytes that wait

pub within_range : (bytes waiting : List ℕ) (from end size : ℕ) → IsWaiting bytes from end → slice_range bytes from end ≡ waiting → size ≤ length waiting → from + size ≤ end
within_range bytes waiting from end size is same few =
    omega (arith, is.ordered, is.within, few, ap length same, length-take (end - from) (drop from bytes), length-drop from bytes)

pub front_of : (bytes : List ℕ) (from end size : ℕ) → from + size ≤ end → slice_range bytes from (from + size) ≡ take size (slice_range bytes from end)
front_of bytes from end size within =
    let all : from + size - from ≡ size = omega arith in
    ap (λ k. take k (drop from bytes)) all ∙ sym (take-take size (end - from) (drop from bytes) (omega (arith, within)))

pub skipped : (bytes : List ℕ) (from end size : ℕ) → from + size ≤ end → slice_range bytes (from + size) end ≡ drop size (slice_range bytes from end)
skipped bytes from end size within =
    let more = end - (from + size) in
    grind (arith, drop-take size more (drop from bytes), drop-drop size from bytes)

pub consumed : (waiting : List ℕ) (behind : Option (List ℕ)) (size : ℕ) → Consumes (prepend_known waiting behind) (prepend_known (drop size waiting) behind) (take size waiting)
consumed waiting None size = tt
consumed waiting (Some rest) size =
    ap (λ l. l ++ rest) (sym (take-append-drop size waiting)) ∙ append_assoc (take size waiting) (drop size waiting) rest
