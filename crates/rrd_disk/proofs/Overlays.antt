-- What a file is after bytes were laid over it, in the words of rrd_change.
use Rattle.rrd_disk.proofs.Names.{common_steps, ◌≡◌, ℕ, ◌+◌, ◌-◌, ◌<◌, ◌≤◌, ◌⊎◌, inl, inr, List, [], ◌∷◌, ◌++◌, length, drop, replicate, slice_index, refl, ◌∙◌, ap, arith, length-append, length-drop, get_or-drop, get_or_append_left, get_or-append_right, get_or_past, cases_lt, ArePut, IsSized}
use Rattle.rrd_disk.specs.Replayed.{padded, overlaid}

-- zeros have the value that a list has past its end
zeros : (n k : ℕ) → slice_index (replicate n 0) k ≡ 0
zeros n k = grind (arith, common_steps)

-- so zeros behind a file change no byte
zeros_behind : (file : List ℕ) (n k : ℕ) → slice_index (file ++ replicate n 0) k ≡ slice_index file k
zeros_behind file n k = grind (arith, common_steps, cases_lt, get_or_append_left, get_or-append_right, zeros, get_or_past)

pub length-padded : (file : List ℕ) (count : ℕ) → length (padded file count) ≡ count
unfolding padded
length-padded file count = grind (arith, common_steps, length-append)

pub padded_below : (file : List ℕ) (count k : ℕ) → k < count → slice_index (padded file count) k ≡ slice_index file k
unfolding padded
padded_below file count k low = grind (arith, common_steps, zeros_behind)

pub padded-IsSized : (file : List ℕ) (count : ℕ) → IsSized count file (padded file count)
padded-IsSized file count = record { len = length-padded file count; below = padded_below file count }

-- bytes between a front of the file and the rest of it
laid : (file : List ℕ) (at : ℕ) (bytes : List ℕ) → ArePut at bytes file (padded file at ++ bytes ++ drop (at + length bytes) file)
laid file at bytes =
    let end = at + length bytes in
    let front = padded file at in
    let rest = drop end file in
    let is_at : length front ≡ at = length-padded file at in
    let is_end : length (front ++ bytes) ≡ end = omega (arith, length-append front bytes, is_at) in
    record {
      len = omega (arith, length-append (front ++ bytes) rest, length-drop end file, is_end);
      inside = λ i low.
          let back : at + i - at ≡ i = omega arith in
          get_or_append_left (front ++ bytes) rest 0 (at + i) (omega (arith, is_end))
          ∙ get_or-append_right front bytes at (at + i) 0 is_at (omega arith) ∙ ap (slice_index bytes) back;
      outside = λ k away. elim away [
        | inl low ↦ get_or_append_left (front ++ bytes) rest 0 k (omega (arith, is_end))
            ∙ get_or_append_left front bytes 0 k (omega (arith, is_at)) ∙ padded_below file at k low
        | inr high ↦
            let back : end + (k - end) ≡ k = omega arith in
            get_or-append_right (front ++ bytes) rest end k 0 is_end high ∙ get_or-drop end file (k - end) 0 ∙ ap (slice_index file) back
      ];
    }

-- no bytes past the end would leave a gap that no call fills
pub overlaid-ArePut : (file : List ℕ) (at : ℕ) (bytes : List ℕ) → (at ≤ length file) ⊎ (0 < length bytes) → ArePut at bytes file (overlaid file at bytes)
unfolding overlaid
overlaid-ArePut file at [] (inl within) = record { len = omega arith; inside = λ i low. absurd (omega arith); outside = λ k away. refl }
overlaid-ArePut file at [] (inr some) = absurd (omega arith)
overlaid-ArePut file at (byte ∷ more) some = laid file at (byte ∷ more)

-- no bytes change nothing
pub overlaid_none : (file : List ℕ) (at : ℕ) (bytes : List ℕ) → length bytes ≡ 0 → overlaid file at bytes ≡ file
unfolding overlaid
overlaid_none file at [] none = refl
overlaid_none file at (byte ∷ more) none = absurd (omega (arith, none))
