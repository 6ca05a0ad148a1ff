-- The fault of a first part is the fault of the whole; and how the file of a database begins.
use Rattle.std.specs.Prelude.{◌≡◌, ◌+◌, ◌≤◌, ◌++◌, ◌∷◌, [], ℕ, List, length, take}
use Rattle.rrd_file.proofs.Names.{◌∙◌, ap, arith, length-append, append_assoc, flat_map, take-append-le, Filed, filed, Stored, One, FileFault, NotOurs, Truncated, BadBlock, BadEntry, Trailing, Read, OutOfMemory, Front, IsBad, IsTrailing, FileBegins, FrontHasTheFault, layout_in, pieces_filed, spelled, spell, Stage, size}
use Rattle.rrd_file.specs.declared.fault.FileFault.TheVariants.{Version as WrongVersion}
use Rattle.rrd_file.proofs.OneAnswer.{file_is_layout}

-- ---- more bytes

module _ (front rest : List ℕ) where
  front_goes_on : (stage : Stage) (left : List ℕ) → Front front stage left → Front (front ++ rest) stage (left ++ rest)
  front_goes_on stage left h = record {
    pieces = h.pieces;
    runs = h.runs;
    parts = ap (λ (l : List ℕ). l ++ rest) h.parts ∙ append_assoc (flat_map spell h.pieces) left rest;
  }

  place_goes_on : (at : ℕ) (left : List ℕ) → at + length left ≡ length front → at + length (left ++ rest) ≡ length (front ++ rest)
  place_goes_on at left h = omega (arith, length-append left rest, length-append front rest)

  bad_goes_on : (fault : FileFault) → IsBad front fault → IsBad (front ++ rest) fault
  bad_goes_on fault h =
      let same = take-append-le (size h.stage) h.rest rest h.whole in
      record {
        stage = h.stage;
        rest = h.rest ++ rest;
        front = front_goes_on h.stage h.rest h.front;
        is_due = h.is_due;
        whole = omega (arith, h.whole, length-append h.rest rest);
        none = λ piece next takes e. h.none piece next takes (e ∙ same);
        at = h.at;
        place = place_goes_on h.at h.rest h.place;
        fault_is = h.fault_is;
      }

  trailing_goes_on : (at : ℕ) → IsTrailing front at → IsTrailing (front ++ rest) at
  trailing_goes_on at h = record {
    stage = h.stage;
    rest = h.rest ++ rest;
    front = front_goes_on h.stage h.rest h.front;
    done = h.done;
    some = omega (arith, h.some, length-append h.rest rest);
    place = place_goes_on at h.rest h.place;
  }

  pub front_has_the_fault : (fault : FileFault) → FrontHasTheFault front rest fault
  front_has_the_fault NotOurs settled h = bad_goes_on NotOurs h
  front_has_the_fault WrongVersion settled h = bad_goes_on WrongVersion h
  front_has_the_fault (Truncated at) settled h = absurd settled
  front_has_the_fault (BadBlock at) settled h = bad_goes_on (BadBlock at) h
  front_has_the_fault (BadEntry number) settled h = bad_goes_on (BadEntry number) h
  front_has_the_fault (Trailing at) settled h = trailing_goes_on at h
  front_has_the_fault Read settled h = absurd settled
  front_has_the_fault OutOfMemory settled h = absurd settled

-- ---- the first bytes

filed_begins : (f : Filed) → (16 ≤ length (spelled (pieces_filed f))) × (take 4 (spelled (pieces_filed f)) ≡ 82 ∷ 82 ∷ 68 ∷ 73 ∷ [])
unfolding spell
filed_begins f = grind arith

pub file_begins : (bytes : List ℕ) (d : Stored) → FileBegins bytes d
file_begins bytes d file = grind (arith, file_is_layout bytes d file, filed_begins (filed file.version d))

-- the first bytes of a file of the first version
pub first_begins : (d : Stored) → take 6 (layout_in One d) ≡ 82 ∷ 82 ∷ 68 ∷ 73 ∷ 0 ∷ 1 ∷ []
unfolding spell
first_begins d = grind arith
