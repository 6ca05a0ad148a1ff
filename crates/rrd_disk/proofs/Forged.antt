-- What the first bytes of a file with a cut mark say of the database under it.
use Rattle.rrd_disk.proofs.Names.{common_steps, ◌≡◌, ◌∙◌, ◌++◌, ◌<◌, ◌≤◌, ℕ, Bool, false, List, Option, Some, None, Err, IfNone, IfSome, length, drop, take, slice_index, true, refl, sym, ap, subst, inl, inr, arith, get_or-take, cases_lt, get_or_append_left, take-append-drop, take-append-le, take_all, front_from_reads, begins_with, database_of, IsUnderCut, IsMarkOf, cut_mark, mark_of, settled, unmarked, Represents, FoundDatabase, Mark, begins_from, front_of, cut_stands, is_cut, log_read, settled_cut, file_end, FrontHasTheFault, HasOneAnswer, FileFault, Bytes, Decodes, IsAnyFile, StandFor, Begins, IsForged, Laws}
use Rattle.std.proofs.Common.{append_assoc}
use Rattle.rrd_disk.proofs.Loaded.{no_file, reads_judged}
use Rattle.rrd_disk.proofs.Storing.{any_database, database_unmarked}
use Rattle.rrd_change.specs.Settled as marks
use Rattle.rrd_change.specs.declared.finding.Mark.TheVariants as found

assoc : (a b c : List ℕ) → (a ++ b) ++ c ≡ a ++ (b ++ c)
assoc a b c = simp append_assoc

-- a file with a cut mark that a change has left
under_of : Laws → (now file : List ℕ) → IsAnyFile now → mark_of file ≡ Some marks.Cut → Represents now file → IsUnderCut now file
under_of laws now file any cut (inl same) = let none : mark_of file ≡ None = ap mark_of same ∙ database_unmarked now (any_database laws now any) in absurd cc
under_of laws now file any cut (inr (inl under)) = under
under_of laws now file any cut (inr (inr log)) = let is : mark_of file ≡ Some (marks.Log log.tail) = log_read log.tail file log.logged.log.fits log.logged.log.marked in absurd cc

-- the database under it is at its beginning
under_take : (now file : List ℕ) → IsUnderCut now file → begins_with file cut_mark ≡ true → take (length now) (unmarked file) ≡ now
under_take now file under begins =
    let end_of : List ℕ → ℕ = λ xs. length now in
    sym (settled_cut end_of file begins) ∙ cut_stands end_of now file (λ rest. refl) under

-- the first bytes of the file
front_file : (file front : List ℕ) → Begins file front → file ≡ front ++ drop (length front) file
front_file file front begins = front_from_reads 0 file front begins.within (λ i low. sym (begins.each i low))

front_cut : (file front : List ℕ) → Begins file front → begins_with front cut_mark ≡ true → begins_with file cut_mark ≡ true
front_cut file front begins cut = grind (arith, begins_from file cut_mark (drop 4 front ++ drop (length front) file), front_file file front begins, front_of front cut_mark cut, assoc cut_mark (drop 4 front) (drop (length front) file))

-- so are they with the mark of a database
unmarked_file : (file front : List ℕ) → Begins file front → begins_with front cut_mark ≡ true → unmarked file ≡ unmarked front ++ drop (length front) file
unmarked_file file front begins cut =
    let r = drop (length front) file in
    grind (arith, front_file file front begins, front_of front cut_mark cut, assoc cut_mark (drop 4 front) r)

module _ (laws : Laws) (one : (bytes : List ℕ) → HasOneAnswer bytes) (law : (front rest : List ℕ) (fault : FileFault) → FrontHasTheFault front rest fault) where
  -- the database ends behind the first bytes, which are its beginning
  longer : (now front rest : List ℕ) → length front < length now → take (length now) (front ++ rest) ≡ now → Begins now front
  longer now front rest less same = grind (arith, common_steps, slice_index, get_or-take, get_or_append_left)

  -- it ends with them or before
  shorter : (now front rest : List ℕ) → IsAnyFile now → length now ≤ length front → length front ≤ file_end front → take (length now) (front ++ rest) ≡ now → now ≡ front
  shorter now front rest (d, file) few ends same =
      let first : take (length now) front ≡ now = sym (take-append-le (length now) front rest few) ∙ same in
      let all : front ≡ now ++ drop (length now) front = sym (take-append-drop (length now) front) ∙ ap (λ (xs : List ℕ). xs ++ drop (length now) front) first in
      let end : file_end front ≡ length now = ap file_end all ∙ laws.ends now d file (drop (length now) front) in
      sym first ∙ take_all (length now) front (omega (arith, end, ends))

  pub forged_none : (file front now : List ℕ) → Begins file front → begins_with front cut_mark ≡ true → IsForged front → StandFor now file → ⊥
  forged_none file front now begins cut forged stand =
      let cut_file = front_cut file front begins cut in
      let under = under_of laws now file stand.is (is_cut file cut_file) stand.represents in
      let rest = drop (length front) file in
      let same : take (length now) (unmarked front ++ rest) ≡ now = ap (λ (xs : List ℕ). take (length now) xs) (sym (unmarked_file file front begins cut)) ∙ under_take now file under cut_file in
      let known : Decodes (Some (Bytes now)) (Err forged.fault) = elim (cases_lt (length (unmarked front)) (length now)) as (λ _. Decodes (Some (Bytes now)) (Err forged.fault)) [
        | inl less ↦ reads_judged law now (unmarked front) (Err forged.fault) (longer now (unmarked front) rest less same) forged.judged forged.known
        | inr few ↦ subst (λ (xs : List ℕ). Decodes (Some (Bytes xs)) (Err forged.fault)) (sym (shorter now (unmarked front) rest stand.is few forged.ends same)) forged.known
      ] in
      no_file one now forged.fault known forged.of_bytes stand.is.0 stand.is.1

-- a database that was found among the first bytes is the one under the mark
pub cut_found : Laws → (file front now q : List ℕ) → Begins file front → begins_with front cut_mark ≡ true → IsAnyFile q → take (file_end (unmarked front)) (unmarked front) ≡ q → StandFor now file → q ≡ now
cut_found laws file front now q begins cut (d, is_file) found stand =
    let cut_file = front_cut file front begins cut in
    let under = under_of laws now file stand.is (is_cut file cut_file) stand.represents in
    let rest = drop (length front) file in
    let A = unmarked front in
    let same : take (length now) (A ++ rest) ≡ now = ap (λ (xs : List ℕ). take (length now) xs) (sym (unmarked_file file front begins cut)) ∙ under_take now file under cut_file in
    let all : A ++ rest ≡ now ++ drop (length now) (A ++ rest) = sym (take-append-drop (length now) (A ++ rest)) ∙ ap (λ (xs : List ℕ). xs ++ drop (length now) (A ++ rest)) same in
    let split : A ≡ q ++ drop (file_end A) A = sym (take-append-drop (file_end A) A) ∙ ap (λ (xs : List ℕ). xs ++ drop (file_end A) A) found in
    let whole : A ++ rest ≡ q ++ (drop (file_end A) A ++ rest) = ap (λ (xs : List ℕ). xs ++ rest) split ∙ assoc q (drop (file_end A) A) rest in
    let one : length q ≡ length now = sym (laws.ends q d is_file (drop (file_end A) A ++ rest)) ∙ ap file_end (sym whole) ∙ ap file_end all ∙ laws.ends now stand.is.0 stand.is.1 (drop (length now) (A ++ rest)) in
    grind (arith, common_steps)

pub cut_database : Laws → (file front now : List ℕ) (found : FoundDatabase) → Begins file front → begins_with front cut_mark ≡ true → IsAnyFile (database_of found) → database_of found ≡ settled file_end front
    → StandFor now file → database_of found ≡ now
cut_database laws file front now found begins cut any is stand = grind (arith, cut_found laws file front now (database_of found) begins cut any (sym (settled_cut file_end front cut) ∙ sym is) stand, settled_cut file_end front cut)

-- the mark of the file is that of its first bytes
not_both : (b : Bool) → b ≡ true → b ≡ false → ⊥
not_both b t f = cc

cut_marked_by : (file front : List ℕ) (mark : Mark) → begins_with front cut_mark ≡ true → begins_with file cut_mark ≡ true → IsMarkOf mark front → IsMarkOf mark file
cut_marked_by file front found.Missing cut begins (none, rest) = absurd (not_both (begins_with front cut_mark) cut none)
cut_marked_by file front found.Cut cut begins is = begins
cut_marked_by file front (found.Log log) cut begins (none, log_begins, is) = absurd (not_both (begins_with front cut_mark) cut none)

pub cut_marked : (file front : List ℕ) (mark : Mark) → Begins file front → begins_with front cut_mark ≡ true → IsMarkOf mark front → IsMarkOf mark file
cut_marked file front mark begins cut is = cut_marked_by file front mark cut (front_cut file front begins cut) is

pub if_none_at : {T : Type 0} (P : Type 0) (o : Option T) → o ≡ None → IfNone o P → P
if_none_at {T} P o is each = subst (λ (q : Option T). IfNone q P) is each

pub if_some_at : {T : Type 0} (P : T → Type 0) (o : Option T) (x : T) → o ≡ Some x → IfSome o P → P x
if_some_at {T} P o x is each = subst (λ (q : Option T). IfSome q P) is each
