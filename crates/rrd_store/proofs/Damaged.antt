-- A file that was cut short breaks off within a piece, and so is no database.
use Rattle.std.proofs.Common.{◌≡◌, ◌∙◌, ◌<◌, ◌≤◌, ◌++◌, ◌∷◌, [], ℕ, List, Result, Ok, Err, sym, ap, refl, subst, arith, inl, inr, length, drop, append_assoc, append-nil}
use Rattle.std.proofs.lemmas.Bool.{cases_lt}
use Rattle.std.proofs.lemmas.List.Concat.{flat_map-cons}
use Rattle.std.specs.List.{flat_map}
use Rattle.rrd_spec.specs.Files.Filed.{filed}
use Rattle.rrd_spec.specs.Journal.Survivors.{Stored}
use Rattle.rrd_spec.specs.declared.version.Version.{Version}
use Rattle.rrd_file.specs.declared.fault.FileFault.{FileFault}
use Rattle.rrd_file.specs.declared.fault.FileFault.TheVariants.{Truncated}
use Rattle.rrd_file.specs.Faults.{IsAnswer, IsFile, IsTruncated}
use Rattle.rrd_file.specs.Laws.{HasOneAnswer, IsOfFile, IsValidIn, LayoutIsItsFile, PiecesHaveTheirSize}
use Rattle.rrd_file.specs.Layout.{layout_in}
use Rattle.rrd_file.specs.Layout.Pieces.{Piece, spell}
use Rattle.rrd_file.specs.Stages.{Body, Runs, Stage, Start, size}
use Rattle.rrd_tool.specs.Effects.{stored_of}
use Rattle.rrd_tool.specs.declared.faults.Fault.TheVariants.{Line, NoDatabase, Output, Refused}
use Rattle.rrd_store.specs.Storages.{Held, IsNoFile}
use Rattle.rrd_store.specs.Runs.{DamagedFileStays, Filing, IsOfBreak, IsOfBytes, Run}
use Rattle.rrd_store.specs.declared.faults.TaskFault.{TaskFault}
use Rattle.rrd_store.specs.declared.faults.TaskFault.TheVariants as task
use Rattle.rrd_store.proofs.NoDatabase.{run_refused}

-- what the laws of the layout say
pub record Layouts : Type 0 where
  pub read : (version : Version) (d : Stored) → LayoutIsItsFile version d
  pub one : (bytes : List ℕ) → HasOneAnswer bytes
  pub sizes : PiecesHaveTheirSize

-- ---- where a front breaks off

no_front : (front : List ℕ) (next : ℕ) (rest : List ℕ) → [] ≡ front ++ next ∷ rest → ⊥
no_front [] next rest e = absurd cc
no_front (b ∷ front) next rest e = absurd cc

-- a front that is as long as what comes first has it, and a front of what comes then
past : (xs ys front : List ℕ) (next : ℕ) (rest : List ℕ) → xs ++ ys ≡ front ++ next ∷ rest → length xs ≤ length front
    → (more : List ℕ) × (front ≡ xs ++ more) × (ys ≡ more ++ next ∷ rest)
past [] ys front next rest e le = (front, refl, e)
past (x ∷ xs) ys [] next rest e le = absurd (omega arith)
past (x ∷ xs) ys (b ∷ front) next rest e le =
    let short : length xs ≤ length front = omega (arith, le) in
    grind (arith, past xs ys front next rest (ap (drop 1) e) short)

module _ (laws : Layouts) where
  -- pieces one after another, and a front of their bytes
  broken : (from : Stage) (pieces : List Piece) (to : Stage) (front : List ℕ) (next : ℕ) (rest : List ℕ) → Runs from pieces to → flat_map spell pieces ≡ front ++ next ∷ rest
      → (stage : Stage) × (before : List Piece) × (left : List ℕ) × Runs from before stage × (front ≡ flat_map spell before ++ left) × (length left < size stage)
  broken from [] to front next rest r e = absurd (no_front front next rest e)
  broken from (piece ∷ pieces) to front next rest r e = elim (cases_lt (length front) (length (spell piece))) [
    | inl less ↦ (from, [], front, refl, refl, subst (λ (n : ℕ). length front < n) (laws.sizes from piece r.0 r.1) less)
    | inr enough ↦
        let split = past (spell piece) (flat_map spell pieces) front next rest (sym (flat_map-cons spell piece pieces) ∙ e) enough in
        let further = broken r.0 pieces to split.0 next rest r.2 split.2 in
        let here : front ≡ flat_map spell (piece ∷ further.1) ++ further.2 =
        split.1 ∙ ap (λ (l : List ℕ). spell piece ++ l) further.4
        ∙ sym (append_assoc (spell piece) (flat_map spell further.1) further.2)
        ∙ ap (λ (l : List ℕ). l ++ further.2) (sym (flat_map-cons spell piece further.1)) in
        (further.0, piece ∷ further.1, further.2, (r.0, r.1, further.3), here, further.5)
  ]

  front_truncated : (version : Version) (d : Stored) (front : List ℕ) (next : ℕ) (rest : List ℕ) → IsValidIn version d → layout_in version d ≡ front ++ next ∷ rest → IsTruncated front (length front)
  front_truncated version d front next rest valid e =
      let file : IsFile (layout_in version d) d = laws.read version d valid in
      let whole = file.whole.front in
      let cut = broken Start whole.pieces (Body (filed file.version d)) front next rest whole.runs (sym (whole.parts ∙ append-nil (flat_map spell whole.pieces)) ∙ e) in
      record { stage = cut.0; rest = cut.2; front = record { pieces = cut.1; runs = cut.3; parts = cut.4 }; short = cut.5; at_is = refl }

-- ---- what is found there

abbrev fault_or : FileFault → Result Stored FileFault → FileFault
fault_or or (Ok d) = or
fault_or or (Err fault) = fault

module _ (laws : Layouts) (front : List ℕ) (cut : IsTruncated front (length front)) where
  one_answer : (x : Result Stored FileFault) → IsAnswer front x → IsOfFile x → x ≡ Err (Truncated (length front))
  one_answer x a of = laws.one front x (Err (Truncated (length front))) a cut of tt

  no_database : IsNoFile front
  no_database d file = let bad = one_answer (Ok d) file tt in absurd cc

  breaks : (fault : TaskFault) → IsOfBytes front fault → IsOfBreak (length front) fault
  breaks (task.File fault) f = λ of. ap (fault_or fault) (one_answer (Err fault) f of)
  breaks task.CannotOpen f = tt
  breaks task.CannotWrite f = absurd f
  breaks (task.Command (Line fault)) f = tt
  breaks (task.Command (Refused fault)) f = absurd f
  breaks (task.Command NoDatabase) f = absurd f
  breaks (task.Command Output) f = absurd f
  breaks (task.Stream fault) f = absurd f

pub damaged_stays : Layouts → (front : List ℕ) (k : Filing) (run : Run) (new : Held) → DamagedFileStays front k run new
damaged_stays laws front k run new is valid other h =
    let cut = front_truncated laws k.version (stored_of k.state) front is.0 is.1 valid.1 is.2 in
    let refused = run_refused front (no_database laws front cut) new run other h in
    (refused.0, refused.1, refused.2, refused.3, breaks laws front cut refused.2 refused.4)
