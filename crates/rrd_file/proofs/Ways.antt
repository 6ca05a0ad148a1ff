-- The ways in which a file may go on: by stage and piece, and within an entry by what is due and piece.
use Rattle.std.specs.Prelude.{◌≡◌, ◌++◌, ◌∷◌, ◌%◌, ◌<◌, ◌≤◌, ℕ, List, [], length}
use Rattle.rrd_file.proofs.Names.{sym, subst, Cell, Raw, IsAccepted, IsBounded, Average, Part, SavedSource, Outline, DsDef, RraDef, Version, Filed, Header, Source, Limits, max_tuned, AreOldRows, AreRemovedSettings, IsRemovedNumber, IsSavedSource, IsHeader, IsRowPart, MayCell, MayHead, MayPrep, MaySource, begun, due, limits, outline_left, with_cell, with_head, with_prep, with_source, IsPart, Piece, Mark, OfVersion, OfHeader, OfSource, OfArchive, OfPrep, OfCell, Tag, OfTag, OfTime, OfRawAndPart, OfRows, OfCount, OfSavedSource, OfNumber, Stage, Start, Marked, Versioned, Body, Within, DueInEntry, TimeDue, BeforeDue, RowPrepDue, RowsDue, RowCellDue, CountDue, NamedDue, NumberDue, OldRowsDue, RemovedNumberDue, RemovedHeadDue, GoesOn, MayTag, Takes, behind, first_due}
use Rattle.rrd_file.specs.Stages.{Keeps}

-- ---- within an entry

pub data Way (l : Limits) (step : ℕ) (now : Outline) : DueInEntry → Piece → Type 0 where
  ByTime : (last : ℕ) → last < now.last → Way l step now TimeDue (OfTime last)
  ByRawAndPart : (last : ℕ) (def : DsDef) (raw : Raw) (part : Part) → IsAccepted def.kind raw → IsPart Average (last % step) part → Way l step now (BeforeDue last def) (OfRawAndPart raw part)
  ByRowPrep : (last : ℕ) (def : RraDef) (part : Part) → IsRowPart step last def part → Way l step now (RowPrepDue last def) (OfPrep part)
  ByRows : (rows count : ℕ) → count ≡ rows → Way l step now (RowsDue rows) (OfRows count)
  ByRowCell : (cell : Cell) → IsBounded cell → Way l step now RowCellDue (OfCell cell)
  ByCount : (count : ℕ) → 0 < count → count ≤ max_tuned → Way l step now CountDue (OfCount count)
  ByNamed : (lowest more : ℕ) (old : SavedSource) → lowest ≤ old.number → old.number < length now.sources → IsSavedSource l old → Way l step now (NamedDue lowest more) (OfSavedSource old)
  ByNumber : (archive : ℕ) → archive < length now.archives → Way l step now NumberDue (OfNumber archive)
  ByOldRows : (archive rows : ℕ) → AreOldRows l now archive rows → Way l step now (OldRowsDue archive) (OfRows rows)
  ByRemovedNumber : (number : ℕ) → IsRemovedNumber l now number → Way l step now RemovedNumberDue (OfNumber number)
  ByRemovedHead : (def : RraDef) → AreRemovedSettings l now def → Way l step now RemovedHeadDue (OfArchive def)

pub way : (l : Limits) (step : ℕ) (now : Outline) (due : DueInEntry) (p : Piece) → Keeps l step now due p → Way l step now due p
way l step now TimeDue (OfTime x) k = ByTime x k
way l step now (BeforeDue u v) (OfRawAndPart x y) k = ByRawAndPart u v x y k.0 k.1
way l step now (RowPrepDue u v) (OfPrep x) k = ByRowPrep u v x k
way l step now (RowsDue u) (OfRows x) k = ByRows u x k
way l step now RowCellDue (OfCell x) k = ByRowCell x k
way l step now CountDue (OfCount x) k = ByCount x k.0 k.1
way l step now (NamedDue u v) (OfSavedSource x) k = ByNamed u v x k.0 k.1 k.2
way l step now NumberDue (OfNumber x) k = ByNumber x k
way l step now (OldRowsDue u) (OfRows x) k = ByOldRows u x k
way l step now RemovedNumberDue (OfNumber x) k = ByRemovedNumber x k
way l step now RemovedHeadDue (OfArchive x) k = ByRemovedHead x k
way l step now due p k = absurd k

-- ---- in the whole file

pub data Step : Stage → Piece → Stage → Type 0 where
  ToMark : Step Start Mark Marked
  ToVersion : (version : Version) → Step Marked (OfVersion version) (Versioned version)
  ToHeader : (version : Version) (h : Header) → h.version ≡ version → IsHeader h → Step (Versioned version) (OfHeader h) (Body (begun h))
  ToSource : (f : Filed) (s : Source) → MaySource f s → Step (Body f) (OfSource s) (Body (with_source f s))
  ToHead : (f : Filed) (def : RraDef) → MayHead f def → Step (Body f) (OfArchive def) (Body (with_head f def))
  ToPrep : (f : Filed) (part : Part) → MayPrep f part → Step (Body f) (OfPrep part) (Body (with_prep f part))
  ToCell : (f : Filed) (cell : Cell) → MayCell f cell → Step (Body f) (OfCell cell) (Body (with_cell f cell))
  ToEntry : (f : Filed) (tag : Tag) (next : Stage) → MayTag f tag → GoesOn f (OfTag tag ∷ []) (first_due tag) next → Step (Body f) (OfTag tag) next
  ToPiece : (f : Filed) (pieces : List Piece) (due : DueInEntry) (later : List DueInEntry) (p : Piece) (next : Stage) → Way (limits f) f.header.step (outline_left f) due p → GoesOn f (pieces ++ p ∷ []) (behind f.header.step (outline_left f) due p ++ later) next → Step (Within f pieces (due ∷ later)) p next

pub step_of : (s : Stage) (p : Piece) (n : Stage) → Takes s p n → Step s p n
unfolding Takes
step_of Start Mark n t = subst (Step Start Mark) (sym t) ToMark
step_of Marked (OfVersion x) n t = subst (Step Marked (OfVersion x)) (sym t) (ToVersion x)
step_of (Versioned v) (OfHeader x) n t = subst (Step (Versioned v) (OfHeader x)) (sym t.2) (ToHeader v x t.0 t.1)
step_of (Body f) (OfSource x) n t = subst (Step (Body f) (OfSource x)) (sym t.1) (ToSource f x t.0)
step_of (Body f) (OfArchive x) n t = subst (Step (Body f) (OfArchive x)) (sym t.1) (ToHead f x t.0)
step_of (Body f) (OfPrep x) n t = subst (Step (Body f) (OfPrep x)) (sym t.1) (ToPrep f x t.0)
step_of (Body f) (OfCell x) n t = subst (Step (Body f) (OfCell x)) (sym t.1) (ToCell f x t.0)
step_of (Body f) (OfTag x) n t = ToEntry f x n t.0 t.1
step_of (Within f ps (due ∷ later)) p n t = ToPiece f ps due later p n (way (limits f) f.header.step (outline_left f) due p t.0) t.1
step_of s p n t = absurd t
