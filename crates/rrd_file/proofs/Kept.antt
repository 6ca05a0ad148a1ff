-- Pieces of an entry that came whole: kept, or refused.
use Rattle.std.specs.Prelude.{◌≡◌, ◌≢◌, ◌++◌, ◌∷◌, ◌%◌, ◌^◌, ◌<◌, ℕ, suc, List, [], length}
use Rattle.rrd_file.proofs.Names.{◌∙◌, sym, ap, subst, refl, arith, Cell, Raw, Average, Part, SavedSource, Outline, DsDef, RraDef, Filed, Limits, limits_of, limits, outline_left, EntryValidator, validator, BadEntry, IsBad, Gives, Input, OfArchive, OfCell, OfCount, OfNumber, OfPrep, OfRawAndPart, OfRows, OfSavedSource, OfTime, Piece, spell, BeforeDue, CountDue, DueInEntry, NamedDue, NumberDue, OldRowsDue, RemovedHeadDue, RemovedNumberDue, RowCellDue, RowPrepDue, RowsDue, TimeDue, behind, size_due, Comes, FitsArchive, FitsCell, FitsPart, FitsRaw, FitsSavedSource}
use Rattle.rrd_file.specs.Stages.{Keeps}
use Rattle.rrd_file.proofs.Coming.{came, inside, wrong}
use Rattle.rrd_file.proofs.OneSpelling.{IsHere, archive_fits, cell_fits, part_fits, raw_fits, here, row_part_fits, saved_source_fits}
use Rattle.rrd_file.proofs.Sound.{IsSoundDue, reached_sound}
use Rattle.rrd_file.proofs.Spelled.{archive_one, cell_one, eight_one, four_one, part_one, raw_and_part_one, saved_source_one, two_one}
use Rattle.rrd_file.proofs.Ways.{Way, ByTime, ByRawAndPart, ByRowPrep, ByRows, ByRowCell, ByCount, ByNamed, ByNumber, ByOldRows, ByRemovedNumber, ByRemovedHead, way}
use native.Mathlib.Nat as nat

-- a piece of the kind that is due, whose values fit their bytes
pub data Read : DueInEntry → Piece → Type 0 where
  ReadTime : (last : ℕ) → last < 2 ^ 64 → Read TimeDue (OfTime last)
  ReadRawAndPart : (last : ℕ) (def : DsDef) (raw : Raw) (part : Part) → FitsRaw raw → FitsPart part → Read (BeforeDue last def) (OfRawAndPart raw part)
  ReadRowPrep : (last : ℕ) (def : RraDef) (part : Part) → FitsPart part → Read (RowPrepDue last def) (OfPrep part)
  ReadRows : (rows count : ℕ) → rows < 2 ^ 32 → count < 2 ^ 32 → Read (RowsDue rows) (OfRows count)
  ReadRowCell : (cell : Cell) → FitsCell cell → Read RowCellDue (OfCell cell)
  ReadCount : (count : ℕ) → count < 2 ^ 16 → Read CountDue (OfCount count)
  ReadNamed : (lowest more : ℕ) (old : SavedSource) → FitsSavedSource old → Read (NamedDue lowest more) (OfSavedSource old)
  ReadNumber : (archive : ℕ) → archive < 2 ^ 16 → Read NumberDue (OfNumber archive)
  ReadOldRows : (archive rows : ℕ) → rows < 2 ^ 32 → Read (OldRowsDue archive) (OfRows rows)
  ReadRemovedNumber : (number : ℕ) → number < 2 ^ 16 → Read RemovedNumberDue (OfNumber number)
  ReadRemovedHead : (def : RraDef) → FitsArchive def → Read RemovedHeadDue (OfArchive def)

-- no other piece that keeps to the rule is spelled so
read_one : (l : Limits) (step : ℕ) (now : Outline) {d : DueInEntry} {p q : Piece} → IsHere l step now → IsSoundDue d → Read d p → Way l step now d q → spell q ≡ spell p → q ≡ p
unfolding spell
read_one l step now h s (ReadTime t f) (ByTime u k) e = ap OfTime (eight_one u t (omega (arith, k, h.sound.last)) f e)
read_one l step now h s (ReadRawAndPart last def r x fr fx) (ByRawAndPart _ _ v y kr ky) e =
    let few : last % step < 2 ^ 32 = omega (arith, nat.mod-lt last h.some_step, h.small_step) in
    grind (arith, raw_and_part_one v r y x (raw_fits def.kind v kr) fr (part_fits Average (last % step) y few ky) fx e, raw_fits def.kind v kr, part_fits Average (last % step) y few ky)
read_one l step now h s (ReadRowPrep last def x f) (ByRowPrep _ _ y k) e = ap OfPrep (part_one y x (row_part_fits step last def y s k) f e)
read_one l step now h s (ReadRows rows x small f) (ByRows _ y k) e = ap OfRows (four_one y x (omega (arith, k, small)) f e)
read_one l step now h s (ReadRowCell x f) (ByRowCell y k) e = ap OfCell (cell_one y x (cell_fits y k) f e)
read_one l step now h s (ReadCount x f) (ByCount y some few) e = ap OfCount (two_one y x (omega (arith, few)) f e)
read_one l step now h s (ReadNamed lowest more x f) (ByNamed _ _ y low there is) e = ap OfSavedSource (saved_source_one y x (saved_source_fits l y now h.small h.sound there is) f e)
read_one l step now h s (ReadNumber x f) (ByNumber y k) e = ap OfNumber (two_one y x (omega (arith, k, h.sound.archives)) f e)
read_one l step now h s (ReadOldRows archive x f) (ByOldRows _ y k) e = ap OfRows (four_one y x (omega (arith, k.few, h.small.rows)) f e)
read_one l step now h s (ReadRemovedNumber x f) (ByRemovedNumber y k) e = ap OfNumber (two_one y x (omega (arith, k.there, h.sound.archives)) f e)
read_one l step now h s (ReadRemovedHead x f) (ByRemovedHead y k) e = ap OfArchive (archive_one y x (archive_fits l y h.small k.def_is) f e)

record IsHereNow (f : Filed) (d : DueInEntry) : Type 0 where
  here_is : IsHere (limits f) f.header.step (outline_left f)
  due_is : IsSoundDue d

sound_within : (bytes : List ℕ) (f : Filed) (pieces : List Piece) (d : DueInEntry) (later : List DueInEntry) (input : Input) → Comes bytes f pieces (d ∷ later) input → IsHereNow f d
sound_within bytes f pieces d later input c = grind (arith, inside bytes f pieces d later input c, reached_sound, here)

-- it keeps to its rule by the validator of entries of the file
pub validated : (f : Filed) (j : EntryValidator) (d : DueInEntry) (p : Piece) → j ≡ validator f → Keeps (limits_of j.version) j.step j.outline d p → Keeps (limits f) f.header.step (outline_left f) d p
validated f j d p e keeps = subst (λ (k : EntryValidator). Keeps (limits_of k.version) k.step k.outline d p) e keeps

pub validates : (f : Filed) (j : EntryValidator) (d : DueInEntry) (p : Piece) → j ≡ validator f → Keeps (limits f) f.header.step (outline_left f) d p → Keeps (limits_of j.version) j.step j.outline d p
validates f j d p e keeps = subst (λ (k : EntryValidator). Keeps (limits_of k.version) k.step k.outline d p) (sym e) keeps

-- it keeps to its rule
pub kept : (bytes : List ℕ) (f : Filed) (pieces : List Piece) (d : DueInEntry) (later : List DueInEntry) (old new : Input) (p : Piece) (piece : List ℕ)
    → Comes bytes f pieces (d ∷ later) old → Gives old piece new → spell p ≡ piece → size_due d ≡ length piece → Read d p → Keeps (limits f) f.header.step (outline_left f) d p
    → Comes bytes f (pieces ++ p ∷ []) (behind f.header.step (outline_left f) d p ++ later) new
kept bytes f pieces d later old new p piece c g e len r k =
    let s = sound_within bytes f pieces d later old c in
    came bytes f pieces d later old new p piece c g e len k
    (λ q m same. read_one (limits f) f.header.step (outline_left f) s.here_is s.due_is r (way (limits f) f.header.step (outline_left f) d q m) same)

-- it does not
pub broken : (bytes : List ℕ) (f : Filed) (pieces : List Piece) (d : DueInEntry) (later : List DueInEntry) (old new : Input) (p : Piece) (piece : List ℕ)
    → Comes bytes f pieces (d ∷ later) old → Gives old piece new → spell p ≡ piece → size_due d ≡ length piece → Read d p → (Keeps (limits f) f.header.step (outline_left f) d p → ⊥)
    → IsBad bytes (BadEntry (suc (length f.entries)))
broken bytes f pieces d later old new p piece c g e len r never =
    let s = sound_within bytes f pieces d later old c in
    wrong bytes f pieces d later old new piece c g len
    (λ q m same. never (subst (Keeps (limits f) f.header.step (outline_left f) d) (read_one (limits f) f.header.step (outline_left f) s.here_is s.due_is r (way (limits f) f.header.step (outline_left f) d q m) (same ∙ sym e)) m))

-- a source before a tune that can't be read
named_way : (l : Limits) (step : ℕ) (now : Outline) {lowest more : ℕ} {q : Piece} → IsHere l step now → Way l step now (NamedDue lowest more) q → (old : SavedSource) × (q ≡ OfSavedSource old) × FitsSavedSource old
named_way l step now h (ByNamed lowest more old low there is) = (old, refl, saved_source_fits l old now h.small h.sound there is)

pub unread : (bytes : List ℕ) (f : Filed) (pieces : List Piece) (lowest more : ℕ) (later : List DueInEntry) (old new : Input) (piece : List ℕ)
    → Comes bytes f pieces (NamedDue lowest more ∷ later) old → Gives old piece new → 79 ≡ length piece → ((source : SavedSource) → FitsSavedSource source → spell (OfSavedSource source) ≢ piece)
    → IsBad bytes (BadEntry (suc (length f.entries)))
unread bytes f pieces lowest more later old new piece c g len none =
    let s = sound_within bytes f pieces (NamedDue lowest more) later old c in
    wrong bytes f pieces (NamedDue lowest more) later old new piece c g len
    (λ q m same.
    let it = named_way (limits f) f.header.step (outline_left f) s.here_is (way (limits f) f.header.step (outline_left f) (NamedDue lowest more) q m) in
    none it.0 it.2 (sym (ap spell it.1) ∙ same))

-- settings of a removed archive that can't be read
pub unread_head : (bytes : List ℕ) (f : Filed) (pieces : List Piece) (later : List DueInEntry) (old new : Input) (piece : List ℕ)
    → Comes bytes f pieces (RemovedHeadDue ∷ later) old → Gives old piece new → 13 ≡ length piece → ((def : RraDef) → spell (OfArchive def) ≢ piece)
    → IsBad bytes (BadEntry (suc (length f.entries)))
unread_head bytes f pieces later old new piece c g len none = grind (arith, wrong bytes f pieces RemovedHeadDue later old new piece c g len)
