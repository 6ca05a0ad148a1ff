-- Of the pieces that may come at a stage, no two are spelled alike.
use Rattle.std.specs.Prelude.{◌≡◌, ◌∷◌, ◌/◌, ◌%◌, ◌^◌, ◌<◌, ◌≤◌, ℕ, List, [], Bool, length, map, ℤ, nat_lt, true, false, if◌then◌else◌, Option, Some, None}
use Rattle.rrd_file.proofs.Names.{◌∙◌, sym, ap, refl, subst, arith, AllByRecursion, list_all, lt-ltb, ltb-false, ints, Cell, Raw, Kind, fits, is_good, is_letter, IsAccepted, IsBounded, Function, Average, Part, DsDef, RraDef, Outline, SavedSource, Limits, Version, Filed, Head, Header, Source, IsArchiveDef, IsHeader, MaySource, MayPrep, due, limits, outline_left, unprepared, IsPart, IsSourceWithin, IsSavedSource, is_far, Piece, OfVersion, OfHeader, OfSource, OfArchive, OfPrep, OfCell, Tag, OfTag, OfTime, OfRawAndPart, OfRows, OfCount, OfSavedSource, OfNumber, header_bytes, spell, tag_byte, version_number, two_bytes, Stage, Start, DueInEntry, Runs, Takes, FitsArchive, FitsBound, FitsCell, FitsDef, FitsHeader, FitsSavedSource, FitsPart, FitsRaw, FitsSource}
use Rattle.rrd_file.proofs.Order.{prep_before}
use Rattle.rrd_file.proofs.Ways.{Step, ToMark, ToVersion, ToHeader, ToSource, ToHead, ToPrep, ToCell, ToEntry, ToPiece, Way, ByTime, ByRawAndPart, ByRowPrep, ByRows, ByRowCell, ByCount, ByNamed, ByNumber, ByOldRows, ByRemovedNumber, ByRemovedHead, step_of}
use Rattle.rrd_file.proofs.Sound.{AreSmall, AreSound, HasSomeSteps, IsSound, IsSoundDue, IsSoundStage, reached_sound, small_limits}
use Rattle.rrd_file.proofs.Spelled.{archive_one, raw_and_part_one, cell_one, eight_one, four_one, header_one, saved_source_one, head_same, part_one, source_one, two_one}
use Rattle.rrd_file.proofs.Tests.{and_left, and_right, or_left, or_right}
use native.Mathlib.Nat as nat

-- ---- what keeps to its rule fits its bytes

pub cell_fits : (cell : Cell) → IsBounded cell → FitsCell cell
cell_fits cell h = grind arith

pub raw_fits : (kind : Kind) (raw : Raw) → IsAccepted kind raw → FitsRaw raw
raw_fits x raw h = grind arith

bound_fits : (l : Limits) (bound : Option ℤ) → AreSmall l → is_far l bound ≡ false → FitsBound bound
bound_fits l bound small h = grind arith

letter_small : (c : ℕ) → is_letter c ≡ true → c < 128
letter_small c h = grind (arith, h)

letters_small : (name : List ℕ) → list_all is_letter name ≡ true → list_all (λ (c : ℕ). nat_lt c 128) name ≡ true
letters_small [] h = refl
letters_small (c ∷ name) h = rw (lt-ltb c 128 (letter_small c (and_left (is_letter c) _ h))) (letters_small name (and_right (is_letter c) (list_all is_letter name) h))

name_fits : (name : List ℕ) → is_good name ≡ true → fits name ≡ true
name_fits name h = grind (arith, and_right, and_left, letters_small)

pub def_fits : (l : Limits) (def : DsDef) → AreSmall l → IsSourceWithin l def → FitsDef def
def_fits l def small h = grind (arith, name_fits, ltb-false, or_right, bound_fits, or_left)

pub part_fits : (function : Function) (passed : ℕ) (part : Part) → passed < 2 ^ 32 → IsPart function passed part → FitsPart part
part_fits function passed part few h = grind arith

pub source_fits : (f : Filed) (s : Source) → IsHeader f.header → MaySource f s → FitsSource s
source_fits f s h m = grind (arith, def_fits (limits f) s.def (small_limits f.header.version) m.source_is, small_limits f.header.version, raw_fits s.def.kind s.raw m.raw_is)

pub archive_fits : (l : Limits) (def : RraDef) → AreSmall l → IsArchiveDef l def → FitsArchive def
archive_fits l def small h = record { steps = omega (arith, h.few_steps, small.steps); xff_low = h.xff_low; xff_high = omega (arith, ints, h.xff_low, h.xff_high, small.share); rows = omega (arith, h.few_rows, small.rows) }

pub header_fits : (h : Header) → IsHeader h → FitsHeader h
header_fits h is = grind arith

pub row_part_fits : (step last : ℕ) (def : RraDef) (part : Part) → HasSomeSteps def → IsPart def.function (last / step % def.steps) part → FitsPart part
row_part_fits step last def part h p = part_fits def.function (last / step % def.steps) part (omega (arith, nat.mod-lt (last / step) h.some, h.few)) p

some_is : (x y : RraDef) → Some x ≡ Some y → x ≡ y
some_is x y e = cc

abbrev HasSomeOr : Option RraDef → Type 0
HasSomeOr None = Unit {0}
HasSomeOr (Some def) = HasSomeSteps def

either : (b : Bool) (x y : Option RraDef) → HasSomeOr x → HasSomeOr y → HasSomeOr (if b then x else y)
either b x y h k = grind arith

unprepared_has : (sources : ℕ) (heads : List Head) → AllByRecursion HasSomeSteps (map (λ (head : Head). head.def) heads) → HasSomeOr (unprepared sources heads)
unprepared_has sources [] h = tt
unprepared_has sources (head ∷ heads) h = either (nat_lt (length head.parts) sources) (Some head.def) (unprepared sources heads) h.0 (unprepared_has sources heads h.1)

def_among : (sources : ℕ) (heads : List Head) (def : RraDef) → unprepared sources heads ≡ Some def → AllByRecursion HasSomeSteps (map (λ (head : Head). head.def) heads) → HasSomeSteps def
def_among sources heads def e h = subst HasSomeOr e (unprepared_has sources heads h)

-- a preparation of the archive that it is due for
pub prep_fits : (f : Filed) (part : Part) → IsSound f → MayPrep f part → FitsPart part
prep_fits f part h m = row_part_fits f.header.step f.header.last m.def part (def_among f.header.sources f.heads m.def (prep_before f m.def m.is_due).1 h.steps) m.part_is

pub tag_one : (t u : Tag) → tag_byte t ≡ tag_byte u → t ≡ u
tag_one t u e = grind arith

-- ---- within an entry

pub saved_source_fits : (l : Limits) (old : SavedSource) (now : Outline) → AreSmall l → AreSound now → old.number < length now.sources → IsSavedSource l old → FitsSavedSource old
saved_source_fits l old now small h n k = record { number = omega (arith, n, h.sources); source = def_fits l old.source small k.0; raw = raw_fits old.source.kind old.raw k.1 }

-- the limits, the step and the outline at a stage that a file reaches
pub record IsHere (l : Limits) (step : ℕ) (now : Outline) : Type 0 where
  pub small : AreSmall l
  pub sound : AreSound now
  pub some_step : 0 < step
  pub small_step : step ≤ 1000000

-- two pieces where one is due
one_way : (l : Limits) (step : ℕ) (now : Outline) {due : DueInEntry} {p q : Piece} → IsHere l step now → IsSoundDue due → Way l step now due p → Way l step now due q → spell p ≡ spell q → p ≡ q
unfolding spell
one_way l step now h d (ByTime x k) (ByTime y m) e = ap OfTime (eight_one x y (omega (arith, k, h.sound.last)) (omega (arith, m, h.sound.last)) e)
one_way l step now h d (ByRawAndPart last def r x kr kx) (ByRawAndPart _ _ s y mr my) e =
    let few : last % step < 2 ^ 32 = omega (arith, nat.mod-lt last h.some_step, h.small_step) in
    let both = raw_and_part_one r s x y (raw_fits def.kind r kr) (raw_fits def.kind s mr) (part_fits Average (last % step) x few kx) (part_fits Average (last % step) y few my) e in
    λ i. OfRawAndPart (both.0 i) (both.1 i)
one_way l step now h d (ByRowPrep last def x k) (ByRowPrep _ _ y m) e = ap OfPrep (part_one x y (row_part_fits step last def x d k) (row_part_fits step last def y d m) e)
one_way l step now h d (ByRows rows x k) (ByRows _ y m) e = ap OfRows (k ∙ sym m)
one_way l step now h d (ByRowCell x k) (ByRowCell y m) e = ap OfCell (cell_one x y (cell_fits x k) (cell_fits y m) e)
one_way l step now h d (ByCount x kx k) (ByCount y my m) e = ap OfCount (two_one x y (omega (arith, k)) (omega (arith, m)) e)
one_way l step now h d (ByNamed lowest more x kl k kx) (ByNamed _ _ y ml m my) e =
    ap OfSavedSource (saved_source_one x y (saved_source_fits l x now h.small h.sound k kx) (saved_source_fits l y now h.small h.sound m my) e)
one_way l step now h d (ByNumber x k) (ByNumber y m) e = ap OfNumber (two_one x y (omega (arith, k, h.sound.archives)) (omega (arith, m, h.sound.archives)) e)
one_way l step now h d (ByOldRows archive x k) (ByOldRows _ y m) e = ap OfRows (four_one x y (omega (arith, k.few, h.small.rows)) (omega (arith, m.few, h.small.rows)) e)
one_way l step now h d (ByRemovedNumber x k) (ByRemovedNumber y m) e = ap OfNumber (two_one x y (omega (arith, k.there, h.sound.archives)) (omega (arith, m.there, h.sound.archives)) e)
one_way l step now h d (ByRemovedHead x k) (ByRemovedHead y m) e = ap OfArchive (archive_one x y (archive_fits l x h.small k.def_is) (archive_fits l y h.small m.def_is) e)

-- ---- in the body

-- the numbers of two versions differ
version_one : (v w : Version) → two_bytes (version_number v) ≡ two_bytes (version_number w) → v ≡ w
version_one v w e = grind arith

same_header : (x y : Header) → x.version ≡ y.version → IsHeader x → IsHeader y → header_bytes x.version x ≡ header_bytes y.version y → x ≡ y
same_header x y v a b e = header_one x y v (header_fits x a) (header_fits y b) e

pub here : (f : Filed) → IsSound f → IsHere (limits f) f.header.step (outline_left f)
here f h = grind arith

-- two pieces at a stage that a file reaches
one_step : {s : Stage} {p q : Piece} {n m : Stage} → IsSoundStage s → Step s p n → Step s q m → spell p ≡ spell q → p ≡ q
unfolding spell
one_step h ToMark ToMark e = refl
one_step h (ToVersion x) (ToVersion y) e = ap OfVersion (version_one x y e)
one_step h (ToHeader version x kx k) (ToHeader _ y my m) e = ap OfHeader (same_header x y (kx ∙ sym my) k m e)
one_step h (ToSource f x k) (ToSource _ y m) e = ap OfSource (source_one x y (source_fits f x h.header k) (source_fits f y h.header m) e)
one_step h (ToHead f x k) (ToHead _ y m) e =
    let small = small_limits f.header.version in
    ap OfArchive (archive_one x y (archive_fits (limits f) x small k.def_is) (archive_fits (limits f) y small m.def_is) e)
one_step h (ToPrep f x k) (ToPrep _ y m) e = ap OfPrep (part_one x y (prep_fits f x h k) (prep_fits f y h m) e)
one_step h (ToCell f x k) (ToCell _ y m) e = ap OfCell (cell_one x y (cell_fits x k.bounded) (cell_fits y m.bounded) e)
one_step h (ToEntry f x n k goes) (ToEntry _ y m j on) e = ap OfTag (tag_one x y (head_same (tag_byte x) (tag_byte y) [] [] e).0)
one_step h (ToSource f x k) (ToHead _ y m) e = absurd (let both = sym k.is_due ∙ m.is_due in cc)
one_step h (ToSource f x k) (ToPrep _ y m) e = absurd (let both = sym k.is_due ∙ m.is_due in cc)
one_step h (ToSource f x k) (ToCell _ y m) e = absurd (let both = sym k.is_due ∙ m.is_due in cc)
one_step h (ToSource f x k) (ToEntry _ y m j on) e = absurd (let both = sym k.is_due ∙ j.is_due in cc)
one_step h (ToHead f x k) (ToSource _ y m) e = absurd (let both = sym k.is_due ∙ m.is_due in cc)
one_step h (ToHead f x k) (ToPrep _ y m) e = absurd (let both = sym k.is_due ∙ m.is_due in cc)
one_step h (ToHead f x k) (ToCell _ y m) e = absurd (let both = sym k.is_due ∙ m.is_due in cc)
one_step h (ToHead f x k) (ToEntry _ y m j on) e = absurd (let both = sym k.is_due ∙ j.is_due in cc)
one_step h (ToPrep f x k) (ToSource _ y m) e = absurd (let both = sym k.is_due ∙ m.is_due in cc)
one_step h (ToPrep f x k) (ToHead _ y m) e = absurd (let both = sym k.is_due ∙ m.is_due in cc)
one_step h (ToPrep f x k) (ToCell _ y m) e = absurd (let both = sym k.is_due ∙ m.is_due in cc)
one_step h (ToPrep f x k) (ToEntry _ y m j on) e = absurd (let both = sym k.is_due ∙ j.is_due in cc)
one_step h (ToCell f x k) (ToSource _ y m) e = absurd (let both = sym k.is_due ∙ m.is_due in cc)
one_step h (ToCell f x k) (ToHead _ y m) e = absurd (let both = sym k.is_due ∙ m.is_due in cc)
one_step h (ToCell f x k) (ToPrep _ y m) e = absurd (let both = sym k.is_due ∙ m.is_due in cc)
one_step h (ToCell f x k) (ToEntry _ y m j on) e = absurd (let both = sym k.is_due ∙ j.is_due in cc)
one_step h (ToEntry f x n k goes) (ToSource _ y m) e = absurd (let both = sym k.is_due ∙ m.is_due in cc)
one_step h (ToEntry f x n k goes) (ToHead _ y m) e = absurd (let both = sym k.is_due ∙ m.is_due in cc)
one_step h (ToEntry f x n k goes) (ToPrep _ y m) e = absurd (let both = sym k.is_due ∙ m.is_due in cc)
one_step h (ToEntry f x n k goes) (ToCell _ y m) e = absurd (let both = sym k.is_due ∙ m.is_due in cc)
one_step h (ToPiece f pieces due later p n k goes) (ToPiece _ _ _ _ q m j on) e = one_way (limits f) f.header.step (outline_left f) (here f h.0) h.1.0 k j e

pub one_at : (s : Stage) (p q : Piece) (n m : Stage) → IsSoundStage s → Takes s p n → Takes s q m → spell p ≡ spell q → p ≡ q
one_at s p q n m h t w e = one_step h (step_of s p n t) (step_of s q m w) e

pub one_spelling : (before : List Piece) (s : Stage) (p q : Piece) (n m : Stage) → Runs Start before s → Takes s p n → Takes s q m → spell p ≡ spell q → p ≡ q
one_spelling before s p q n m r t w e = one_at s p q n m (reached_sound before s r) t w e
