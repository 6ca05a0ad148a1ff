-- Pieces of the body that came whole: taken, or refused.
use Rattle.std.specs.Prelude.{◌≡◌, ◌≢◌, ◌^◌, ◌<◌, ℕ, List, [], length, Bool, Some, false, not, true}
use Rattle.rrd_file.proofs.Names.{◌∙◌, sym, ap, subst, refl, arith, Cell, Part, PieceFault, SourceDue, HeadDue, PrepDue, CellDue, NothingDue, RraDef, Version, Filed, Header, Source, IsHeader, MayCell, MayHead, MayPrep, MaySource, begun, due, limits, with_cell, with_head, with_prep, with_source, FileFault, NotOurs, BadBlock, BadEntry, pointwise, Decides-eqb, slice_eq-Decides, eqb, IsBad, IsFault, IsTrailing, IsWhole, bad_in_body, Gives, Input, IsCut, left, Mark, OfArchive, OfCell, OfHeader, OfPrep, OfSource, OfVersion, Piece, spell, version_number, two_bytes, Body, Marked, Stage, Start, Takes, Versioned, body_size, header_size, size, Stands, fault_in_block, fault_in_entry, FitsArchive, FitsCell, FitsHeader, FitsPart, FitsSource}
use Rattle.rrd_file.specs.declared.fault.FileFault.TheVariants.{Version as WrongVersion}
use Rattle.rrd_file.proofs.OneSpelling.{archive_fits, cell_fits, header_fits, prep_fits, source_fits}
use Rattle.rrd_file.proofs.Reached.{cut, refused, taken}
use Rattle.rrd_file.proofs.Sound.{IsSound, reached_sound, small_limits}
use Rattle.rrd_file.proofs.Spelled.{archive_one, cell_one, header_one, part_one, source_one, two_one}
use Rattle.rrd_file.proofs.Ways.{Step, ToMark, ToVersion, ToHeader, step_of}
use Rattle.rrd_base.specs.declared.rebuild.PieceFault.TheVariants as refusal

-- ---- refusals

pub refusal_is : (bytes : List ℕ) (at : ℕ) (fault : PieceFault) → (fault ≡ refusal.Bad → IsBad bytes (BadBlock at)) → IsFault bytes (fault_in_block at fault)
refusal_is bytes at fault h = grind arith

pub entry_refusal_is : (bytes : List ℕ) (number : ℕ) (fault : PieceFault) → (fault ≡ refusal.Bad → IsBad bytes (BadEntry number)) → IsFault bytes (fault_in_entry number fault)
entry_refusal_is bytes number fault h = grind arith

-- ---- the mark

was_same : (b : Bool) → false ≡ not b → b ≡ true
was_same b e = grind arith

was_other : (b : Bool) → true ≡ not b → b ≡ true → ⊥
was_other b e h = grind arith

-- the bytes are compared by `!=`
pub same_bytes : (xs ys : List ℕ) → false ≡ not (pointwise eqb xs ys) → xs ≡ ys
same_bytes xs ys e = (slice_eq-Decides Decides-eqb xs ys _ refl).0 (was_same _ e)

pub other_bytes : (xs ys : List ℕ) → true ≡ not (pointwise eqb xs ys) → xs ≢ ys
other_bytes xs ys e same = was_other _ e ((slice_eq-Decides Decides-eqb xs ys _ refl).1 same)

pub cut_mark : (bytes : List ℕ) (old : Input) (n : ℕ) (fault : FileFault) → n ≡ 4 → Stands bytes Start old → IsCut old n fault → IsFault bytes fault
unfolding size
cut_mark bytes old n fault len st c = cut bytes Start n old fault st (sym len) c

pub mark_taken : (bytes piece : List ℕ) (old new : Input) → Stands bytes Start old → Gives old piece new → piece ≡ spell Mark → Stands bytes Marked new
unfolding Takes
mark_taken bytes piece old new st g is = taken bytes Start Marked Mark piece old new st g (sym is) refl

mark_step : {q : Piece} {n : Stage} → Step Start q n → q ≡ Mark
mark_step ToMark = refl

pub mark_refused : (bytes piece : List ℕ) (old new : Input) → Stands bytes Start old → Gives old piece new → length piece ≡ 4 → piece ≢ spell Mark → IsBad bytes NotOurs
unfolding size
mark_refused bytes piece old new st g len never =
    refused bytes Start piece old new NotOurs st g (sym len) (omega (arith, len))
    (λ q n t e. never (sym e ∙ ap spell (mark_step (step_of Start q n t)))) refl

-- ---- the version

pub cut_version : (bytes : List ℕ) (old : Input) (n : ℕ) (fault : FileFault) → n ≡ 2 → Stands bytes Marked old → IsCut old n fault → IsFault bytes fault
unfolding size
cut_version bytes old n fault len st c = cut bytes Marked n old fault st (sym len) c

version_is : (version : Version) → spell (OfVersion version) ≡ two_bytes (version_number version)
unfolding spell
version_is version = refl

pub version_taken : (version : Version) (bytes piece : List ℕ) (old new : Input) (number : ℕ) → Stands bytes Marked old → Gives old piece new → two_bytes number ≡ piece → number ≡ version_number version → Stands bytes (Versioned version) new
unfolding Takes
version_taken version bytes piece old new number st g is same = taken bytes Marked (Versioned version) (OfVersion version) piece old new st g (version_is version ∙ ap (λ n. two_bytes n) (sym same) ∙ is) refl

version_step : {q : Piece} {n : Stage} → Step Marked q n → (version : Version) × (q ≡ OfVersion version)
version_step (ToVersion v) = (v, refl)

small_number : (version : Version) → version_number version < 2 ^ 16
small_number version = grind arith

pub version_refused : (bytes piece : List ℕ) (old new : Input) (number : ℕ) → Stands bytes Marked old → Gives old piece new → length piece ≡ 2 → two_bytes number ≡ piece → number < 2 ^ 16 → ((version : Version) → version_number version ≢ number) → IsBad bytes WrongVersion
unfolding size
version_refused bytes piece old new number st g len is small never =
    refused bytes Marked piece old new WrongVersion st g (sym len) (omega (arith, len))
    (λ q n t e. grind (arith, version_step, step_of, two_one, small_number, version_is)) refl

-- ---- the header

pub cut_header : (version : Version) (bytes : List ℕ) (old : Input) (n : ℕ) (fault : FileFault) → n ≡ header_size version → Stands bytes (Versioned version) old → IsCut old n fault → IsFault bytes fault
unfolding size
cut_header version bytes old n fault len st c = cut bytes (Versioned version) n old fault st (sym len) c

pub header_taken : (bytes piece : List ℕ) (old new : Input) (h : Header) (f : Filed) → Stands bytes (Versioned h.version) old → Gives old piece new → spell (OfHeader h) ≡ piece → IsHeader h × (f ≡ begun h) → Stands bytes (Body f) new
unfolding Takes
header_taken bytes piece old new h f st g is m = taken bytes (Versioned h.version) (Body f) (OfHeader h) piece old new st g is (refl, m.0, ap Body m.1)

header_step : {version : Version} {q : Piece} {n : Stage} → Step (Versioned version) q n → (h : Header) × (q ≡ OfHeader h) × IsHeader h × (h.version ≡ version)
header_step (ToHeader v h same is) = (h, refl, is, same)

header_same : (x y : Header) → x.version ≡ y.version → FitsHeader x → FitsHeader y → spell (OfHeader x) ≡ spell (OfHeader y) → x ≡ y
unfolding spell
header_same x y v a b e = header_one x y v a b e

pub header_refused : (bytes piece : List ℕ) (old new : Input) (h : Header) → Stands bytes (Versioned h.version) old → Gives old piece new → length piece ≡ header_size h.version → spell (OfHeader h) ≡ piece → FitsHeader h → (IsHeader h → ⊥) → IsBad bytes (BadBlock old.at)
unfolding size
header_refused bytes piece old new h st g len is fits never =
    refused bytes (Versioned h.version) piece old new (BadBlock old.at) st g (sym len) (omega (arith, len))
    (λ q n t e.
    let it = header_step (step_of (Versioned h.version) q n t) in
    never (subst IsHeader (header_same it.0 h it.3 (header_fits it.0 it.2) fits (sym (ap spell it.1) ∙ e ∙ sym is)) it.2)) refl

-- ---- pieces of the body

pub cut_body : (bytes : List ℕ) (f : Filed) (old : Input) (n : ℕ) (fault : FileFault) → body_size (due f) ≡ n → Stands bytes (Body f) old → IsCut old n fault → IsFault bytes fault
unfolding size
cut_body bytes f old n fault len st c = cut bytes (Body f) n old fault st len c

sound_body : (bytes : List ℕ) (f : Filed) (old : Input) → Stands bytes (Body f) old → IsSound f
sound_body bytes f old st = reached_sound st.front.pieces (Body f) st.front.runs

pub source_taken : (bytes piece : List ℕ) (old new : Input) (f to : Filed) (s : Source) → Stands bytes (Body f) old → Gives old piece new → spell (OfSource s) ≡ piece → MaySource f s × (to ≡ with_source f s) → Stands bytes (Body to) new
unfolding Takes
source_taken bytes piece old new f to s st g is m = taken bytes (Body f) (Body to) (OfSource s) piece old new st g is (m.0, ap Body m.1)

source_step : {f : Filed} {q : Piece} {n : Stage} → due f ≡ SourceDue → Step (Body f) q n → (s : Source) × (q ≡ OfSource s) × MaySource f s
source_step e h = grind arith

source_same : (x y : Source) → FitsSource x → FitsSource y → spell (OfSource x) ≡ spell (OfSource y) → x ≡ y
unfolding spell
source_same x y a b e = source_one x y a b e

pub source_unread : (bytes piece : List ℕ) (old new : Input) (f : Filed) → due f ≡ SourceDue → Stands bytes (Body f) old → Gives old piece new → length piece ≡ 97 → ((s : Source) → FitsSource s → spell (OfSource s) ≢ piece) → IsBad bytes (BadBlock old.at)
unfolding size
source_unread bytes piece old new f d st g len none =
    refused bytes (Body f) piece old new (BadBlock old.at) st g (ap body_size d ∙ sym len) (omega (arith, len))
    (λ q n t e.
    let it = source_step d (step_of (Body f) q n t) in
    none it.0 (source_fits f it.0 (sound_body bytes f old st).header it.2) (sym (ap spell it.1) ∙ e)) (sym (ap (bad_in_body f old.at) d))

pub source_refused : (bytes piece : List ℕ) (old new : Input) (f : Filed) (s : Source) → due f ≡ SourceDue → Stands bytes (Body f) old → Gives old piece new → length piece ≡ 97 → spell (OfSource s) ≡ piece → FitsSource s → (MaySource f s → ⊥) → IsBad bytes (BadBlock old.at)
unfolding size
source_refused bytes piece old new f s d st g len is fits never =
    let sound = sound_body bytes f old st in
    refused bytes (Body f) piece old new (BadBlock old.at) st g (ap body_size d ∙ sym len) (omega (arith, len))
    (λ q n t e.
    let it = source_step d (step_of (Body f) q n t) in
    never (subst (MaySource f) (source_same it.0 s (source_fits f it.0 sound.header it.2) fits (sym (ap spell it.1) ∙ e ∙ sym is)) it.2)) (sym (ap (bad_in_body f old.at) d))

pub head_taken : (bytes piece : List ℕ) (old new : Input) (f to : Filed) (def : RraDef) → Stands bytes (Body f) old → Gives old piece new → spell (OfArchive def) ≡ piece → MayHead f def × (to ≡ with_head f def) → Stands bytes (Body to) new
unfolding Takes
head_taken bytes piece old new f to def st g is m = taken bytes (Body f) (Body to) (OfArchive def) piece old new st g is (m.0, ap Body m.1)

head_step : {f : Filed} {q : Piece} {n : Stage} → due f ≡ HeadDue → Step (Body f) q n → (def : RraDef) × (q ≡ OfArchive def) × MayHead f def
head_step e h = grind arith

archive_same : (x y : RraDef) → FitsArchive x → FitsArchive y → spell (OfArchive x) ≡ spell (OfArchive y) → x ≡ y
unfolding spell
archive_same x y a b e = archive_one x y a b e

pub head_unread : (bytes piece : List ℕ) (old new : Input) (f : Filed) → due f ≡ HeadDue → Stands bytes (Body f) old → Gives old piece new → length piece ≡ 13 → ((def : RraDef) → spell (OfArchive def) ≢ piece) → IsBad bytes (BadBlock old.at)
unfolding size
head_unread bytes piece old new f d st g len none =
    refused bytes (Body f) piece old new (BadBlock old.at) st g (ap body_size d ∙ sym len) (omega (arith, len))
    (λ q n t e. grind (arith, head_step, step_of)) (sym (ap (bad_in_body f old.at) d))

pub head_refused : (bytes piece : List ℕ) (old new : Input) (f : Filed) (def : RraDef) → due f ≡ HeadDue → Stands bytes (Body f) old → Gives old piece new → length piece ≡ 13 → spell (OfArchive def) ≡ piece → FitsArchive def → (MayHead f def → ⊥) → IsBad bytes (BadBlock old.at)
unfolding size
head_refused bytes piece old new f def d st g len is fits never =
    refused bytes (Body f) piece old new (BadBlock old.at) st g (ap body_size d ∙ sym len) (omega (arith, len))
    (λ q n t e.
    let it = head_step d (step_of (Body f) q n t) in
    never (subst (MayHead f) (archive_same it.0 def (archive_fits (limits f) it.0 (small_limits f.header.version) it.2.def_is) fits (sym (ap spell it.1) ∙ e ∙ sym is)) it.2)) (sym (ap (bad_in_body f old.at) d))

pub prep_taken : (bytes piece : List ℕ) (old new : Input) (f to : Filed) (part : Part) → Stands bytes (Body f) old → Gives old piece new → spell (OfPrep part) ≡ piece → MayPrep f part × (to ≡ with_prep f part) → Stands bytes (Body to) new
unfolding Takes
prep_taken bytes piece old new f to part st g is m = taken bytes (Body f) (Body to) (OfPrep part) piece old new st g is (m.0, ap Body m.1)

prep_step : {f : Filed} {q : Piece} {n : Stage} (def : RraDef) → due f ≡ PrepDue def → Step (Body f) q n → (part : Part) × (q ≡ OfPrep part) × MayPrep f part
prep_step def e h = grind arith

prep_same : (x y : Part) → FitsPart x → FitsPart y → spell (OfPrep x) ≡ spell (OfPrep y) → x ≡ y
unfolding spell
prep_same x y a b e = part_one x y a b e

pub prep_refused : (bytes piece : List ℕ) (old new : Input) (f : Filed) (part : Part) → (def : RraDef) × (due f ≡ PrepDue def) → Stands bytes (Body f) old → Gives old piece new → length piece ≡ 20 → spell (OfPrep part) ≡ piece → FitsPart part → (MayPrep f part → ⊥) → IsBad bytes (BadBlock old.at)
unfolding size
prep_refused bytes piece old new f part d st g len is fits never =
    let sound = sound_body bytes f old st in
    refused bytes (Body f) piece old new (BadBlock old.at) st g (ap body_size d.1 ∙ sym len) (omega (arith, len))
    (λ q n t e.
    let it = prep_step d.0 d.1 (step_of (Body f) q n t) in
    never (subst (MayPrep f) (prep_same it.0 part (prep_fits f it.0 sound it.2) fits (sym (ap spell it.1) ∙ e ∙ sym is)) it.2)) (sym (ap (bad_in_body f old.at) d.1))

pub cell_taken : (bytes piece : List ℕ) (old new : Input) (f to : Filed) (cell : Cell) → Stands bytes (Body f) old → Gives old piece new → spell (OfCell cell) ≡ piece → MayCell f cell × (to ≡ with_cell f cell) → Stands bytes (Body to) new
unfolding Takes
cell_taken bytes piece old new f to cell st g is m = taken bytes (Body f) (Body to) (OfCell cell) piece old new st g is (m.0, ap Body m.1)

cell_step : {f : Filed} {q : Piece} {n : Stage} → due f ≡ CellDue → Step (Body f) q n → (cell : Cell) × (q ≡ OfCell cell) × MayCell f cell
cell_step e h = grind arith

cell_same : (x y : Cell) → FitsCell x → FitsCell y → spell (OfCell x) ≡ spell (OfCell y) → x ≡ y
unfolding spell
cell_same x y a b e = cell_one x y a b e

pub cell_refused : (bytes piece : List ℕ) (old new : Input) (f : Filed) (cell : Cell) → due f ≡ CellDue → Stands bytes (Body f) old → Gives old piece new → length piece ≡ 16 → spell (OfCell cell) ≡ piece → FitsCell cell → (MayCell f cell → ⊥) → IsBad bytes (BadBlock old.at)
unfolding size
cell_refused bytes piece old new f cell d st g len is fits never =
    refused bytes (Body f) piece old new (BadBlock old.at) st g (ap body_size d ∙ sym len) (omega (arith, len))
    (λ q n t e.
    let it = cell_step d (step_of (Body f) q n t) in
    never (subst (MayCell f) (cell_same it.0 cell (cell_fits it.0 it.2.bounded) fits (sym (ap spell it.1) ∙ e ∙ sym is)) it.2)) (sym (ap (bad_in_body f old.at) d))

-- ---- the end

pub ended : (bytes : List ℕ) (f : Filed) (old : Input) → due f ≡ NothingDue → Stands bytes (Body f) old → ((rest : List ℕ) → left old ≡ Some rest → rest ≡ []) → IsWhole bytes f
unfolding size
ended bytes f old d st none = grind arith

pub trails : (bytes : List ℕ) (f : Filed) (old : Input) → due f ≡ NothingDue → Stands bytes (Body f) old → ((rest : List ℕ) → left old ≡ Some rest → 0 < length rest) → IsTrailing bytes old.at
unfolding size
trails bytes f old d st some = grind (arith, Body f, st, ap body_size d, some st.rest st.left_is)
