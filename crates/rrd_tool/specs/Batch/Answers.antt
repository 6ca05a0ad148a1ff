-- Glue: the results of the functions of a batch by the state, which no value of the program holds.
use Rattle.std.specs.Prelude.{◌≡◌, ◌++◌, [], ℕ, Bool, List, Option, Some, None, Result, Ok, Err, length, take}
use Rattle.rrd_tool.specs.Names.{Appends, Keeps, WriteFault, State, Stored}
use Rattle.rrd_tool.specs.Batch.{Tally, Turn, Ran, Stopped, Told}
use Rattle.rrd_tool.specs.Effects.{StandsFor}
use Rattle.rrd_tool.specs.Faults.{fault_line}
use Rattle.rrd_tool.specs.Lines.{is_empty}
use Rattle.rrd_tool.specs.Batch.Run.{command_turn, refusal_turn, turn, unless_short}
use Rattle.rrd_tool.specs.declared.refusals.Refusals.{Refusals}
use Rattle.rrd_tool.specs.declared.commands.Command.{Command}
use Rattle.rrd_tool.specs.declared.faults.LineFault.{LineFault}
use Rattle.rrd_tool.specs.declared.faults.Fault.{Fault}
use Rattle.rrd_tool.specs.declared.faults.Fault.TheVariants.{Line}

-- ---- one line

-- a prefix of the text was written, or all of it
abbrev pub AppendsSome : Option (List ℕ) → Option (List ℕ) → List ℕ → Type 0
AppendsSome old new text =
    (front : List ℕ) × (unwritten : List ℕ) × (text ≡ front ++ unwritten) × Appends old new front

-- the result of a line without an error
abbrev pub passed : {S : Type 0} → S → List ℕ → Turn S
passed state text = record { state = state; text = text; is_fault = Bool.false }

-- the result of performing a line, whose turn depends on whether memory ran out: its text is written; or an error is
-- returned, and nothing is written; or writing or flushing failed, and a prefix of the text, which is not
-- empty, is written
abbrev pub Performs : {S F : Type 0} → (F → List ℕ) → (Bool → Turn S) → S → Option (List ℕ) → Option (List ℕ)
    → Result (Option F) WriteFault → Type 0
Performs fault_line turn state c0 c1 (Ok None) =
    (text : List ℕ) × (turn Bool.false ≡ passed state text) × Appends c0 c1 text
Performs fault_line turn state c0 c1 (Ok (Some fault)) =
    (is_short : Bool)
    × (turn is_short ≡ record { state = state; text = fault_line fault; is_fault = Bool.true })
    × Keeps c0 c1
Performs fault_line turn state c0 c1 (Err e) =
    (text : List ℕ) × (turn Bool.false ≡ passed state text) × AppendsSome c0 c1 text × (is_empty text ≡ Bool.false)

-- the turn of a line, by whether memory ran out
abbrev pub line_turns : ℕ → Option State → List ℕ → Bool → Turn (Option State)
line_turns now state line is_short = turn now state (record { line = line; is_short = is_short })

-- the request of a line: a command, nothing, or an error
abbrev pub Asks : ℕ → List ℕ → Result (Option Command) LineFault → Type 0
Asks now line (Ok None) = (state : Option State) → line_turns now state line Bool.false ≡ passed state []
Asks now line (Ok (Some command)) =
    (state : Option State) (is_short : Bool)
    → line_turns now state line is_short ≡ unless_short state (command_turn state command) is_short
Asks now line (Err fault) =
    (is_short : Bool) × ((state : Option State) → line_turns now state line is_short ≡ refusal_turn state (Line fault))

-- the lines were run, or at an error some of them
abbrev pub Answers : {S T : Type 0} → (S → Told → Turn S) → S → S → Tally → Tally → Option (List ℕ)
    → Option (List ℕ) → List (List ℕ) → Result T WriteFault → Type 0
Answers turn s0 s1 t0 t1 c0 c1 lines (Ok x) = Ran turn s0 s1 t0 t1 c0 c1 lines
Answers turn s0 s1 t0 t1 c0 c1 lines (Err e) = Stopped turn s0 s1 t0 t1 c0 c1 lines

-- ---- the database

-- from each state that the database represents, the command or the line leads to a state that the new database
-- represents
abbrev pub MovesBy : Option Stored → Option Stored → Option (List ℕ) → Option (List ℕ)
    → (Option State → Bool → Turn (Option State)) → Result (Option Fault) WriteFault → Type 0
MovesBy b0 b1 c0 c1 turns r =
    (s0 : Option State) → StandsFor b0 s0
    → (s1 : Option State) × StandsFor b1 s1 × Performs fault_line (turns s0) s1 c0 c1 r

abbrev pub MovesByCommand : Option Stored → Option Stored → Option (List ℕ) → Option (List ℕ) → Command
    → Result (Option Fault) WriteFault → Type 0
MovesByCommand b0 b1 c0 c1 command r = MovesBy b0 b1 c0 c1 (λ state. unless_short state (command_turn state command)) r

abbrev pub MovesByLine : ℕ → Option Stored → Option Stored → Option (List ℕ) → Option (List ℕ) → List ℕ
    → Result (Option Fault) WriteFault → Type 0
MovesByLine now b0 b1 c0 c1 line r = MovesBy b0 b1 c0 c1 (λ state. line_turns now state line) r

-- ---- the lines that were read

-- the counts and numbers that are kept of a tally, at most `most` numbers
abbrev pub Tallies : ℕ → Refusals → Tally → Type 0
Tallies most kept t =
    (kept.most ≡ most) × (kept.lines ≡ t.lines) × (kept.count ≡ length t.refused)
    × (kept.numbers.items ≡ take most t.refused)

-- these lines lead to a state that the new database represents, and the counts continue with them
abbrev pub Moves : {T : Type 0} → ℕ → Option Stored → Option Stored → Refusals → Refusals → Option (List ℕ)
    → Option (List ℕ) → List (List ℕ) → Result T WriteFault → Type 0
Moves now b0 b1 k0 k1 c0 c1 lines r =
    (s0 : Option State) → StandsFor b0 s0 → (most : ℕ) (t0 : Tally) → Tallies most k0 t0
    → (s1 : Option State) × StandsFor b1 s1 × (t1 : Tally) × Tallies most k1 t1
    × Answers (turn now) s0 s1 t0 t1 c0 c1 lines r
