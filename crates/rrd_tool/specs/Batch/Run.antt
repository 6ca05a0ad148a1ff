-- Definition: the run: the database that the lines of an input make, and the text that they print (this project's
-- rule).
use Rattle.std.specs.Prelude.{◌≡◌, ◌⊎◌, ◌∷◌, [], ℕ, Bool, List, Option, Some, None, Result, Ok, Err, true, false, option_map, if◌then◌else◌}
use Rattle.rrd_tool.specs.Names.{IsAtEnd, Keeps, fault_of, State}
use Rattle.rrd_tool.specs.Batch.{Tally, Told, Turn, Ran, Stopped, no_lines}
use Rattle.rrd_tool.specs.Commands.{effect, rrdi_app}
use Rattle.rrd_tool.specs.Effects.{Effect, stored_of, next, text_on, verdict_on}
use Rattle.rrd_tool.specs.Faults.{fault_line}
use Rattle.rrd_tool.specs.Lines.{is_empty, lines_of, text_in, whole_lines, words_of}
use Rattle.rrd_tool.specs.Commands.Reading.{reading}
use Rattle.rrd_tool.specs.Fields.Parts.{Unread}
use Rattle.rrd_tool.specs.declared.batch.StreamFault.{StreamFault}
use Rattle.rrd_tool.specs.declared.batch.StreamFault.TheVariants as stream
use Rattle.rrd_tool.specs.declared.commands.Command.{Command}
use Rattle.rrd_tool.specs.declared.faults.LineFault.{LineFault}
use Rattle.rrd_tool.specs.declared.faults.LineFault.TheVariants.{Usage, BadWord, OutOfMemory}
use Rattle.rrd_tool.specs.declared.faults.Fault.{Fault}
use Rattle.rrd_tool.specs.declared.faults.Fault.TheVariants.{Line}

-- ---- one line

-- the command that was parsed, or the part that cannot be parsed
abbrev pub read_as : Option (Result Command Unread) → Result Command LineFault
read_as None = Err Usage
read_as (Some (Ok command)) = Ok command
read_as (Some (Err unread)) = Err (BadWord unread.0 unread.1)

-- the command of the arguments: their reading, if clap states that it accepts them
unfoldable pub command_of : List (List ℕ) → ℕ → Result Command LineFault
command_of words now = if is_empty (fault_of rrdi_app words) then read_as (reading words now) else Err Usage

-- a refused line leaves the state unchanged, and its error is written
abbrev pub refusal_turn : Option State → Fault → Turn (Option State)
refusal_turn state fault = record { state = state; text = fault_line fault; is_fault = true }

abbrev pub verdict_turn : Option State → Effect → Option Fault → Turn (Option State)
verdict_turn state effect (Some fault) = refusal_turn state fault
verdict_turn state effect None =
    record { state = next state effect; text = text_on (option_map stored_of state) effect; is_fault = false }

abbrev pub effect_turn : Option State → Effect → Turn (Option State)
effect_turn state effect = verdict_turn state effect (verdict_on (option_map stored_of state) effect)

abbrev pub command_turn : Option State → Command → Turn (Option State)
command_turn state command = effect_turn state (effect command)

abbrev pub reading_turn : Option State → Result Command LineFault → Turn (Option State)
reading_turn state (Ok command) = command_turn state command
reading_turn state (Err fault) = refusal_turn state (Line fault)

-- the requested turn, or an error because memory ran out
abbrev pub unless_short : Option State → Turn (Option State) → Bool → Turn (Option State)
unless_short state asked true = refusal_turn state (Line OutOfMemory)
unless_short state asked false = asked

-- a line without arguments is skipped. For any other line memory may run out
abbrev pub words_turn : ℕ → Option State → List (List ℕ) → Bool → Turn (Option State)
words_turn now state [] is_short = record { state = state; text = []; is_fault = false }
words_turn now state (word ∷ words) is_short =
    unless_short state (reading_turn state (command_of (word ∷ words) now)) is_short

-- a line that is not a text is not a command, even if it has no arguments
abbrev pub text_turn : ℕ → Option State → Option (List ℕ) → Bool → Turn (Option State)
text_turn now state None is_short = refusal_turn state (Line Usage)
text_turn now state (Some text) is_short = words_turn now state (words_of text) is_short

-- the result of a line, if `now` is the present time
unfoldable pub turn : ℕ → Option State → Told → Turn (Option State)
turn now state told = text_turn now state (text_in told.line) told.is_short

-- ---- the run

-- `seen` has the bytes that were read. At the end of the input all its lines were run. After a failed read all complete
-- lines were run. After a failed write the first of the complete lines were run, or at the end of the input the first
-- of all lines; of the last of them a prefix of the text was written. If memory for a line or for the numbers ran out,
-- no byte was read or written
abbrev pub RunOver : ℕ → List ℕ → Option (List ℕ) → Option State → Option State → Tally → Option (List ℕ)
    → Option (List ℕ) → Option StreamFault → Type 0
RunOver now seen r1 s0 s1 t c0 c1 None = IsAtEnd r1 × Ran (turn now) s0 s1 no_lines t c0 c1 (lines_of seen)
RunOver now seen r1 s0 s1 t c0 c1 (Some stream.Read) = Ran (turn now) s0 s1 no_lines t c0 c1 (whole_lines [] seen)
RunOver now seen r1 s0 s1 t c0 c1 (Some stream.Write) =
    Stopped (turn now) s0 s1 no_lines t c0 c1 (whole_lines [] seen)
    ⊎ (IsAtEnd r1 × Stopped (turn now) s0 s1 no_lines t c0 c1 (lines_of seen))
RunOver now seen r1 s0 s1 t c0 c1 (Some stream.OutOfMemory) =
    (seen ≡ []) × (s1 ≡ s0) × (t ≡ no_lines) × Keeps c0 c1
