-- Definition: the texts of errors (this project's rule).
use Rattle.std.specs.Prelude.{◌++◌, ℕ, Bool, List, codes, decimal, if◌then◌else◌, true, false}
use Rattle.rrd_tool.specs.Names.{refusal_text}
use Rattle.rrd_tool.specs.declared.faults.LineFault.{LineFault}
use Rattle.rrd_tool.specs.declared.faults.LineFault.TheVariants as line
use Rattle.rrd_tool.specs.declared.faults.Part.{Part}
use Rattle.rrd_tool.specs.declared.faults.Part.TheVariants as part
use Rattle.rrd_tool.specs.declared.faults.Fault.{Fault}
use Rattle.rrd_tool.specs.declared.faults.Fault.TheVariants.{Line, Refused, NoDatabase, Output}

-- ---- arguments that are not a command

-- the name of a part
abbrev pub word_of : Part → List ℕ
word_of part.Step = codes "step"
word_of part.Start = codes "start"
word_of part.Journal = codes "journal"
word_of part.Definition = codes "definition"
word_of part.Template = codes "template"
word_of part.Sample = codes "sample"
word_of part.Heartbeat = codes "heartbeat"
word_of part.Minimum = codes "minimum"
word_of part.Maximum = codes "maximum"
word_of part.Kind = codes "type"
word_of part.Rename = codes "rename"
word_of part.Archive = codes "archive"
word_of part.Change = codes "change"
word_of part.Rows = codes "rows"
word_of part.Function = codes "function"
word_of part.Resolution = codes "resolution"
word_of part.End = codes "end"

-- a command may have several of these parts, and an error prints the number of the part
abbrev pub is_numbered : Part → Bool
is_numbered part.Definition = true
is_numbered part.Sample = true
is_numbered _ = false

-- a part, and its number if there may be several
abbrev pub place_text : Part → ℕ → List ℕ
place_text part number = if is_numbered part then word_of part ++ codes " " ++ decimal number else word_of part

-- the part that cannot be parsed; for definitions and samples also its number
abbrev pub unread_text : Part → ℕ → List ℕ
unread_text part number = codes "unreadable " ++ place_text part number

abbrev pub line_fault_text : LineFault → List ℕ
line_fault_text line.Usage = codes "usage"
line_fault_text (line.BadWord part number) = unread_text part number
line_fault_text line.OutOfMemory = codes "out of memory"

abbrev pub fault_text : Fault → List ℕ
fault_text (Line fault) = line_fault_text fault
fault_text (Refused fault) = refusal_text fault
fault_text NoDatabase = codes "no database"
fault_text Output = codes "write failed"

abbrev pub error_line : List ℕ → List ℕ
error_line text = codes "ERROR: " ++ text ++ codes "\n"

-- the line that is written for an error
abbrev pub fault_line : Fault → List ℕ
fault_line fault = error_line (fault_text fault)
