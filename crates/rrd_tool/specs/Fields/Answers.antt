-- Glue: the results of the functions that parse parts.
use Rattle.std.specs.Prelude.{◌≡◌, Result, Ok, Err}
use Rattle.rrd_tool.specs.Fields.Parts.{Unread}
use Rattle.rrd_tool.specs.declared.faults.LineFault.{LineFault}
use Rattle.rrd_tool.specs.declared.faults.LineFault.TheVariants.{Usage, BadWord, OutOfMemory}

-- a function returns the value that is parsed, or that memory ran out
abbrev pub Meets : {A : Type 0} → Result A Unread → Result A LineFault → Type 0
Meets read (Ok x) = read ≡ Ok x
Meets read (Err (BadWord part number)) = read ≡ Err (part, number)
Meets read (Err OutOfMemory) = Unit {0}
Meets read (Err Usage) = ⊥
