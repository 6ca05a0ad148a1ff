-- Glue: the error for a record that may not come.
use Rattle.std.specs.Prelude.{ℕ}
use Rattle.rrd_file.specs.Names.{PieceFault}
use Rattle.rrd_file.specs.declared.fault.FileFault.{FileFault}
use Rattle.rrd_file.specs.declared.fault.FileFault.TheVariants.{BadBlock, BadEntry, OutOfMemory}
use Rattle.rrd_base.specs.declared.rebuild.PieceFault.TheVariants as refusal

-- the error for a record that was refused
abbrev pub fault_in_block : ℕ → PieceFault → FileFault
fault_in_block at refusal.Bad = BadBlock at
fault_in_block at refusal.OutOfMemory = OutOfMemory

abbrev pub fault_in_entry : ℕ → PieceFault → FileFault
fault_in_entry number refusal.Bad = BadEntry number
fault_in_entry number refusal.OutOfMemory = OutOfMemory
