-- Definition: the texts of a file's errors (this project's rule).
use Rattle.std.specs.Prelude.{◌++◌, ℕ, List, codes, decimal}
use Rattle.rrd_file.specs.declared.fault.FileFault.{FileFault}
use Rattle.rrd_file.specs.declared.fault.FileFault.TheVariants as fault

abbrev pub file_fault_text : FileFault → List ℕ
file_fault_text fault.NotOurs = codes "file: not ours"
file_fault_text fault.Version = codes "file: version"
file_fault_text (fault.Truncated at) = codes "file: truncated at " ++ decimal at
file_fault_text (fault.BadBlock at) = codes "file: bad block at " ++ decimal at
file_fault_text (fault.BadEntry number) = codes "file: bad entry " ++ decimal number
file_fault_text (fault.Trailing at) = codes "file: trailing at " ++ decimal at
file_fault_text fault.Read = codes "file: read failed"
file_fault_text fault.OutOfMemory = codes "out of memory"
