use Rattle.rrd_file.proofs.Common.{◌≡◌, ◌*◌, ◌+◌, ◌≤◌, length, take, sum_by, Entry, entry_pieces, spelled, most_of_entry}
use Rattle.rrd_file.proofs.length.entries_length.Given as goal

abbrev pub invariant-loop-number : goal.invariant-loop-number
invariant-loop-number l = record {
  counted :
      let size = λ (entry : Entry). length (spelled (entry_pieces entry)) in
      l.length + sum_by size (take l.from l.database.journal) ≡ sum_by size (take l.number l.database.journal);
  few : l.length ≤ l.number * most_of_entry;
}
