use Rattle.rrd_file.proofs.Common.{◌≡◌, ◌*◌, ◌≤◌, length, take, sum_by, SavedArchive, saved_pieces, spelled, most_of_saved}
use Rattle.rrd_file.proofs.length.all_saved_length.Given as goal

abbrev pub invariant-loop-archive : goal.invariant-loop-archive
invariant-loop-archive l = record {
  counted : l.length ≡ sum_by (λ (old : SavedArchive). length (spelled (saved_pieces old))) (take l.archive-index l.saved);
  few : l.length ≤ l.archive-index * most_of_saved;
}
