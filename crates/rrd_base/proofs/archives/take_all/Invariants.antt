use Rattle.rrd_base.proofs.Common.{◌≡◌, ◌+◌, ◌≤◌, ◌++◌, take, drop, map, AllByRecursion, archive_passed, IsValidArchive, cells_of, count_of, least_of_all, most_of_all}
use Rattle.rrd_base.specs.Walk.{sources_of}
use Rattle.rrd_base.proofs.archives.take_all.Given as goal

abbrev pub invariant-loop-i : goal.invariant-loop-i
invariant-loop-i l =
    let n = sources_of l.steps in
    let before = l.steps.before in
    record {
      value : l.archives ≡ map (archive_passed n before (cells_of l.steps)) (take l.i l.fn.archives) ++ drop l.i l.fn.archives;
      valid : AllByRecursion (IsValidArchive n (before + count_of l.steps)) (take l.i l.archives);
      least : l.fn.meter + least_of_all l.steps (take l.i l.fn.archives) ≤ l.meter;
      most : l.meter ≤ l.fn.meter + most_of_all l.steps (take l.i l.fn.archives);
    }
