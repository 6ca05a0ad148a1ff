use Rattle.rrd_file.proofs.Common.{◌++◌, ℕ, List, drop, length, take, flat_map, outline_left, MaySaveEach, saved_pieces, Piece, DueInEntry, archive_due, Comes}
use Rattle.rrd_file.proofs.journal.update.read_all_saved.Given as goal

abbrev pub invariant-loop-archive : goal.invariant-loop-archive
invariant-loop-archive g l =
    let now = outline_left l.build in
    MaySaveEach l.build.header.step l.last now.last (length now.sources) (take l.archive now.archives) l.olds.items
    × ((bytes : List ℕ) (pieces : List Piece) (later : List DueInEntry) → Comes bytes l.build pieces (flat_map (archive_due l.build.header.step now l.last) now.archives ++ later) l.fn.input
    → Comes bytes l.build (pieces ++ flat_map saved_pieces l.olds.items) (flat_map (archive_due l.build.header.step now l.last) (drop l.archive now.archives) ++ later) l.input)
