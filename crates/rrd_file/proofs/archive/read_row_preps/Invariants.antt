use Rattle.rrd_file.proofs.Common.{◌++◌, ◌-◌, ◌/◌, ◌%◌, ℕ, List, length, map, replicate, AllOf, AreParts, parts_in, outline_left, OfPrep, Piece, DueInEntry, RowPrepDue, Comes}
use Rattle.rrd_file.proofs.archive.read_row_preps.Given as goal

abbrev pub invariant-loop : goal.invariant-loop
invariant-loop g l =
    AreParts l.def.function l.counter (l.last / l.build.header.step % l.def.steps) (parts_in l.preps.items)
    × AllOf l.def.function l.preps.items
    × ((bytes : List ℕ) (pieces : List Piece) (later : List DueInEntry)
    → Comes bytes l.build pieces (replicate (length (outline_left l.build).sources) (RowPrepDue l.last l.def) ++ later) l.fn.input
    → Comes bytes l.build (pieces ++ map OfPrep (parts_in l.preps.items)) (replicate (length (outline_left l.build).sources - l.counter) (RowPrepDue l.last l.def) ++ later) l.input)
