use Rattle.rrd_file.proofs.Common.{◌≡◌, ◌++◌, ◌%◌, ℕ, List, drop, length, map, take, Average, AreAccepted, AreParts, outline_left, raws_and_parts, Piece, BeforeDue, DueInEntry, Comes}
use Rattle.rrd_file.proofs.journal.update.read_raws_and_parts.Given as goal

abbrev pub invariant-loop-source : goal.invariant-loop-source
invariant-loop-source g l =
    (length l.raws.items ≡ l.source)
    × AreAccepted (take l.source (outline_left l.build).sources) l.raws.items
    × AreParts Average l.source (l.last % l.build.header.step) l.preps.items
    × ((bytes : List ℕ) (pieces : List Piece) (later : List DueInEntry) → Comes bytes l.build pieces (map (BeforeDue l.last) (outline_left l.build).sources ++ later) l.fn.input
    → Comes bytes l.build (pieces ++ raws_and_parts l.raws.items l.preps.items) (map (BeforeDue l.last) (drop l.source (outline_left l.build).sources) ++ later) l.input)
