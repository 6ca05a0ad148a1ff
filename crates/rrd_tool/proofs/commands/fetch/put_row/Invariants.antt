use Rattle.rrd_tool.proofs.Common.{◌≡◌, ◌≤◌, ◌+◌, ◌*◌, ◌++◌, List, ℕ, codes, length, Puts, cell_text, cell_at, texts_below}
use Rattle.rrd_tool.proofs.commands.fetch.put_row.Given as goal

abbrev pub invariant-loop-source : goal.invariant-loop-source
invariant-loop-source l =
    ((rest : List ℕ) × Puts l.fn.buffer l.buffer l.end rest l.at
    × (texts_below (λ source. codes " " ++ cell_text (cell_at l.database.content l.archive l.time source)) l.source ++ rest
    ≡ texts_below (λ source. codes " " ++ cell_text (cell_at l.database.content l.archive l.time source)) (length l.database.content.sources) ++ codes "\n"))
    × (l.source ≤ length l.database.content.sources)
    × (l.end + 49 * l.source ≤ l.at + (1 + 49 * length l.database.content.sources))
    × (length l.buffer ≡ length l.fn.buffer)

abbrev pub decreases-loop-source : goal.decreases-loop-source
decreases-loop-source l = l.source
