-- Example: worked examples of the rows that a fetch reads, and of the oldest row of an archive.
use Rattle.std.specs.Prelude.{◌≡◌, pos, negsuc, Ok, Err, [], ◌∷◌}
use Rattle.rrd_spec.specs.Names.{Min, Last}
use Rattle.rrd_spec.specs.declared.refusal.Refusal.TheVariants.{BadSpan, BadTime, NoArchiveForFunction, SpanTooLong, NoSuchArchive}
use Rattle.rrd_spec.specs.History.{Content}
use Rattle.rrd_spec.specs.Laws.ListedContent.{content_listed}
use Rattle.rrd_spec.specs.History.Cells.{oldest_time}
use Rattle.rrd_spec.specs.Choice.{choice}
use Rattle.rrd_spec.specs.Examples.{created, gauge, archive, at}

-- two archives of three rows, of one and of two steps, at 100 seconds
abbrev pub two_archives : Content
two_archives = content_listed (created 10 0 (gauge 100) (archive Last 1 3 ∷ archive Last 2 3 ∷ [])) (at 100 1 ∷ [])

-- the finer archive reaches the start; only the coarser one does; neither does; a resolution of 20 is requested; and
-- the refusals
abbrev pub Fetched : Type 0
Fetched =
    (choice two_archives Last 1 80 99 ≡ Ok (record { archive = 0; res = 10; lo = 80; hi = 100 }))
    × (choice two_archives Last 1 50 99 ≡ Ok (record { archive = 1; res = 20; lo = 40; hi = 100 }))
    × (choice two_archives Last 1 0 99 ≡ Ok (record { archive = 1; res = 20; lo = 0; hi = 100 }))
    × (choice two_archives Last 20 80 100 ≡ Ok (record { archive = 1; res = 20; lo = 80; hi = 120 }))
    × (choice two_archives Min 1 0 9 ≡ Err NoArchiveForFunction)
    × (choice two_archives Last 1 20 10 ≡ Err BadSpan)
    × (choice two_archives Last 1 0 10000000000 ≡ Err BadTime)
    × (choice two_archives Last 1 0 9999999999 ≡ Err SpanTooLong)

-- the time of the oldest row of each archive, also before 1970; and no third archive
abbrev pub Oldest : Type 0
Oldest =
    (oldest_time two_archives 0 ≡ Ok (pos 80))
    × (oldest_time two_archives 1 ≡ Ok (pos 60))
    × (oldest_time two_archives 2 ≡ Err NoSuchArchive)
    × (oldest_time (created 10 5 (gauge 100) (archive Last 1 4 ∷ [])) 0 ≡ Ok (negsuc 29))
