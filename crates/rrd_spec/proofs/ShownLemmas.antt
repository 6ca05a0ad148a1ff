-- What is shown of an archive, and what makes a new one good.
use Rattle.std.specs.Prelude.{◌<◌, List, length}
use Rattle.rrd_spec.proofs.Names.{get_or, arith, cell_of_archive, length-map, slice_get_within, slice_get-get_or, ShowsCells, archive_by_time, content, Content, Event, lives}
use Rattle.rrd_spec.proofs.CellLemmas.{shows_by_time}

-- each cell that the content of a history shows
pub shows_cells : (base : Content) (es : List Event) → ShowsCells base es
shows_cells base es is h index life there time source multiple =
    let now = content base es in
    let count = length-map (lives base es) (archive_by_time base es) in
    let shown = get_or now.archives index life.begun in
    let within : index < length now.archives = omega (arith, count, slice_get_within (lives base es) index life there) in
    cc (cell_of_archive now now.archives index life.begun time source within, shows_by_time base es is h index life shown there (slice_get-get_or now.archives index life.begun within) time multiple)
