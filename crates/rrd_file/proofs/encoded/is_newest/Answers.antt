use Rattle.rrd_file.proofs.Common.{◌≡◌, refl, true, false, One, Two, first_begins}
use Rattle.rrd_file.proofs.encoded.is_newest.Goals as goal

pub returns : goal.returns
returns c is Two d same = refl
returns c is One d same = absurd (let no : false ≡ true = rw (c.starts_with.ensures.value, same, first_begins d) at is in cc)
