-- Definition: the settings that the texts of the environment set (own).
use Rattle.std.specs.Prelude.{ℕ, ◌*◌, min, List, Option, Some, None, codes, if◌then◌else◌}
use Rattle.std.specs.Str.{bytes_eq}
use Rattle.rrd_fixed.specs.Reading.{whole_of}
use Rattle.rrd_change.specs.declared.calls.Syncs.{Syncs}
use Rattle.rrd_change.specs.declared.calls.Syncs.TheVariants.{Never, Ordered}

-- a whole number of seconds, at most 3,600, in milliseconds; otherwise 5 seconds
abbrev pub seconds_or_5 : Option ℕ → ℕ
seconds_or_5 (Some seconds) = min seconds 3600 * 1000
seconds_or_5 None = 5000

abbrev pub wait_of : List ℕ → ℕ
wait_of text = seconds_or_5 (whole_of text)

-- the text `1` turns syncs on
abbrev pub syncs_of : List ℕ → Syncs
syncs_of text = if bytes_eq text (codes "1") then Ordered else Never
