-- What a front shows of a file.
use Rattle.rrd_disk.proofs.Names.{◌≡◌, ℕ, List, length, ext_get_or, Begins}

-- bytes with which a file begins, and that are as many as the file has, are all of them
pub whole : (file front : List ℕ) → Begins file front → length front ≡ length file → front ≡ file
whole file front begins same = ext_get_or 0 front file same begins.each
