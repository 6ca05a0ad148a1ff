-- Definition: the texts of refusals (this project's).
use Rattle.std.specs.Prelude.{◌++◌, ℕ, List, codes, decimal}
use Rattle.rrd_spec.specs.declared.refusal.Refusal.{Refusal}
use Rattle.rrd_spec.specs.declared.refusal.Refusal.TheVariants as refusal

abbrev pub refusal_text : Refusal → List ℕ
refusal_text refusal.BadStep = codes "bad step"
refusal_text refusal.BadStart = codes "bad start"
refusal_text refusal.NoSource = codes "no data source"
refusal_text refusal.NoArchive = codes "no archive"
refusal_text refusal.BadName = codes "bad name"
refusal_text refusal.DoubleName = codes "double name"
refusal_text refusal.BadHeartbeat = codes "bad heartbeat"
refusal_text refusal.BadBounds = codes "bad bounds"
refusal_text refusal.BadXff = codes "bad xff"
refusal_text refusal.BadSteps = codes "bad steps"
refusal_text refusal.BadRows = codes "bad rows"
refusal_text refusal.TooLarge = codes "too large"
refusal_text refusal.BadDepth = codes "bad journal depth"
refusal_text refusal.NoSuchSource = codes "no such data source"
refusal_text refusal.WrongCount = codes "wrong number of values"
refusal_text refusal.BadValue = codes "bad value"
refusal_text (refusal.NotLater last) = codes "not later than " ++ decimal last
refusal_text refusal.NoSample = codes "no sample"
refusal_text refusal.NothingToTune = codes "nothing to tune"
refusal_text refusal.NoSuchArchive = codes "no such archive"
refusal_text refusal.ShrinkTooFar = codes "shrinks too far"
refusal_text refusal.NothingToRevert = codes "nothing to revert"
refusal_text refusal.NoArchiveForFunction = codes "no archive for this function"
refusal_text refusal.SpanTooLong = codes "span too long"
refusal_text refusal.BadSpan = codes "bad span"
refusal_text refusal.OutOfMemory = codes "out of memory"
refusal_text refusal.BadTime = codes "bad time"
refusal_text refusal.MixedTune = codes "mixed tune"
