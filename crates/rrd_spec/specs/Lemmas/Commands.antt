-- Law: samples that pass their checks have rising times.
use Rattle.std.specs.Prelude.{List, [], ◌∷◌, map}
use Rattle.rrd_spec.specs.Names.{leb-false, AllByRecursion, Name}
use Rattle.rrd_spec.specs.declared.settings.DsDef.{DsDef}
use Rattle.rrd_spec.specs.declared.requests.update.Sample.{Sample}
use Rattle.rrd_spec.specs.Commands.{sample_of}
use Rattle.rrd_spec.specs.Commands.Verdict.{sample_checks}
use Rattle.rrd_spec.specs.History.{IsHistory, Moment, Sampled, moment_after}
use Rattle.rrd_spec.specs.Laws.Commands.{Passes}
use Rattle.rrd_spec.specs.Limits.{present}

pub readings_rise : (sources : List DsDef) (template : List Name) (now : Moment) (readings : List Sample)
    → AllByRecursion Passes (sample_checks present sources template now.last readings)
    → IsHistory now (map Sampled (map (sample_of sources template) readings))
readings_rise sources template now [] p = tt
readings_rise sources template now (reading ∷ readings) p =
    let next = moment_after now (Sampled (sample_of sources template reading)) in
    (leb-false reading.time now.last p.1.0, readings_rise sources template next readings p.1.1.1.1)
