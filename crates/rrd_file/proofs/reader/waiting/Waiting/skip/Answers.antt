use Rattle.rrd_file.proofs.Common.{◌∙◌, ◌+◌, ◌≤◌, ap, drop, skipped, within_range}
use Rattle.rrd_file.proofs.reader.waiting.Waiting.skip.Goals as goal

pub returns : goal.returns
returns c =
    let w = c.self.inside in
    let within : w.from + c.args.size ≤ w.end = within_range w.bytes.items c.args.self.now w.from w.end c.args.size c.self.invariant c.self.view_is c.requires in
    skipped w.bytes.items w.from w.end c.args.size within ∙ ap (drop c.args.size) c.self.view_is
