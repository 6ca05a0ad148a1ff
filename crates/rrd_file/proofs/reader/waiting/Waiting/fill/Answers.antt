use Rattle.rrd_file.proofs.Common.{◌-◌, ◌∙◌, grown, waited}
use Rattle.rrd_file.proofs.reader.waiting.Waiting.fill.Goals as goal

pub returns-clause-keeps : goal.returns-clause-keeps
returns-clause-keeps g c =
    let w = c.self.inside in
    let still = c.in_ok-count.ensures.front ∙ c.move_to_front.ensures.front ∙ c.self.view_is in
    waited _ _ c.args.self.now _ _ c.in_ok-count.ensures.came (grown c.read_behind.new.bytes.items c.args.self.now (w.end - w.from) c.in_ok-count.count still)
