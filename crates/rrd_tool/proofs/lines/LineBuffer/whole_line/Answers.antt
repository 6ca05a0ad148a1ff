use Rattle.rrd_tool.proofs.Common.{ap, refl, Some, kept_text, lost_ended}
use Rattle.rrd_tool.proofs.lines.LineBuffer.whole_line.Goals as goal

pub returns-in-Lost-clause-text : goal.returns-in-Lost-clause-text
returns-in-Lost-clause-text c unfinished h =
    let k = rw c.in-Lost.is at h in
    rw (lost_ended unfinished k) refl

pub returns-in-Plain : goal.returns-in-Plain
returns-in-Plain c = record {
  text = λ unfinished h.
      let k = kept_text c.args.self.now.ending c.args.self.now.bytes.items unfinished c.in-Plain.is h in
      rw (k.0, k.1) (ap Some c.as_slice.ensures.value);
  plain = rw c.as_slice.ensures.value c.args.self.now.plain;
}
