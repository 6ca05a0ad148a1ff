use Rattle.rrd_disk.proofs.Common.{◌≡◌, ◌+◌, max, List, length, option_map, sym, ◌∙◌, ap, subst, rules, ArePut, Moves, IsPartPut, Event, Measures, AreTorn, bytes_after, did_failed, did_put, put_not, guards_kept, measures_longer}
use Rattle.rrd_disk.proofs.file_bytes.FileBytes.put_all.Goals as goal

pub returns-in_err-file_to_change : goal.returns-in_err-file_to_change
returns-in_err-file_to_change g c =
    let at = c.args.at in
    let bytes = c.args.bytes.now in
    let old = g.D.Disk.events c.args.self.now.disk in
    let new = g.D.Disk.events c.forget-known.new.self.disk in
    let same : new ≡ old = ap (λ disk. g.D.Disk.events disk) c.forget-known.ensures.disk in
    did_failed (λ x. Moves (ArePut at bytes) (AreTorn at bytes)) (Moves (IsPartPut 0 at bytes) (AreTorn at bytes)) c.from_residual.result old new c.from_residual.ensures.0 (put_not at bytes old new same)

pub invariant_of-self-2 : goal.invariant_of-self-2
invariant_of-self-2 g c =
    let old = g.D.Disk.events c.args.self.now.disk in
    let mid = g.D.Disk.events c.forget-known.new.self.disk in
    let new = g.D.Disk.events c.put.new.disk in
    let same : mid ≡ old = ap (λ disk. g.D.Disk.events disk) c.forget-known.ensures.disk in
    let ends : c.in-Some.end ≡ c.args.at + length c.args.bytes.now = search rules in
    let known : c.longer-self.result ≡ option_map (λ m. max m c.in-Some.end) c.args.self.now.length =
    c.longer-self.ensures ∙ ap (option_map (λ m. max m c.in-Some.end)) c.forget-known.ensures.known in
    let measured : Measures c.args.self.now.length mid = subst (λ (events : List Event). Measures c.args.self.now.length events) (sym same) c.args.self.now.measured in
    record {
      shown = λ s h. c.forget-known.ensures.front (bytes_after s new);
      measured = measures_longer c.args.self.now.length c.longer-self.result c.args.at c.in-Some.end c.args.bytes.now mid new known ends c.in_ok-put.ensures.did.falls
          measured (did_put c.args.at c.args.bytes.now mid new c.in_ok-put.ensures.did);
      guarded = guards_kept c.forget-known.new.self.file mid new c.in_ok-put.ensures.guard c.forget-known.new.self.guarded;
    }
