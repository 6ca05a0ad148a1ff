use Rattle.rrd_disk.proofs.Common.{◌<◌, ◌≤◌, List, length, sym, ap, subst, rules, ArePut, FailsToWritePage, Moves, Steps, WritesPage, failed, view_of, Did, IsPartPut, Rests, Event, AreTorn, lost_did, page_fails, page_unmade, page_writes, part_any, put_whole, rests_moves, within_page, rests_trans, arith, common_steps}
use Rattle.rrd_disk.proofs.file_bytes.FileBytesBytes.write_page.Goals as goal

pub returns-in_err-length : goal.returns-in_err-length
returns-in_err-length g c = grind (arith, common_steps, failed, page_unmade)

pub returns-in_err-read_to : goal.returns-in_err-read_to
returns-in_err-read_to g c = grind (arith, common_steps, failed, page_unmade, rests_trans)

pub returns-in_err-count : goal.returns-in_err-count
returns-in_err-count g c =
    let bytes = c.args.bytes.now in
    let old = g.D.Disk.events c.args.self.now.disk in
    let first = g.D.Disk.events c.file_length.new.self.disk in
    let mid = g.D.Disk.events c.read_to.new.self.disk in
    let new = g.D.Disk.events c.put_first.new.self.disk in
    let rests : Rests old mid = rests_trans old first mid c.file_length.ensures.rests c.read_to.ensures.rests in
    let same = ap (λ disk. g.D.Disk.events disk) c.take_front-kept.ensures.disk in
    let did : Did (Moves (IsPartPut 0 0 bytes) (AreTorn 0 bytes)) mid new =
    subst (λ (events : List Event). Did (Moves (IsPartPut 0 0 bytes) (AreTorn 0 bytes)) events new) same c.in_err-count.ensures.did in
    failed (λ x. WritesPage bytes) (FailsToWritePage bytes) c.from_residual-in_err-count.result (view_of old) (view_of new) c.from_residual-in_err-count.ensures.0
    (page_fails bytes old new c.requires (rests_moves (IsPartPut 0 0 bytes) (AreTorn 0 bytes) old mid new rests did))

pub returns-then-bytes-count : goal.returns-then-bytes-count
returns-then-bytes-count g c =
    let bytes = c.args.bytes.now in
    let old = g.D.Disk.events c.args.self.now.disk in
    let first = g.D.Disk.events c.file_length.new.self.disk in
    let mid = g.D.Disk.events c.read_to.new.self.disk in
    let new = g.D.Disk.events c.put_first.new.self.disk in
    let count = c.in_ok-count.count in
    let rests : Rests old mid = rests_trans old first mid c.file_length.ensures.rests c.read_to.ensures.rests in
    let same = ap (λ disk. g.D.Disk.events disk) c.take_front-kept.ensures.disk in
    let did : Did (Moves (IsPartPut count 0 bytes) (AreTorn 0 bytes)) mid new =
    subst (λ (events : List Event). Did (Moves (IsPartPut count 0 bytes) (AreTorn 0 bytes)) events new) same c.in_ok-count.ensures.did in
    let some : 0 < length bytes = search rules in
    let all : length bytes ≤ count = search rules in
    page_writes bytes old new (rests_moves (ArePut 0 bytes) (AreTorn 0 bytes) old mid new rests (put_whole 0 bytes count mid new some all did))

pub returns : goal.returns
returns g c =
    let bytes = c.args.bytes.now in
    let old = g.D.Disk.events c.args.self.now.disk in
    let first = g.D.Disk.events c.file_length.new.self.disk in
    let mid = g.D.Disk.events c.read_to.new.self.disk in
    let put = g.D.Disk.events c.put_first.new.self.disk in
    let count = c.in_ok-count.count in
    let rests : Rests old mid = rests_trans old first mid c.file_length.ensures.rests c.read_to.ensures.rests in
    let same = ap (λ disk. g.D.Disk.events disk) c.take_front-kept.ensures.disk in
    let did : Did (Moves (IsPartPut count 0 bytes) (AreTorn 0 bytes)) mid put =
    subst (λ (events : List Event). Did (Moves (IsPartPut count 0 bytes) (AreTorn 0 bytes)) events put) same c.in_ok-count.ensures.did in
    let part : Did (Moves (IsPartPut 0 0 bytes) (AreTorn 0 bytes)) old put = part_any 0 bytes count old put (rests_moves (IsPartPut count 0 bytes) (AreTorn 0 bytes) old mid put rests did) in
    let few : count < length bytes = search rules in
    let Fails : List Event → Type 0 = λ events. Steps (FailsToWritePage bytes) (view_of old) (view_of events) in
    elim c.if-count-gt0.branch [
      | goal.then-count-gt0 w ↦
          let new = g.D.Disk.events w.take_back.new.self.disk in
          let is = ap (λ f. g.D.Disk.events f.disk) w.self-is in
          subst Fails (sym is) (page_fails bytes old new c.requires
          (lost_did (Moves (IsPartPut 0 0 bytes) (AreTorn 0 bytes)) (Moves (IsPartPut 0 0 bytes) (AreTorn 0 bytes)) old put new part
          (c.in_ok-count.ensures.short (within_page (length bytes) c.requires) w.if-count-gt0.true few) w.take_back.ensures.falls w.take_back.ensures.place))
      | goal.else-count-gt0 w ↦
          let is = ap (λ f. g.D.Disk.events f.disk) w.self-is in
          subst Fails (sym is) (page_fails bytes old put c.requires part)
    ]
