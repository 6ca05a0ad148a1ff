use Rattle.rrd_file.proofs.Common.{rules, err_from_is_err_and, all_written, front_written}
use Rattle.rrd_file.proofs.encoded.encode_newest.Goals as goal

pub returns-in_err-write_newest : goal.returns-in_err-write_newest
returns-in_err-write_newest g c =
    let p = err_from_is_err_and c.from_residual.result c.from_residual.ensures.1 in
    rw p.1 (front_written {r = c.write_newest.new.out} _ _ c.new-pieces.ensures.same c.new-pieces.ensures.nothing_waits (search rules) c.in_err-write_newest.ensures)

pub returns : goal.returns
returns g c =
    all_written _ c.write_rest.new.self.out.now _ c.write_rest.result c.new-pieces.ensures.same c.new-pieces.ensures.nothing_waits (search rules) c.in_ok-write_newest.ensures c.write_rest.ensures.written
