use Rattle.rrd_file.proofs.Common.{◌++◌, map, flat_map, newest, filed, head_pieces, spelled, OfSource, err_from_is_err_and, breaks_stop, gathers_then, breaks_then}
use Rattle.rrd_file.proofs.write_front.Goals as goal

pub returns-in_err-write_header : goal.returns-in_err-write_header
returns-in_err-write_header g c =
    let p = err_from_is_err_and c.from_residual.result c.from_residual.ensures.1 in
    let f = filed newest c.args.database.now in
    rw p.1 (breaks_stop (spelled (map OfSource f.sources) ++ spelled (flat_map head_pieces f.heads)) c.in_err-write_header.ensures)

pub returns-in_err-write_sources : goal.returns-in_err-write_sources
returns-in_err-write_sources g c =
    let p = err_from_is_err_and c.from_residual-in_err-write_sources.result c.from_residual-in_err-write_sources.ensures.1 in
    let f = filed newest c.args.database.now in
    rw p.1 (breaks_then c.in_ok-write_header.ensures (breaks_stop (spelled (flat_map head_pieces f.heads)) c.in_err-write_sources.ensures))

pub returns : goal.returns
returns g c =
    let f = filed newest c.args.database.now in
    let heads = spelled (flat_map head_pieces f.heads) in
    gathers_then c.write_heads.new.out (spelled (map OfSource f.sources) ++ heads) c.write_heads.result c.in_ok-write_header.ensures (gathers_then c.write_heads.new.out heads c.write_heads.result c.in_ok-write_sources.ensures c.write_heads.ensures)
