use Rattle.rrd_file.proofs.Common.{◌≡◌, ◌∙◌, ◌+◌, ◌<◌, ◌++◌, ◌∷◌, [], List, sym, ap, take, drop, length, subst, rules, flat_map, err_from_is_err_and, SavedArchive, outline_left, MaySaveEach, saved_pieces, Piece, DueInEntry, archive_due, Comes, there, more_flat, next_archive, saves_more}
use Rattle.rrd_file.proofs.journal.update.read_all_saved.Goals as goal

pub returns-in_err-old-clause-brings : goal.returns-in_err-old-clause-brings
returns-in_err-old-clause-brings g c = λ bytes pieces later st.
    let p = err_from_is_err_and c.from_residual-in_err-old.result c.from_residual-in_err-old.ensures.1 in
    let now = outline_left c.args.build.now in
    let i = c.loop-archive.archive in
    let more : i < length now.archives = search rules in
    let found = there now.archives i more in
    rw (p.1, p.2) (c.in_err-old.ensures.brings bytes (pieces ++ flat_map saved_pieces c.loop-archive.olds.items) (flat_map (archive_due c.args.build.now.header.step now c.args.last) (drop (i + 1) now.archives) ++ later) found.0 found.1
    (subst (λ (l : List DueInEntry). Comes bytes c.args.build.now (pieces ++ flat_map saved_pieces c.loop-archive.olds.items) l c.loop-archive.input) (next_archive (archive_due c.args.build.now.header.step now c.args.last) now.archives i found.0 later found.1) (c.loop-archive.invariant.1 bytes pieces later st)))

pub loop-archive-preserved : goal.loop-archive-preserved
loop-archive-preserved g c =
    let now = outline_left c.args.build.now in
    let i = c.loop-archive.archive in
    let more : i < length now.archives = search rules in
    let found = there now.archives i more in
    let olds = c.loop-archive.olds.items in
    let old = c.in_ok-old.old in
    let step = c.args.build.now.header.step in
    let items : c.push.new.self.items ≡ olds ++ old ∷ [] = search rules in (
      subst (MaySaveEach step c.args.last now.last (length now.sources) (take (i + 1) now.archives)) (sym items) (saves_more step c.args.last now.last (length now.sources) now.archives i found.0 olds old found.1 c.loop-archive.invariant.0 (c.in_ok-old.ensures.checked found.0 found.1)),
      λ bytes pieces later st.
          subst (λ (l : List Piece). Comes bytes c.args.build.now l (flat_map (archive_due c.args.build.now.header.step now c.args.last) (drop (i + 1) now.archives) ++ later) c.read_saved.new.input) (more_flat saved_pieces pieces olds old ∙ ap (λ (l : List SavedArchive). pieces ++ flat_map saved_pieces l) (sym items))
          (c.in_ok-old.ensures.brings bytes (pieces ++ flat_map saved_pieces olds) (flat_map (archive_due c.args.build.now.header.step now c.args.last) (drop (i + 1) now.archives) ++ later) found.0 found.1
          (subst (λ (l : List DueInEntry). Comes bytes c.args.build.now (pieces ++ flat_map saved_pieces olds) l c.loop-archive.input) (next_archive (archive_due c.args.build.now.header.step now c.args.last) now.archives i found.0 later found.1) (c.loop-archive.invariant.1 bytes pieces later st))),
    )
