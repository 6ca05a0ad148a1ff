use Rattle.rrd_change.proofs.Common.{rules, ◌≡◌, ◌<◌, ◌≤◌, ◌+◌, ◌^◌, ◌++◌, ◌∙◌, ap, ℕ, List, [], ◌∷◌, length, arith, refl, inl, inr, AreAny, ArePut, IsCut, change_bytes, change_size, Torn, AreSpans, change_of, IsDatabase, Fails, Stores, Log, append_stopped, count_fits, fill_next, follows_more, next_made, whole_appended, stores_all, length-change, spans_make, failed, nothing, steps_as, log_left, common_steps}
use Rattle.rrd_change.proofs.log.Log.append.Goals as goal

pub returns-in_err-write_and_sync : goal.returns-in_err-write_and_sync
returns-in_err-write_and_sync g c =
    let new = c.args.new.now in
    let changed = c.args.changed.now in
    let log = c.args.self.now in
    let at = log.end in
    let bytes : List ℕ = c.deref.result.now in
    let is_new : IsDatabase new = c.is_database.ensures.0 (search rules) in
    let are : AreSpans (length new) changed = c.in_ok-push_change.ensures.within in
    let below : length new ≤ log.tail = c.if-self-new.false in
    let same = c.deref.ensures.value in
    let spelled : bytes ≡ change_bytes log.tail at (change_of (length new) new changed) =
    same ∙ c.in_ok-push_change.ensures.ok ∙ ap (λ xs. xs ++ change_bytes log.tail at (change_of (length new) new changed)) c.new-bytes.ensures.items in
    let few : length bytes < 2 ^ 64 = omega (arith, c.deref.ensures.len, c.push_change.new.buffer.ok.0, ap length same, c.in-Some.ensures) in
    failed _ _ c.from_residual-in_err-write_and_sync.result _ _ c.from_residual-in_err-write_and_sync.ensures.0
    (steps_as (Fails (IsCut at bytes) (AreAny at (length bytes))) _ _ _ (λ u v f now is agrees.
    append_stopped is.old now new log.tail at is.changes (change_of (length new) new changed) bytes u v
    (next_made is.old now new is.changes log changed bytes is.follows is_new are below spelled is.world.held.logged.log.fits few) is.follows.leads
    (spans_make changed now new are agrees) is.follows.fill (fill_next is.old now new is.changes log changed is.follows are agrees) is.world f) c.in_err-write_and_sync.ensures)

pub returns : goal.returns
returns g c =
    let new = c.args.new.now in
    let changed = c.args.changed.now in
    let log = c.args.self.now in
    let at = log.end in
    let bytes : List ℕ = c.deref.result.now in
    let change = change_of (length new) new changed in
    let is_new : IsDatabase new = c.is_database.ensures.0 (search rules) in
    let are : AreSpans (length new) changed = c.in_ok-push_change.ensures.within in
    let below : length new ≤ log.tail = c.if-self-new.false in
    let same = c.deref.ensures.value in
    let spelled : bytes ≡ change_bytes log.tail at change =
    same ∙ c.in_ok-push_change.ensures.ok ∙ ap (λ xs. xs ++ change_bytes log.tail at change) c.new-bytes.ensures.items in
    let few : length bytes < 2 ^ 64 = omega (arith, c.deref.ensures.len, c.push_change.new.buffer.ok.0, ap length same, c.in-Some.ensures) in
    let end : c.in-Some.end ≡ log.end + change_size change =
    omega (arith, c.in-Some.ensures, c.push_change.new.buffer.ok.0, ap length same, ap length spelled, length-change log.tail at change) in
    let next : Log = record { tail = log.tail; end = c.in-Some.end; spans = c.extend_from_slice.new.self; changes = c.saturating_add-self.result } in
    steps_as (Stores (ArePut at bytes)) _ _ _ (λ u v s now is agrees.
    record {
      old = is.old;
      changes = is.changes ++ change ∷ [];
      follows = follows_more is.old now new is.changes log next changed is.follows is_new are agrees below refl end (omega (arith, count_fits is.old now is.changes log is.follows, c.in-Some.ensures, c.saturating_add-self.ensures)) c.in_ok-extend_from_slice.ensures.items;
      world = search (rules, stores_all, whole_appended, next_made);
    }) c.in_ok-write_and_sync.ensures

pub write_and_sync-requires-clause-some : goal.write_and_sync-requires-clause-some
write_and_sync-requires-clause-some g c = grind (arith, common_steps, length-change)
