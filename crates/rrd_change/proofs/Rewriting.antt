-- Lemmas on bytes that are written again, as programs read them.
use Rattle.rrd_change.proofs.Names.{◌≡◌, ℕ, ◌+◌, ◌-◌, ◌≤◌, List, length, get_or, ap, subst, arith, inl, inr, Result, ext_get_or, AreAt, AreMixed, ArePut, AreRestored, AreWholeOrNot, IsTorn, Does, FailsToRestore, FailsToWriteWhole, Reads, Restores, View, World, WritesWhole, seen, Syncs}

-- ---- the bytes of a file

mixed_same : (read : List ℕ) (from end : ℕ) (b f : List ℕ) → f ≡ b → AreMixed read from end b f
mixed_same read from end b f e = record { len = λ long. ap length e; each = λ long k. inl (ap (λ xs. get_or xs k 0) e) }

pub restored_mixed : (read : List ℕ) (from end : ℕ) (b f : List ℕ) → AreRestored read from end b f → AreMixed read from end b f
restored_mixed read from end b f r = grind arith

part_put : (at count : ℕ) (read bytes b f : List ℕ) → AreAt read at count bytes → ArePut at bytes b f → AreRestored read at (at + count) b f
part_put at count read bytes b f a put =
    let size = a.len in
    record {
      len = λ long. omega (arith, put.len, size, long);
      inside = λ k high low.
          let is : at + (k - at) ≡ k = omega (arith, high) in grind arith;
      outside = λ k far. grind arith;
    }

part_or_not : (at count : ℕ) (read bytes b f : List ℕ) → AreAt read at count bytes → AreWholeOrNot at bytes b f → AreMixed read at (at + count) b f
part_or_not at count read bytes b f a h = grind (arith, mixed_same, restored_mixed, part_put)

part_torn : (at count : ℕ) (read bytes b f : List ℕ) → AreAt read at count bytes → IsTorn at bytes b f → AreMixed read at (at + count) b f
part_torn at count read bytes b f a t =
    let to : at + count ≤ length b → AreMixed read at (at + count) b f = λ long. part_or_not at count read bytes b f a (t.whole (omega (arith, long, a.len))) in
    grind arith

-- the file that programs read has them already
part_held : (at count : ℕ) (read bytes f : List ℕ) → AreAt read at count bytes → AreWholeOrNot at bytes read f → f ≡ read
part_held at count read bytes f a (inl e) = e
part_held at count read bytes f a (inr put) =
    let r = part_put at count read bytes read f a put in
    ext_get_or 0 f read (r.len a.within) (λ k few. grind arith)

-- ---- the file and the disk

pub part_restores : (at count : ℕ) (bytes : List ℕ) (u v w : World) → Reads at count bytes u v → WritesWhole at bytes v w → Restores at (at + count) u w
part_restores at count bytes u v w (s, a) m =
    record {
      held = part_held at count u.held bytes w.held a (inr (subst (λ (xs : List ℕ). ArePut at bytes xs w.held) s.held m.held));
      leave = λ z left. let h = m.leave z left in (h.0, s.leave h.0 h.1, part_torn at count u.held bytes h.0 z a h.2);
      keep = λ z kept. let h = m.keep z kept in (h.0, s.keep h.0 h.1, part_put at count u.held bytes h.0 z a h.2);
    }

pub part_failed : (at count : ℕ) (bytes : List ℕ) (u v w : World) → Reads at count bytes u v → FailsToWriteWhole at bytes v w → FailsToRestore at (at + count) u w
part_failed at count bytes u v w (s, a) m =
    record {
      held = part_held at count u.held bytes w.held a (subst (λ (xs : List ℕ). AreWholeOrNot at bytes xs w.held) s.held m.held);
      leave = λ z left. let h = m.leave z left in (h.0, s.leave h.0 h.1, part_torn at count u.held bytes h.0 z a h.2);
      keep = λ z kept. let h = m.keep z kept in (h.0, inl (s.keep h.0 h.1), part_or_not at count u.held bytes h.0 z a h.2);
    }

pub restores_failed : (from mid end last : ℕ) (u v w : World) → from ≤ mid → mid ≤ end → end ≤ last → Restores from mid u v → FailsToRestore mid end v w → FailsToRestore from last u w
restores_failed from mid end last u v w low high few m n = grind arith

-- ---- syncs

pub seen_restored : {X E : Type 0} (syncs : Syncs) (from end : ℕ) (r : Result X E) (old new : View) → Does (λ x. Restores from end) (FailsToRestore from end) r old new →
    Does (λ x. Restores from end) (FailsToRestore from end) r (seen syncs old) (seen syncs new)
seen_restored syncs from end r old new s = grind arith
