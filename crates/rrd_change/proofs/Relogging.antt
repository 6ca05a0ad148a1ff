-- Lemmas on a log whose bytes and mark are written again.
use Rattle.rrd_change.proofs.Names.{◌≡◌, ◌⊎◌, ℕ, ◌+◌, ◌-◌, ◌<◌, ◌≤◌, List, [], ◌∷◌, ◌++◌, length, get_or, refl, sym, ◌∙◌, ap, subst, arith, inl, inr, cases_lt, append-nil, ext_get_or, SameIn, StandsAt, AreMixed, ArePut, AreRestored, AreWholeOrNot, IsSized, IsSizedOrNot, IsTorn, Change, change_size, AreSaid, IsChain, IsLogged, chain_end, first_of, IsLogHeld, IsOnDisk, IsTornLog, IsUnlogged, LogEnd, log_mark, IsOpen, All, Fails, FailsToRestore, Stores, StoresAgain, World, common_steps}
use Rattle.rrd_change.proofs.Holding.{fails_disk, unless}
use Rattle.rrd_change.proofs.Appending.{end_more}
use Rattle.rrd_change.proofs.Chains.{chain_count, chain_stays}
use Rattle.rrd_change.proofs.Laying.{said_before}
use Rattle.rrd_change.proofs.Logs.{logged_sized}
use Rattle.rrd_change.proofs.Marking.{put_behind}
use Rattle.rrd_change.proofs.Reading.{change_stands, length-change, past_read}
use Rattle.rrd_change.proofs.Rewriting.{restored_mixed}

-- ---- the bytes of a log

-- two files with the same changes from an offset on have the same bytes there
chain_same : (tail : ℕ) (x y : List ℕ) (at : ℕ) (cs ds : List Change) → IsChain tail x at cs → IsChain tail y at (cs ++ ds) → (k : ℕ) → at ≤ k → k < chain_end at cs →
    get_or y k 0 ≡ get_or x k 0
chain_same tail x y at [] ds h j k high low = absurd (omega (arith, high, low))
chain_same tail x y at (c ∷ cs) ds h j k high low =
    let s = change_stands tail at c x h.0 in
    let t = change_stands tail at c y j.0 in
    let size = length-change tail at c in
    elim (cases_lt k (at + change_size c)) [
      | inl here ↦
          let is : at + (k - at) ≡ k = omega (arith, high) in grind arith
      | inr later ↦ chain_same tail x y (at + change_size c) cs ds h.1 j.1 k later low
    ]

log_same : (old : List ℕ) (tail : ℕ) (cs ds : List Change) (x y : List ℕ) → IsLogged old tail cs x → IsLogged old tail (cs ++ ds) y → (k : ℕ) → tail ≤ k →
    k < chain_end tail (first_of old ∷ cs) → get_or y k 0 ≡ get_or x k 0
log_same old tail cs ds x y h j = chain_same tail x y tail (first_of old ∷ cs) ds h.log.chain j.log.chain

pub old_below : (old : List ℕ) (tail : ℕ) (cs : List Change) (x : List ℕ) → IsLogged old tail cs x → length old ≤ tail
old_below old tail cs x h = (change_stands tail tail (first_of old) x h.log.chain.0).1.below

-- a file that has the bytes of a log, and its mark
relogged : (old : List ℕ) (tail : ℕ) (cs : List Change) (h f : List ℕ) → IsLogged old tail cs h → length f ≡ chain_end tail (first_of old ∷ cs) →
    SameIn tail (chain_end tail (first_of old ∷ cs)) h f → StandsAt f 0 (log_mark tail) → ((k : ℕ) → 16 ≤ k → k < length old → (get_or f k 0 ≡ get_or old k 0) ⊎ AreSaid cs k) →
    IsOpen old tail cs f
relogged old tail cs h f is len same marked kept =
    let all = first_of old ∷ cs in
    record {
      logged = record {
        log = record {
          fits = is.log.fits;
          room = is.log.room;
          marked = marked;
          begun = omega (arith, len, chain_count tail all);
          chain = chain_stays tail h f tail all is.log.chain same (omega (arith, len)) (past_read tail (chain_end tail all) f (omega (arith, len)));
        };
        kept = kept;
      };
      ends = len;
    }

-- ---- what the disk may have

unlogged_front : (other now old : List ℕ) (tail : ℕ) (cs : List Change) (b f : List ℕ) → IsUnlogged other now old tail cs b → length old ≤ tail → tail ≤ length f → SameIn 0 tail b f →
    IsUnlogged other now old tail cs f
unlogged_front other now old tail cs b f u below long same = grind arith

-- the log has the sure changes, and perhaps one more
sure_all : (other old : List ℕ) (tail : ℕ) (cs : List Change) (f : List ℕ) (t : IsTornLog other old tail cs f) →
    (ds : List Change) × (cs ≡ t.sure ++ ds) × (chain_end tail (first_of old ∷ t.sure) ≤ chain_end tail (first_of old ∷ cs))
sure_all other old tail cs f t = grind (arith, append-nil, end_more)

torn_front : (other old : List ℕ) (tail : ℕ) (cs : List Change) (b f : List ℕ) (t : IsTornLog other old tail cs b) → chain_end tail (first_of old ∷ t.sure) ≤ length f →
    SameIn 0 (chain_end tail (first_of old ∷ t.sure)) t.whole f → IsTornLog other old tail cs f
torn_front other old tail cs b f t long same = record { sure = t.sure; whole = t.whole; logged = t.logged; same = same; reaches = long; last = t.last }

torn_kept : (other old : List ℕ) (tail : ℕ) (cs : List Change) (f : List ℕ) → IsTornLog other old tail cs f → (k : ℕ) → 16 ≤ k → k < length old →
    (get_or f k 0 ≡ get_or old k 0) ⊎ AreSaid cs k
torn_kept other old tail cs f t k high low =
    let below = old_below old tail t.sure t.whole t.logged in
    let count = chain_count tail (first_of old ∷ t.sure) in
    elim (t.logged.kept k high low) [
      | inl is ↦ inl (t.same k (omega arith) (omega (arith, low, below, count)) ∙ is)
      | inr said ↦ grind (arith, said_before)
    ]

-- some bytes of the log are those that programs read
mixed_front : (h : List ℕ) (tail n : ℕ) (b f : List ℕ) → AreMixed h tail n b f → n ≤ length b → SameIn 0 tail b f
mixed_front h tail n b f m long k high low = grind arith

-- the file that programs read, and the one on the disk, end where the log ends
pub record IsLogCut (end : LogEnd) (other now old : List ℕ) (tail : ℕ) (cs : List Change) (w : World) : Type 0 where
  pub held : IsOpen old tail cs w.held
  pub leave : (c : List ℕ) → w.may_leave c → IsOnDisk end other now old tail cs c × (length c ≡ chain_end tail (first_of old ∷ cs))
  pub keep : (c : List ℕ) → w.may_keep c → IsOnDisk end other now old tail cs c × (length c ≡ chain_end tail (first_of old ∷ cs))

-- the disk has the bytes of the log, too
pub record IsLogAgain (end : LogEnd) (other now old : List ℕ) (tail : ℕ) (cs : List Change) (w : World) : Type 0 where
  pub cut : IsLogCut end other now old tail cs w
  pub leave : (c : List ℕ) → w.may_leave c → SameIn tail (chain_end tail (first_of old ∷ cs)) w.held c
  pub keep : (c : List ℕ) → w.may_keep c → SameIn tail (chain_end tail (first_of old ∷ cs)) w.held c

module _ (end : LogEnd) (other now old : List ℕ) (tail : ℕ) (cs : List Change) where
  disk_kept : (f : List ℕ) → IsOnDisk end other now old tail cs f → (k : ℕ) → 16 ≤ k → k < length old → (get_or f k 0 ≡ get_or old k 0) ⊎ AreSaid cs k
  disk_kept f (inl h) k high low = h.kept k high low
  disk_kept f (inr (inl u)) k high low = u.kept k high low
  disk_kept f (inr (inr (may, t))) k high low = torn_kept other old tail cs f t k high low

  -- the file ends where the log ends
  disk_sized : (h b f : List ℕ) → IsLogged old tail cs h → IsOnDisk end other now old tail cs b → IsSized (chain_end tail (first_of old ∷ cs)) b f → IsOnDisk end other now old tail cs f
  disk_sized h b f is (inl logged) s = inl (logged_sized old tail cs b f logged s)
  disk_sized h b f is (inr (inl u)) s = grind (arith, common_steps, chain_count tail (first_of old ∷ cs), unlogged_front other now old tail cs b f u (old_below old tail cs h is), old_below old tail cs h is)
  disk_sized h b f is (inr (inr (may, t))) s = grind (arith, common_steps, sure_all other old tail cs b t, torn_front other old tail cs b f t)

  disk_mixed : (h b f : List ℕ) → IsLogged old tail cs h → IsOnDisk end other now old tail cs b →
      length b ≡ chain_end tail (first_of old ∷ cs) → AreMixed h tail (chain_end tail (first_of old ∷ cs)) b f → IsOnDisk end other now old tail cs f
  disk_mixed h b f is (inl logged) len m = grind (arith, common_steps, ext_get_or 0 f b, log_same old tail cs, append-nil cs)
  disk_mixed h b f is (inr (inl u)) len m = grind (arith, common_steps, unlogged_front other now old tail cs b f u (old_below old tail cs h is), old_below old tail cs h is, chain_count tail (first_of old ∷ cs), mixed_front h tail)
  disk_mixed h b f is (inr (inr (may, t))) len m = grind (arith, common_steps, sure_all other old tail cs b t, torn_front other old tail cs b f t, log_same old tail t.sure)

  disk_open : (h b f : List ℕ) → IsLogged old tail cs h → IsOnDisk end other now old tail cs b →
      length b ≡ chain_end tail (first_of old ∷ cs) → SameIn tail (chain_end tail (first_of old ∷ cs)) h b → ArePut 0 (log_mark tail) b f → IsOpen old tail cs f
  disk_open h b f is d len same put =
      let count = chain_count tail (first_of old ∷ cs) in
      let room = is.log.room in
      relogged old tail cs h f is (omega (arith, put.len, len, count, room)) (λ k high low. put_behind (log_mark tail) b f k put (omega (arith, high, room)) ∙ same k high low)
      (record { within = omega (arith, put.len); each = put.inside }) (λ k high low. elim (disk_kept b d k high low) [
        | inl stays ↦ inl (put_behind (log_mark tail) b f k put high ∙ stays)
        | inr said ↦ inr said
      ])

  -- ---- the length

  pub cut_stored : (u v : World) → Stores (IsSized (chain_end tail (first_of old ∷ cs))) u v → IsLogHeld end other now old tail cs u → IsLogCut end other now old tail cs v
  cut_stored u v s a = record {
    held = record { logged = logged_sized old tail cs u.held v.held a.held s.held; ends = s.held.len };
    leave = λ z left. let was = s.leave z left in (disk_sized u.held was.0 z a.held (a.keep was.0 was.1) was.2, was.2.len);
    keep = λ z kept. let was = s.keep z kept in (disk_sized u.held was.0 z a.held (a.keep was.0 was.1) was.2, was.2.len);
  }

  pub cut_failed : (u v : World) →
      Fails (IsSizedOrNot (chain_end tail (first_of old ∷ cs))) (IsSizedOrNot (chain_end tail (first_of old ∷ cs))) u v →
      IsLogHeld end other now old tail cs u → IsLogHeld end other now old tail cs v
  cut_failed u v f a =
      let n = chain_end tail (first_of old ∷ cs) in
      let D : List ℕ → Type 0 = IsOnDisk end other now old tail cs in
      let to : (b z : List ℕ) → D b → IsSizedOrNot n b z → D z = λ b z d. unless D (IsSized n b z) b z d (disk_sized u.held b z a.held d) in
      let disk = fails_disk D D (IsSizedOrNot n) (IsSizedOrNot n) u v to to f a.leave a.keep in
      record { held = unless (IsLogged old tail cs) (IsSized n u.held v.held) u.held v.held a.held (logged_sized old tail cs u.held v.held a.held) f.held; leave = disk.0; keep = disk.1 }

  -- ---- the bytes

  pub again_stored : (u v : World) → StoresAgain tail (chain_end tail (first_of old ∷ cs)) u v → IsLogCut end other now old tail cs u → IsLogAgain end other now old tail cs v
  again_stored u v s a =
      let n = chain_end tail (first_of old ∷ cs) in
      let to : (b z : List ℕ) → u.may_keep b → AreRestored u.held tail n b z → IsOnDisk end other now old tail cs z × (length z ≡ n) = λ b z kept r.
      let was = a.keep b kept in (
        disk_mixed u.held b z a.held.logged was.0 was.1 (restored_mixed u.held tail n b z r),
        r.len (omega (arith, was.1)) ∙ was.1,
      ) in
      let same : (b z : List ℕ) → AreRestored u.held tail n b z → SameIn tail n v.held z = λ b z r k high low. r.inside k high low ∙ ap (λ xs. get_or xs k 0) (sym s.held) in
      record {
        cut = record {
          held = subst (IsOpen old tail cs) (sym s.held) a.held;
          leave = λ z left. let h = s.leave z left in to h.0 z h.1 h.2;
          keep = λ z kept. let h = s.keep z kept in to h.0 z h.1 h.2;
        };
        leave = λ z left. let h = s.leave z left in same h.0 z h.2;
        keep = λ z kept. let h = s.keep z kept in same h.0 z h.2;
      }

  pub again_failed : (u v : World) → FailsToRestore tail (chain_end tail (first_of old ∷ cs)) u v → IsLogCut end other now old tail cs u → IsLogHeld end other now old tail cs v
  again_failed u v f a =
      let n = chain_end tail (first_of old ∷ cs) in
      let to : (b z : List ℕ) → IsOnDisk end other now old tail cs b × (length b ≡ n) → AreMixed u.held tail n b z → IsOnDisk end other now old tail cs z =
      λ b z was m. disk_mixed u.held b z a.held.logged was.0 was.1 m in
      record {
        held = subst (IsLogged old tail cs) (sym f.held) a.held.logged;
        leave = λ z left. let h = f.leave z left in to h.0 z (a.leave h.0 h.1) h.2;
        keep = λ z kept.
            let h = f.keep z kept in
            elim h.1 [
              | inl was ↦ to h.0 z (a.keep h.0 was) h.2
              | inr left ↦ to h.0 z (a.leave h.0 left) h.2
            ];
      }

  -- ---- the mark

  pub mark_stored : (u v : World) → Stores (ArePut 0 (log_mark tail)) u v → IsLogAgain end other now old tail cs u → All (IsOpen old tail cs) v
  mark_stored u v s a =
      let to = disk_open u.held in
      let is = a.cut.held.logged in
      record {
        held = to u.held v.held is (inl is) a.cut.held.ends (λ k high low. refl) s.held;
        leave = λ z left. let h = s.leave z left in let was = a.cut.keep h.0 h.1 in to h.0 z is was.0 was.1 (a.keep h.0 h.1) h.2;
        keep = λ z kept. let h = s.keep z kept in let was = a.cut.keep h.0 h.1 in to h.0 z is was.0 was.1 (a.keep h.0 h.1) h.2;
      }

  pub mark_failed : (u v : World) → Fails (AreWholeOrNot 0 (log_mark tail)) (IsTorn 0 (log_mark tail)) u v → IsLogAgain end other now old tail cs u → IsLogHeld end other now old tail cs v
  mark_failed u v f a =
      let n = chain_end tail (first_of old ∷ cs) in
      let is = a.cut.held.logged in
      let on_disk = IsOnDisk end other now old tail cs in
      let D : List ℕ → Type 0 = λ b. on_disk b × (length b ≡ n) × SameIn tail n u.held b in
      let put : (b z : List ℕ) → D b → AreWholeOrNot 0 (log_mark tail) b z → on_disk z = λ b z d.
      unless on_disk (ArePut 0 (log_mark tail) b z) b z d.0 (λ p. inl (disk_open u.held b z is d.0 d.1 d.2 p).logged) in
      let disk = fails_disk D on_disk (AreWholeOrNot 0 (log_mark tail)) (IsTorn 0 (log_mark tail)) u v put
      (λ b z d t. put b z d (t.whole (omega (arith, d.1, chain_count tail (first_of old ∷ cs), is.log.room)))) f
      (λ b left. let was = a.cut.leave b left in (was.0, was.1, a.leave b left)) (λ b kept. let was = a.cut.keep b kept in (was.0, was.1, a.keep b kept)) in
      record {
        held = unless (IsLogged old tail cs) (ArePut 0 (log_mark tail) u.held v.held) u.held v.held is
            (λ p. (disk_open u.held u.held v.held is (inl is) a.cut.held.ends (λ k high low. refl) p).logged) f.held;
        leave = disk.0;
        keep = disk.1;
      }
