-- Lemmas on what is left of a file when a change stops.
use Rattle.rrd_change.proofs.Names.{◌≡◌, ◌⊎◌, ℕ, ◌<◌, ◌≤◌, List, [], ◌∷◌, ◌++◌, length, take, get_or, sym, ◌∙◌, ap, subst, arith, inl, inr, length_push, length-take, StandsAt, ArePut, AreWholeOrNot, IsTorn, Change, changes_in, AreSaid, ChangesTell, Fill, IsLogged, IsUnderCut, Leads, first_of, IsCutLeft, IsLeft, IsLogLeft, IsLoose, IsOnDisk, IsStopped, IsTornLog, IsUnlogged, LogEnd, Whole, log_mark, Follows, IsBroken, IsDatabase, IsLogOf, IsMarked, IsOpen, IsPlain, Represents, RepresentsEither, Tells, cut_of, All, World, Log, Fails, Option, IsKept, Some, None, common_steps}
use Rattle.rrd_change.proofs.Appending.{first_of_more, logged_all}
use Rattle.rrd_change.proofs.Beginning.{IsReadyOrOpen}
use Rattle.rrd_change.proofs.Chains.{chain_count}
use Rattle.rrd_change.proofs.Holding.{all_as, held_all, held_left, marks_all}
use Rattle.rrd_change.proofs.Logs.{log_read, torn_counts}
use Rattle.rrd_change.proofs.Loose.{plain_uncut, under_loose, under_uncut}
use Rattle.rrd_change.proofs.Marking.{cut_under, plain_represents, put_behind}
use Rattle.rrd_change.proofs.Settling.{IsPlaced, cut_front_of, cut_placed, length-front, reach_placed}

-- ---- a database, or one under a cut mark

loose_left : (other now : List ℕ) (w : World) → IsDatabase now → IsUnderCut now w.held → ((c : List ℕ) → w.may_leave c → IsLoose other now c) → ((c : List ℕ) → w.may_keep c → IsLoose other now c) →
    IsCutLeft other now w
loose_left other now w is under leave keep = record { under = under; uncut = record { is = is; held = inr under; leave = leave; keep = keep } }

pub under_left : (other now : List ℕ) (w : World) → IsDatabase now → All (IsUnderCut now) w → IsCutLeft other now w
under_left other now w is a = record { under = a.held; uncut = under_uncut other now w is a }

pub marked_left : (other now : List ℕ) (w : World) → IsMarked now w → IsCutLeft other now w
marked_left other now w m = under_left other now w m.is (all_as (λ f. f ≡ cut_of now) (IsUnderCut now) w (λ f e. cut_under now f m.is e) m.world)

pub plain_left : (end : LogEnd) (other now : List ℕ) (w : World) → IsDatabase now → All (IsPlain now) w → IsLeft end other now w
plain_left end other now w is a = grind (arith, common_steps, cut_under now w.held is, plain_uncut other now w is a)

-- ---- a log

pub open_left : (end : LogEnd) (other now old : List ℕ) (tail : ℕ) (cs : List Change) (w : World) → Leads old cs now → Fill (length old) cs → All (IsOpen old tail cs) w →
    IsLogLeft end other now w
open_left end other now old tail cs w leads fill a = grind arith

pub log_left : (end : LogEnd) (other now : List ℕ) (log : Log) (w : World) → IsLogOf now log w → IsLogLeft end other now w
log_left end other now log w h = open_left end other now h.old log.tail h.changes w h.follows.leads h.follows.fill h.world

pub kept_left : (end : LogEnd) (other now : List ℕ) (log : Option Log) (w : World) → IsKept now log w → IsLeft end other now w
kept_left end other now None w m = inr (inl (marked_left other now w m))
kept_left end other now (Some log) w h = inr (inr (log_left end other now log w h))

-- ---- the first change of a log

begun_on_disk : (end : LogEnd) (old new : List ℕ) (tail : ℕ) (cs : List Change) (f : List ℕ) → IsReadyOrOpen old tail cs f → IsOnDisk end old new old tail cs f
begun_on_disk end old new tail cs f h = grind arith

begun_loose : (old new : List ℕ) (tail : ℕ) (cs : List Change) (f : List ℕ) → Leads old cs new → Fill (length old) cs → length old ≤ tail → IsReadyOrOpen old tail cs f → IsLoose new old f
begun_loose old new tail cs f leads fill below (inl ready) = under_loose new old f ready.prepared.under
begun_loose old new tail cs f leads fill below (inr (is, placed)) = grind arith

-- the log mark was written, or was not
pub begun_stopped : (end : LogEnd) (old new : List ℕ) (tail : ℕ) (cs : List Change) (w : World) → IsDatabase old → length old ≤ tail → Leads old cs new → Fill (length old) cs →
    All (IsReadyOrOpen old tail cs) w → IsStopped end old new w
begun_stopped end old new tail cs w is below leads fill a = elim a.held [
  | inl ready ↦ inl (inr (inl (loose_left new old w is ready.prepared.under (λ c left. begun_loose old new tail cs c leads fill below (a.leave c left)) (λ c kept. begun_loose old new tail cs c leads fill below (a.keep c kept)))))
  | inr (is_open, placed) ↦ inr (inr (inr (held_left end old new old tail cs w leads fill (record {
    held = is_open.logged;
    leave = λ c left. begun_on_disk end old new tail cs c (a.leave c left);
    keep = λ c kept. begun_on_disk end old new tail cs c (a.keep c kept);
  }))))
]

-- ---- bringing into place

-- a file that had a log whose changes were in place, and has the first bytes with a cut mark now
pub record IsCutPlaced (old now : List ℕ) (cs : List Change) (f : List ℕ) : Type 0 where
  pub under : IsUnderCut now f
  pub reaches : length old ≤ length f
  pub kept : (k : ℕ) → 16 ≤ k → k < length old → (get_or f k 0 ≡ get_or old k 0) ⊎ AreSaid cs k

abbrev pub IsPlacedOrCut : List ℕ → List ℕ → List Change → Log → List ℕ → Type 0
IsPlacedOrCut old now cs log f = IsPlaced old now cs log f ⊎ IsCutPlaced old now cs f

front_put : (old now : List ℕ) (cs : List Change) (log : Log) (x f : List ℕ) → Follows old now cs log → length old ≤ log.tail → IsPlaced old now cs log x → ArePut 0 (cut_front_of now) x f →
    IsCutPlaced old now cs f
front_put old now cs log x f follows below p put = grind (arith, length-front now follows.is.enough, cut_placed now x f follows.is (reach_placed old now cs log x follows p) p.placed put, reach_placed old now cs log x follows p, put_behind)

pub placed_marked : (old now : List ℕ) (cs : List Change) (log : Log) (u v : World) → Follows old now cs log → length old ≤ log.tail →
    Fails (AreWholeOrNot 0 (cut_front_of now)) (IsTorn 0 (cut_front_of now)) u v → All (IsPlaced old now cs log) u → All (IsPlacedOrCut old now cs log) v
placed_marked old now cs log u v follows below f a = grind (arith, common_steps, marks_all, length-front, front_put)

placed_on_disk : (end : LogEnd) (other old now : List ℕ) (cs : List Change) (log : Log) (f : List ℕ) → Follows old now cs log → IsPlacedOrCut old now cs log f → IsOnDisk end other now old log.tail cs f
placed_on_disk end other old now cs log f follows h = grind arith

placed_loose : (other old now : List ℕ) (cs : List Change) (log : Log) (f : List ℕ) → Follows old now cs log → IsPlacedOrCut old now cs log f → IsLoose other now f
placed_loose other old now cs log f follows (inl p) = grind arith
placed_loose other old now cs log f follows (inr c) = under_loose other now f c.under

-- the first bytes were written, or were not
pub front_left : (end : LogEnd) (other old now : List ℕ) (cs : List Change) (log : Log) (w : World) → Follows old now cs log → All (IsPlacedOrCut old now cs log) w → IsLeft end other now w
front_left end other old now cs log w follows a = elim a.held [
  | inl p ↦ inr (inr (held_left end other now old log.tail cs w follows.leads follows.fill (record {
    held = p.is.logged;
    leave = λ c left. placed_on_disk end other old now cs log c follows (a.leave c left);
    keep = λ c kept. placed_on_disk end other old now cs log c follows (a.keep c kept);
  })))
  | inr cut ↦ inr (inl (loose_left other now w follows.is cut.under (λ c left. placed_loose other old now cs log c follows (a.leave c left)) (λ c kept. placed_loose other old now cs log c follows (a.keep c kept))))
]

-- ---- what is left stands for one of the two databases

pub left_held : (end : LogEnd) (other now : List ℕ) (w : World) → IsLeft end other now w → Represents now w.held
left_held end other now w (inl rest) = inl rest.world.held
left_held end other now w (inr (inl c)) = inr (inl c.under)
left_held end other now w (inr (inr l)) = inr (inr (record { old = l.old; tail = l.tail; changes = l.changes; logged = l.world.held; leads = l.leads; fill = l.fill }))

unlogged_either : (other now old : List ℕ) (tail : ℕ) (cs : List Change) (f : List ℕ) → IsUnlogged other now old tail cs f → RepresentsEither other now f
unlogged_either other now old tail cs f u = grind arith

-- any bytes behind a log are no changes of it that it has not
torn_either : (other now old : List ℕ) (tail : ℕ) (cs : List Change) (h f : List ℕ) → Leads old cs now → Fill (length old) cs → IsLogged old tail cs h → IsTornLog other old tail cs f →
    Tells h f → RepresentsEither other now f
torn_either other now old tail cs h f leads fill held t tells =
    let all = first_of old ∷ t.sure in
    let log = t.logged.log in
    let count = chain_count tail all in
    let marked : StandsAt f 0 (log_mark tail) = grind arith in
    let told = tells tail (log_read tail f log.fits marked) in
    let read : changes_in tail f ≡ take told.0 (first_of old ∷ cs) = told.1 ∙ ap (λ xs. take told.0 xs) (logged_all old tail cs h held) in
    let P : List Change → Type 0 = λ xs. IsLogged old tail xs f in
    elim t.last [
      | inl e ↦
          let d = first_of old in
          let same : changes_in tail f ≡ take told.0 all = read ∙ ap (λ xs. take told.0 (first_of old ∷ xs)) e in
          let more = first_of_more all d told.0 in
          let tell : ChangesTell tail (all ++ d ∷ []) f = (more.0, same ∙ more.1) in
          elim (torn_counts old tail t.sure d t.whole f t.logged t.same t.reaches tell) [
            | inl is ↦ inr (inr (inr (record { old = old; tail = tail; changes = cs; logged = subst P (sym e) is; leads = leads; fill = fill })))
            | inr one ↦ absurd (omega (arith, ap length (sym (logged_all old tail (t.sure ++ d ∷ []) f one) ∙ same), length_push t.sure d, length-take told.0 all))
          ]
      | inr (c, e, is_led, filled) ↦
          let tell : ChangesTell tail (all ++ c ∷ []) f = (told.0, read ∙ ap (λ xs. take told.0 (first_of old ∷ xs)) e) in
          grind (arith, torn_counts old tail t.sure c t.whole f t.logged t.same t.reaches tell)
    ]

disk_either : (other now old : List ℕ) (tail : ℕ) (cs : List Change) (f : List ℕ) → Leads old cs now → Fill (length old) cs → IsOnDisk Whole other now old tail cs f → RepresentsEither other now f
disk_either other now old tail cs f leads fill (inl h) = inr (inr (inr (record { old = old; tail = tail; changes = cs; logged = h; leads = leads; fill = fill })))
disk_either other now old tail cs f leads fill (inr (inl u)) = unlogged_either other now old tail cs f u
disk_either other now old tail cs f leads fill (inr (inr (may, t))) = absurd may

disk_told : (end : LogEnd) (other now old : List ℕ) (tail : ℕ) (cs : List Change) (h f : List ℕ) → Leads old cs now → Fill (length old) cs → IsLogged old tail cs h →
    IsOnDisk end other now old tail cs f → Tells h f → RepresentsEither other now f
disk_told end other now old tail cs h f leads fill held (inl is) tells = inr (inr (inr (record { old = old; tail = tail; changes = cs; logged = is; leads = leads; fill = fill })))
disk_told end other now old tail cs h f leads fill held (inr (inl u)) tells = unlogged_either other now old tail cs f u
disk_told end other now old tail cs h f leads fill held (inr (inr (may, t))) tells = torn_either other now old tail cs h f leads fill held t tells

pub left_either : (other now : List ℕ) (w : World) → IsLeft Whole other now w → All (RepresentsEither other now) w
left_either other now w (inl rest) = grind (arith, common_steps, all_as, plain_represents, held_all)
left_either other now w (inr (inl c)) = record { held = inr (inr (inl c.under)); leave = λ f left. (c.uncut.leave f left).stands; keep = λ f kept. (c.uncut.keep f kept).stands }
left_either other now w (inr (inr l)) = grind (arith, common_steps, left_held, disk_either)

either_told : (other now : List ℕ) (w : World) → All (RepresentsEither other now) w → IsBroken other now w
either_told other now w all = record { held = all.held; leave = λ f left told. all.leave f left; keep = λ f kept told. all.keep f kept }

pub left_told : (end : LogEnd) (other now : List ℕ) (w : World) → IsLeft end other now w → IsBroken other now w
left_told end other now w (inl rest) = either_told other now w (left_either other now w (inl rest))
left_told end other now w (inr (inl c)) = either_told other now w (left_either other now w (inr (inl c)))
left_told end other now w (inr (inr l)) = record {
  held = inr (left_held end other now w (inr (inr l)));
  leave = λ f left told. disk_told end other now l.old l.tail l.changes w.held f l.leads l.fill l.world.held (l.world.leave f left) told;
  keep = λ f kept told. disk_told end other now l.old l.tail l.changes w.held f l.leads l.fill l.world.held (l.world.keep f kept) told;
}

turned : (a b f : List ℕ) → RepresentsEither a b f → RepresentsEither b a f
turned a b f h = grind arith

pub stopped_either : (old new : List ℕ) (w : World) → IsStopped Whole old new w → All (RepresentsEither old new) w
stopped_either old new w (inl h) = all_as (RepresentsEither new old) (RepresentsEither old new) w (λ f is. turned new old f is) (left_either new old w h)
stopped_either old new w (inr h) = left_either old new w h

pub stopped_broken : (end : LogEnd) (old new : List ℕ) (w : World) → IsStopped end old new w → IsBroken old new w
stopped_broken end old new w (inl h) =
    let b = left_told end new old w h in
    record {
      held = turned new old w.held b.held;
      leave = λ f left told. turned new old f (b.leave f left told);
      keep = λ f kept told. turned new old f (b.keep f kept told);
    }
stopped_broken end old new w (inr h) = left_told end old new w h

represented : (now f : List ℕ) → RepresentsEither now now f → Represents now f
represented now f h = grind arith

pub left_one : (now : List ℕ) (w : World) → IsLeft Whole now now w → All (Represents now) w
left_one now w h = all_as (RepresentsEither now now) (Represents now) w (λ f is. represented now f is) (left_either now now w h)
