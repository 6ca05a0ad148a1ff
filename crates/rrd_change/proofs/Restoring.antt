-- Lemmas on repairs by what was found of a file.
use Rattle.rrd_change.proofs.Names.{◌≡◌, ℕ, ◌+◌, ◌≤◌, max, Bool, true, false, List, [], ◌∷◌, length, drop, refl, sym, ◌∙◌, ap, subst, arith, inl, inr, lit<, length-take, StandsAt, begins_with, ArePut, AreWholeOrNot, IsSized, IsSizedOrNot, IsTorn, Change, change_size, changes_in, last_size, IsChain, IsUnderCut, TouchByte, chain_end, first_of, IsLogIn, IsMarkOf, IsCutLeft, IsFound, IsLeft, IsLogFound, IsLogHeld, IsLogLeft, IsMarkedFor, LogEnd, Whole, cut_mark, database_mark, log_mark, spelled_tail, Follows, IsAtRest, IsDatabase, IsLogFor, IsLogOf, IsOpen, Represents, All, Effect, Fails, FailsToRestore, Stores, StoresAgain, World, Mark, Log, IsAlone, common_steps}
use Rattle.rrd_change.proofs.Appending.{logged_all}
use Rattle.rrd_change.proofs.Chains.{chain_count}
use Rattle.rrd_change.proofs.Fronts.{front_of}
use Rattle.rrd_change.proofs.Holding.{held_left}
use Rattle.rrd_change.proofs.Laying.{leads_size}
use Rattle.rrd_change.proofs.Logs.{tail_in}
use Rattle.rrd_change.proofs.Reading.{change_stands}
use Rattle.rrd_change.proofs.Relogging.{IsLogAgain, IsLogCut, again_failed, again_stored, cut_failed, cut_stored, mark_failed, mark_stored}
use Rattle.rrd_change.proofs.Standing.{begins_other, standing_begins}
use Rattle.rrd_change.proofs.Stopping.{left_held}
use Rattle.rrd_change.specs.declared.finding.Mark.TheVariants as marks

-- ---- which mark a file has

not_both : (b : Bool) → b ≡ true → b ≡ false → ⊥
not_both b t f = cc

under_begins : (now file : List ℕ) → IsUnderCut now file → begins_with file cut_mark ≡ true
under_begins now file h = standing_begins file cut_mark h.marked

log_begins : (now file : List ℕ) (h : IsLogFor now file) → begins_with file (log_mark h.tail) ≡ true
log_begins now file h = standing_begins file (log_mark h.tail) h.logged.log.marked

log_not_cut : (now file : List ℕ) → IsLogFor now file → begins_with file cut_mark ≡ false
log_not_cut now file h = begins_other file (log_mark h.tail) cut_mark 3 (log_begins now file h) (lit< tt) (lit< tt) refl

log_spells : (now file : List ℕ) (h : IsLogFor now file) → spelled_tail file ≡ h.tail
log_spells now file h = tail_in h.tail file (drop 16 file) (front_of file (log_mark h.tail) (log_begins now file h)) h.logged.log.fits

plain_begins : (now file : List ℕ) → IsDatabase now → file ≡ now → begins_with file database_mark ≡ true
plain_begins now file is e = let P : List ℕ → Type 0 = λ xs. StandsAt xs 0 database_mark in standing_begins file database_mark (subst P (sym e) is.begins)

plain_not_cut : (now file : List ℕ) → IsDatabase now → file ≡ now → begins_with file cut_mark ≡ false
plain_not_cut now file is e = begins_other file database_mark cut_mark 3 (plain_begins now file is e) (lit< tt) (lit< tt) refl

plain_no_log : (now file : List ℕ) → IsDatabase now → file ≡ now → begins_with file (log_mark (spelled_tail file)) ≡ false
plain_no_log now file is e = begins_other file database_mark (log_mark (spelled_tail file)) 3 (plain_begins now file is e) (lit< tt) (lit< tt) refl

log_some : (now file : List ℕ) (h : IsLogFor now file) → changes_in (spelled_tail file) file ≡ first_of h.old ∷ h.changes
log_some now file h = ap (λ t. changes_in t file) (log_spells now file h) ∙ logged_all h.old h.tail h.changes file h.logged

-- ---- no mark

no_mark : (now file : List ℕ) → IsDatabase now → Represents now file → IsMarkOf marks.Missing file → file ≡ now
no_mark now file is (inl e) m = e
no_mark now file is (inr (inl under)) m = absurd (not_both (begins_with file cut_mark) (under_begins now file under) m.0)
no_mark now file is (inr (inr log)) (cut, inl none) =
    absurd (not_both (begins_with file (log_mark (spelled_tail file))) (ap (λ t. begins_with file (log_mark t)) (log_spells now file log) ∙ log_begins now file log) none)
no_mark now file is (inr (inr log)) (cut, inr none) = absurd (omega (arith, ap length (sym none ∙ log_some now file log)))

-- what is left, of which programs read a log
log_for : (end : LogEnd) (other now : List ℕ) (w : World) → IsLogLeft end other now w → IsLogFor now w.held
log_for end other now w l = record { old = l.old; tail = l.tail; changes = l.changes; logged = l.world.held; leads = l.leads; fill = l.fill }

pub missing_rests : (end : LogEnd) (other now : List ℕ) (w : World) → IsFound end other now marks.Missing w → IsAtRest now w
missing_rests end other now w h =
    let e = no_mark now w.held h.is (left_held end other now w h.left) h.mark_is in
    elim h.left [
      | inl rest ↦ rest
      | inr (inl c) ↦ absurd (not_both (begins_with w.held cut_mark) (under_begins now w.held c.under) (plain_not_cut now w.held h.is e))
      | inr (inr l) ↦
          let is = log_for end other now w l in
          absurd (not_both (begins_with w.held (log_mark (spelled_tail w.held))) (ap (λ t. begins_with w.held (log_mark t)) (log_spells now w.held is) ∙ log_begins now w.held is)
          (plain_no_log now w.held h.is e))
    ]

-- ---- a cut mark

pub found_cut : (end : LogEnd) (other now : List ℕ) (w : World) → IsFound end other now marks.Cut w → IsCutLeft other now w
found_cut end other now w h = elim h.left [
  | inl rest ↦ absurd (not_both (begins_with w.held cut_mark) h.mark_is (plain_not_cut now w.held h.is rest.world.held))
  | inr (inl c) ↦ c
  | inr (inr l) ↦ absurd (not_both (begins_with w.held cut_mark) h.mark_is (log_not_cut now w.held (log_for end other now w l)))
]

-- ---- a log

pub found_log : (end : LogEnd) (other now : List ℕ) (log : Log) (w : World) → IsFound end other now (marks.Log log) w → IsLogFound end other now log w
unfolding log_for
found_log end other now log w h = elim h.left [
  | inl rest ↦ absurd (not_both (begins_with w.held (log_mark (spelled_tail w.held))) h.mark_is.1 (plain_no_log now w.held h.is rest.world.held))
  | inr (inl c) ↦ absurd (not_both (begins_with w.held cut_mark) (under_begins now w.held c.under) h.mark_is.0)
  | inr (inr l) ↦
      record { is = h.is; left = l; found = subst (λ (t : ℕ). IsLogIn log t w.held) (log_spells now w.held (log_for end other now w l)) h.mark_is.2 }
]

-- the last change of a chain leaves no more than reaches to the log
last_below : (tail : ℕ) (file : List ℕ) (at size : ℕ) (cs : List Change) → IsChain tail file at cs → size ≤ tail → last_size size cs ≤ tail
last_below tail file at size [] h few = few
last_below tail file at size (c ∷ cs) h few = last_below tail file (at + change_size c) c.size cs h.1 (change_stands tail at c file h.0).1.below

-- what is known of the log in memory
log_all : (end : LogEnd) (other now : List ℕ) (log : Log) (w : World) (h : IsLogFound end other now log w) → changes_in h.left.tail w.held ≡ first_of h.left.old ∷ h.left.changes
log_all end other now log w h = logged_all h.left.old h.left.tail h.left.changes w.held h.left.world.held

log_ends : (end : LogEnd) (other now : List ℕ) (log : Log) (w : World) (h : IsLogFound end other now log w) → log.end ≡ chain_end h.left.tail (first_of h.left.old ∷ h.left.changes)
log_ends end other now log w h = h.found.ends ∙ ap (λ cs. chain_end h.left.tail cs) (log_all end other now log w h)

log_follows : (end : LogEnd) (other now : List ℕ) (log : Log) (w : World) (h : IsLogFound end other now log w) → Follows h.left.old now h.left.changes log
log_follows end other now log w h =
    let l = h.left in
    let all = log_all end other now log w h in
    let chain = l.world.held.log.chain in
    let first = (change_stands l.tail l.tail (first_of l.old) w.held chain.0).1 in
    let T : ℕ → List Change → Type 0 = λ k cs. TouchByte k cs in
    record {
      is = h.is;
      leads = l.leads;
      fill = l.fill;
      below = omega (arith, leads_size l.old l.changes now l.leads, last_below l.tail w.held (l.tail + change_size (first_of l.old)) (length l.old) l.changes chain.1 first.below, h.found.tail_is);
      ends = log_ends end other now log w h ∙ ap (λ t. chain_end t (first_of l.old ∷ l.changes)) (sym h.found.tail_is);
      count = omega (arith, h.found.count, ap length all);
      each = λ k touched. h.found.touched k (subst (T k) (sym all) (inr touched));
      only = λ k high is_in. elim (subst (T k) all (h.found.only k is_in)) [
        | inl (inl front) ↦ absurd (omega (arith, front.1, high, length-take 16 l.old))
        | inl (inr none) ↦ absurd none
        | inr later ↦ later
      ];
    }

-- ---- the steps in which the log is written again

with_world : (end : LogEnd) (other now : List ℕ) (u v : World) (l : IsLogLeft end other now u) → IsLogHeld end other now l.old l.tail l.changes v → IsLogLeft end other now v
with_world end other now u v l w = held_left end other now l.old l.tail l.changes v l.leads l.fill w

abbrev pub Cuts : Log → Effect
Cuts log u v = (end : LogEnd) (other now : List ℕ) (h : IsLogFound end other now log u) → IsLogCut end other now h.left.old h.left.tail h.left.changes v

abbrev pub Rewrites : Log → Effect
Rewrites log u v = (end : LogEnd) (other now : List ℕ) (h : IsLogFound end other now log u) → IsLogAgain end other now h.left.old h.left.tail h.left.changes v

-- a step failed
abbrev pub Leaves : Log → Effect
Leaves log u v = (end : LogEnd) (other now : List ℕ) → IsLogFound end other now log u → IsLogLeft end other now v

pub cuts : (log : Log) (u v : World) → Stores (IsSized log.end) u v → Cuts log u v
cuts log u v s end other now h = grind (arith, common_steps, cut_stored end other now h.left.old h.left.tail h.left.changes u v, log_ends end other now log u h)

pub cut_leaves : (log : Log) (u v : World) → Fails (IsSizedOrNot log.end) (IsSizedOrNot log.end) u v → Leaves log u v
cut_leaves log u v f end other now h = grind (arith, common_steps, with_world end other now u v h.left, cut_failed end other now h.left.old h.left.tail h.left.changes u v, log_ends end other now log u h)

log_reach : (end : LogEnd) (other now : List ℕ) (log : Log) (w : World) (h : IsLogFound end other now log w) →
    max log.tail log.end ≡ chain_end h.left.tail (first_of h.left.old ∷ h.left.changes)
log_reach end other now log w h = grind (arith, log_ends end other now log w h, chain_count h.left.tail (first_of h.left.old ∷ h.left.changes))

pub rewrites : (log : Log) (u v w : World) → Cuts log u v → StoresAgain log.tail (max log.tail log.end) v w → Rewrites log u w
rewrites log u v w cut s end other now h =
    again_stored end other now h.left.old h.left.tail h.left.changes v w (subst (λ (n : ℕ). StoresAgain h.left.tail n v w) (log_reach end other now log u h) (subst (λ (n : ℕ). StoresAgain n (max log.tail log.end) v w) h.found.tail_is s)) (cut end other now h)

pub rewrite_leaves : (log : Log) (u v w : World) → Cuts log u v → FailsToRestore log.tail (max log.tail log.end) v w → Leaves log u w
rewrite_leaves log u v w cut f end other now h =
    with_world end other now u w h.left
    (again_failed end other now h.left.old h.left.tail h.left.changes v w (subst (λ (n : ℕ). FailsToRestore h.left.tail n v w) (log_reach end other now log u h) (subst (λ (n : ℕ). FailsToRestore n (max log.tail log.end) v w) h.found.tail_is f)) (cut end other now h))

pub marks_again : (log : Log) (u v w : World) → Rewrites log u v → Stores (ArePut 0 (log_mark log.tail)) v w → (end : LogEnd) (other now : List ℕ) → IsLogFound end other now log u →
    IsLogOf now log w
marks_again log u v w again s end other now h =
    let l = h.left in
    record {
      old = l.old;
      changes = l.changes;
      follows = log_follows end other now log u h;
      world = subst (λ (n : ℕ). All (IsOpen l.old n l.changes) w) (sym h.found.tail_is) (mark_stored end other now l.old l.tail l.changes v w (subst (λ (n : ℕ). Stores (ArePut 0 (log_mark n)) v w) h.found.tail_is s) (again end other now h));
    }

pub mark_leaves : (log : Log) (u v w : World) → Rewrites log u v → Fails (AreWholeOrNot 0 (log_mark log.tail)) (IsTorn 0 (log_mark log.tail)) v w → Leaves log u w
mark_leaves log u v w again f end other now h =
    let l = h.left in
    with_world end other now u w l (mark_failed end other now l.old l.tail l.changes v w (subst (λ (n : ℕ). Fails (AreWholeOrNot 0 (log_mark n)) (IsTorn 0 (log_mark n)) v w) h.found.tail_is f) (again end other now h))

-- the log needs no more than its length if nothing is claimed of the disk
pub cut_is_log : (log : Log) (u v : World) → ((c : List ℕ) → v.may_leave c → ⊥) → ((c : List ℕ) → v.may_keep c → ⊥) → Cuts log u v → (end : LogEnd) (other now : List ℕ) →
    IsLogFound end other now log u → IsLogOf now log v
cut_is_log log u v leaves keeps cut end other now h =
    let l = h.left in
    record {
      old = l.old;
      changes = l.changes;
      follows = log_follows end other now log u h;
      world = subst (λ (n : ℕ). All (IsOpen l.old n l.changes) v) (sym h.found.tail_is) (record { held = (cut end other now h).held; leave = λ c left. absurd (leaves c left); keep = λ c kept. absurd (keeps c kept) });
    }

-- ---- after a failure of the power

pub alone_left : (now : List ℕ) (w : World) → IsDatabase now → Represents now w.held → IsAlone w → IsLeft Whole now now w
alone_left now w is (inl e) alone = grind arith
alone_left now w is (inr (inl under)) alone = grind arith
alone_left now w is (inr (inr log)) alone = grind arith

pub alone_found : (now : List ℕ) (mark : Mark) (w : World) → IsMarkedFor now mark w → IsFound Whole now now mark w
alone_found now mark w h = record { is = h.is; mark_is = h.mark_is; left = alone_left now w h.is h.represents h.alone }
