-- Lemmas on a log that the next database outgrows.
use Rattle.rrd_change.proofs.Names.{◌≡◌, ℕ, List, get_or, ◌∙◌, ap, arith, zero-add, ext_get_or, changes_in, laid_over, first_of, IsLogOf, IsOpen, All, Reads, Stays, Steps, View, World, seen, Syncs, Log}
use Rattle.rrd_change.proofs.Stepping.{seen_as}
use Rattle.rrd_change.proofs.Appending.{logged_all}
use Rattle.rrd_change.proofs.Laying.{laid_is}
use Rattle.rrd_change.proofs.Reading.{change_stands}

stays_all : (G : List ℕ → Type 0) (u v : World) → Stays u v → All G u → All G v
stays_all G u v s a = grind arith

pub stays_log : (now : List ℕ) (log : Log) (u v : World) → Stays u v → IsLogOf now log u → IsLogOf now log v
stays_log now log u v s h = record { old = h.old; changes = h.changes; follows = h.follows; world = stays_all (IsOpen h.old log.tail h.changes) u v s h.world }

-- the bytes of the file, with the changes of its log laid over them
pub read_now : (now : List ℕ) (log : Log) (bytes database : List ℕ) (u v : World) → Reads 0 log.end bytes u v → IsLogOf now log u → database ≡ laid_over (changes_in log.tail bytes) bytes →
    database ≡ now
read_now now log bytes database u v (stays, at) h e =
    let held = h.world.held in
    let all : bytes ≡ u.held = ext_get_or 0 bytes u.held (omega (arith, at.len, h.follows.ends, held.ends))
    (λ k low. at.each k (omega (arith, low, at.len)) ∙ ap (λ n. get_or u.held n 0) (zero-add k)) in
    let first = (change_stands log.tail log.tail (first_of h.old) u.held held.logged.log.chain.0).1 in
    grind (arith, logged_all h.old log.tail h.changes u.held held.logged, laid_is h.old h.changes now u.held first.enough h.follows.leads held.logged.kept)

pub seen_reads : (syncs : Syncs) (at count : ℕ) (into : List ℕ) (old new : View) → Steps (Reads at count into) old new → Steps (Reads at count into) (seen syncs old) (seen syncs new)
seen_reads syncs at count into old new s = grind arith

pub seen_stays : (syncs : Syncs) (old new : View) → Steps Stays old new → Steps Stays (seen syncs old) (seen syncs new)
seen_stays syncs old new s = seen_as syncs Stays old new (λ u v h. record { held = h.held; leave = λ z left. absurd left; keep = λ z kept. absurd kept }) s
