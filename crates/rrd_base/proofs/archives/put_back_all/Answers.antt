use Rattle.rrd_base.proofs.Common.{◌≡◌, ℕ, sym, ◌∙◌, ap, subst, suc, ◌-◌, ◌+◌, ◌++◌, ◌<◌, take, drop, length, set, get_or, vec_len, arith, take_all, Rra, SavedArchive, put_back, put_back_each, CanPutBack, none_back, front_short, front_of, popped, put_back_next, put_back_more, as_many, can_at}
use Rattle.rrd_base.proofs.archives.put_back_all.Goals as goal

pub loop-old-init : goal.loop-old-init
loop-old-init c =
    let archives = c.args.archives.now in
    let saved = c.args.saved.items in
    let n : ℕ = vec_len c.args.saved in
    let count = as_many archives saved c.requires.fits in
    let whole : n ≡ length saved = c.args.saved.ok.0 in
    record { left = sym (take_all n saved (omega arith)); value = none_back n archives saved (omega arith) }

pub bounds-archives-len : goal.bounds-archives-len
bounds-archives-len c =
    let saved = c.args.saved.items in
    let few = front_short (vec_len c.loop-old.saved) saved c.loop-old.saved.items c.loop-old.invariant.left (sym c.loop-old.saved.ok.0) in
    omega (arith, few, c.in-Some.ensures.cases, as_many c.args.archives.now saved c.requires.fits, c.loop-old.auto.archives)

pub put_back-requires : goal.put_back-requires
put_back-requires c =
    let archives = c.args.archives.now in
    let saved = c.args.saved.items in
    let k : ℕ = c.len.result in
    let old = c.in-Some.old in
    let d = c.index-archives-len.result in
    let left = vec_len c.loop-old.saved in
    let more = c.in-Some.ensures.cases in
    let few = front_short left saved c.loop-old.saved.items c.loop-old.invariant.left (sym c.loop-old.saved.ok.0) in
    let count : left ≡ k + 1 = omega (arith, more) in
    let within : k < length archives = omega (arith, few, as_many archives saved c.requires.fits) in
    let this = popped left k saved c.loop-old.saved.items old c.loop-old.invariant.left count (cc (c.in-Some.ensures.value old (omega (arith, more)))) in
    let here : get_or c.loop-old.archives k d ≡ get_or archives k d = cc (c.loop-old.invariant.value, ap (λ n. get_or (take n archives ++ put_back_each (drop n archives) (drop n saved)) k d) {x = left} {y = suc k} (omega (arith, count)), put_back_next k archives saved d within) in
    subst (λ (a : Rra). CanPutBack a old) (sym here)
    (subst (λ (s : SavedArchive). CanPutBack (get_or archives k d) s) (sym this) (can_at k archives saved d old c.requires.fits within))

pub loop-old-preserved : goal.loop-old-preserved
loop-old-preserved c =
    let archives = c.args.archives.now in
    let saved = c.args.saved.items in
    let k : ℕ = c.len.result in
    let old = c.in-Some.old in
    let d = c.index-archives-len.result in
    let new = c.put_back.new.self in
    let left = vec_len c.loop-old.saved in
    let more = c.in-Some.ensures.cases in
    let few = front_short left saved c.loop-old.saved.items c.loop-old.invariant.left (sym c.loop-old.saved.ok.0) in
    let count : left ≡ k + 1 = omega (arith, more) in
    let within : k < length archives = omega (arith, few, as_many archives saved c.requires.fits) in
    let there : k < length saved = omega (arith, as_many archives saved c.requires.fits) in
    let this = popped left k saved c.loop-old.saved.items old c.loop-old.invariant.left count (cc (c.in-Some.ensures.value old (omega (arith, more)))) in
    let was : c.loop-old.archives ≡ take (suc k) archives ++ put_back_each (drop (suc k) archives) (drop (suc k) saved) = cc (c.loop-old.invariant.value, ap (λ n. take n archives ++ put_back_each (drop n archives) (drop n saved)) {x = left} {y = suc k} (omega (arith, count))) in
    let here : get_or c.loop-old.archives k d ≡ get_or archives k d = ap (λ archives. get_or archives k d) was ∙ put_back_next k archives saved d within in
    let back : new ≡ put_back (get_or archives k d) (get_or saved k old) = cc (c.put_back.ensures, here, this) in
    let now = c.len.ensures in
    record {
      left = c.in-Some.ensures.rest ∙ ap (take (left - 1)) c.loop-old.invariant.left
          ∙ ap (λ n. take n (take left saved)) {x = left - 1} {y = k} (omega (arith, count))
          ∙ ap (λ n. take k (take n saved)) {x = left} {y = suc k} (omega (arith, count)) ∙ front_of k saved ∙ ap (λ n. take n saved) now;
      value = ap (λ archives. set archives k new) was ∙ put_back_more k archives saved d new old within there back
          ∙ ap (λ n. take n archives ++ put_back_each (drop n archives) (drop n saved)) now;
    }
