-- Lemmas on the bytes of a file over which the changes of its log are laid.
use Rattle.rrd_change.proofs.Names.{◌≡◌, ℕ, ◌<◌, ◌≤◌, List, [], ◌∷◌, ◌++◌, length, take, drop, get_or, refl, sym, subst, ◌∙◌, ap, arith, true, false, append-nil, ext_get_or, get_or-take, get_or_append_left, length-append, length-take, take_all, drop_all, begins_with, Change, all_changed, changes_in, laid_over, last_size, chain_end, IsLogIn, IsLogMark, IsMarkOf, IsLogRead, cut_mark, log_mark, settled, settled_by, spelled_tail, unmarked, Mark, Log, common_steps}
use Rattle.rrd_change.proofs.Chains.{chain_count, none_left}
use Rattle.rrd_change.proofs.Logs.{by_mark, is_cut, is_log, is_plain}
use Rattle.rrd_change.proofs.Reading.{past_read}
use Rattle.rrd_change.proofs.Standing.{get_or-by, length-by}

-- what a vector has after both parts of it were lent
pub clipped : (n : ℕ) (new rest file : List ℕ) → n ≡ length file → length (new ++ rest) ≡ length file → take n (new ++ rest ++ drop (length (new ++ rest)) file) ≡ new ++ rest
clipped n new rest file n_is size = grind (arith, drop_all, append-nil, take_all)

over_by : (cs : List Change) (old rest new : List ℕ) (size end : ℕ) → length new ≡ length old → ((k : ℕ) → get_or new k 0 ≡ all_changed cs k (get_or old k 0)) → size ≡ last_size 0 cs →
    size ≤ length old → end ≡ chain_end (length old) cs → (end ≡ length old → ⊥) → take size (new ++ rest) ≡ laid_over cs (old ++ rest)
over_by [] old rest new size end len each last fits at some = absurd (some at)
over_by (c ∷ cs) old rest new size end len each last fits at some =
    let f : ℕ → ℕ = λ k. all_changed (c ∷ cs) k (get_or (old ++ rest) k 0) in
    let n = last_size c.size cs in
    let size_is : length (take size (new ++ rest)) ≡ size = omega (arith, length-take size (new ++ rest), length-append new rest, len, fits) in
    ext_get_or 0 (take size (new ++ rest)) (laid_over (c ∷ cs) (old ++ rest)) (size_is ∙ last ∙ sym (length-by f n))
    (λ k low.
    let within : k < size = omega (arith, low, size_is) in
    get_or-take size (new ++ rest) k 0 within ∙ get_or_append_left new rest 0 k (omega (arith, within, fits, len)) ∙ each k
    ∙ ap (λ b. all_changed (c ∷ cs) k b) (sym (get_or_append_left old rest 0 k (omega (arith, within, fits)))) ∙ sym (get_or-by f n k (omega (arith, within, last))))

pub overlaid : (file old rest new : List ℕ) (tail n size : ℕ) (log : Log) → file ≡ old ++ rest → length old ≡ tail → n ≡ length file → IsLogRead old rest new log size → (log.end ≡ tail → ⊥) →
    take size (take n (new ++ rest ++ drop (length (new ++ rest)) file)) ≡ laid_over (changes_in tail file) file
overlaid file old rest new tail n size log all tail_is n_is read some = grind (arith, length-append, clipped, over_by)

-- ---- no change

no_changes : (cs : List Change) (at : ℕ) → chain_end at cs ≡ at → cs ≡ []
no_changes [] at e = refl
no_changes (c ∷ cs) at e = absurd (omega (arith, chain_count at (c ∷ cs), e))

pub unlaid : (file old rest new : List ℕ) (tail n size : ℕ) (log : Log) → file ≡ old ++ rest → length old ≡ tail → n ≡ length file → IsLogRead old rest new log size → log.end ≡ tail →
    take n (new ++ rest ++ drop (length (new ++ rest)) file) ≡ laid_over (changes_in tail file) file
unlaid file old rest new tail n size log all tail_is n_is read at = grind (arith, common_steps, length-append new rest, length-append old rest, no_changes (changes_in (length old) (old ++ rest)) (length old), ext_get_or 0 new old read.len, clipped)

pub past_log : (tail : ℕ) (file : List ℕ) → length file < tail → changes_in tail file ≡ []
past_log tail file past = none_left tail file (length file) tail (past_read tail tail file (omega (arith, past)))

pub past_unlaid : (tail : ℕ) (file : List ℕ) → length file < tail → file ≡ laid_over (changes_in tail file) file
past_unlaid tail file past = ap (λ cs. laid_over cs file) (sym (past_log tail file past))

-- ---- by the mark

pub settled_cut : (end_of : List ℕ → ℕ) (file : List ℕ) → begins_with file cut_mark ≡ true → settled end_of file ≡ take (end_of (unmarked file)) (unmarked file)
settled_cut end_of file h = by_mark end_of file ∙ ap (λ m. settled_by end_of m file) (is_cut file h)

pub settled_log : (end_of : List ℕ → ℕ) (file : List ℕ) (tail : ℕ) → begins_with file cut_mark ≡ false → (tail ≡ spelled_tail file) × (begins_with file (log_mark (spelled_tail file)) ≡ true) →
    settled end_of file ≡ laid_over (changes_in tail file) file
settled_log end_of file tail cut (is, log) = by_mark end_of file ∙ ap (λ m. settled_by end_of m file) (is_log file cut log) ∙ ap (λ t. laid_over (changes_in t file) file) (sym is)

pub settled_plain : (end_of : List ℕ → ℕ) (file : List ℕ) → begins_with file cut_mark ≡ false → begins_with file (log_mark (spelled_tail file)) ≡ false → settled end_of file ≡ file
settled_plain end_of file cut log = by_mark end_of file ∙ ap (λ m. settled_by end_of m file) (is_plain file cut log)

-- ---- what was found of a log

pub no_log : (file old rest new : List ℕ) (tail size : ℕ) (log : Log) → file ≡ old ++ rest → length old ≡ tail → IsLogRead old rest new log size → log.end ≡ tail → changes_in tail file ≡ []
no_log file old rest new tail size log all tail_is read at = grind (arith, no_changes)

pub log_in : (file old rest new : List ℕ) (tail size : ℕ) (log : Log) → file ≡ old ++ rest → length old ≡ tail → IsLogRead old rest new log size → IsLogIn log tail file
log_in file old rest new tail size log all tail_is read =
    subst (IsLogIn log tail) (sym all) (subst (λ (t : ℕ). IsLogIn log t (old ++ rest)) tail_is (record { tail_is = read.tail; ends = read.end; count = read.count; touched = read.touched; only = read.only }))

pub by_log_mark : (m : Mark) (tail : ℕ) (file : List ℕ) → begins_with file cut_mark ≡ false → (tail ≡ spelled_tail file) × (begins_with file (log_mark (spelled_tail file)) ≡ true) → IsLogMark m tail file → IsMarkOf m file
by_log_mark m tail file cut (is, log) h = grind arith
