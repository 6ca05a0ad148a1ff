-- Many equal seconds or steps at once.
use Rattle.std.specs.Prelude.{◌≡◌, ℕ, zero, suc, ◌+◌, ◌-◌, ◌*◌, ◌/◌, ◌%◌, ◌<◌, ◌≤◌, ℤ, pos, ◌≤ℤ◌, List, [], ◌∷◌, ◌++◌, length, drop, map, replicate}
use Rattle.rrd_spec.proofs.Names.{common_steps, refl, sym, ◌∙◌, ap, subst, arith, length-append, append_assoc, append-nil, length-replicate, replicate-append-replicate, length-drop, div-add-mod', div-mul-add, mod_below, fold, Cell, Function, Average, Part, nothing, with_cell, with_each, step_cell, row_cell, map_each, finished, unfinished, Rra, Content, keep_last, keep_last-append, archive_passed, passed, seconds_to_steps, steps_to_rows, SecondsOver, StepsInPieces, StepsOver, StepsWithin, fold-with_each}
use Rattle.rrd_spec.proofs.GroupLemmas.{goes_on, finished_within, unfinished_within, finished_filling, unfinished_filling, finished-replicate, unfinished-replicate, next_ahead}
use Rattle.rrd_spec.proofs.PassedLemmas.{archive_passed-append}
unfoldable use Rattle.rrd_spec.proofs.PassedLemmas.{with_rows, with_passed}

-- ---- an archive

pub steps_in_pieces : (sources before : ℕ) (archive : Rra) (xs ys : List (List Cell)) → StepsInPieces sources before archive xs ys
steps_in_pieces sources before archive xs ys some = archive_passed-append sources before (before + length xs) archive xs ys some refl

-- steps that leave the row unfinished
archive_within : (sources before : ℕ) (archive : Rra) (steps : List (List Cell)) → 0 < archive.def.steps → before + length steps < (before / archive.def.steps + 1) * archive.def.steps → archive_passed sources before steps archive ≡ record archive { parts = fold (with_each archive.def.function) archive.parts steps }
unfolding archive_passed with_rows
archive_within sources before archive steps some h = grind (arith, unfinished_within, finished_within, append-nil)

-- steps that fill it
archive_filling : (sources before : ℕ) (archive : Rra) (steps : List (List Cell)) → 0 < archive.def.steps → before + length steps ≡ (before / archive.def.steps + 1) * archive.def.steps → archive_passed sources before steps archive ≡ record archive {
  parts = replicate sources nothing;
  rows = drop 1 (archive.rows ++ map (row_cell archive.def.function archive.def.xff archive.def.steps) (fold (with_each archive.def.function) archive.parts steps) ∷ []);
}
unfolding archive_passed with_rows
archive_filling sources before archive steps some h =
    let rule = steps_to_rows archive.def sources in
    let r = length archive.rows in
    let row = map (row_cell archive.def.function archive.def.xff archive.def.steps) (fold (with_each archive.def.function) archive.parts steps) in
    ap (λ p. with_rows archive p (keep_last r (archive.rows ++ finished rule before archive.parts steps))) (unfinished_filling rule before archive.parts steps some h)
    ∙ ap (λ zs. with_rows archive (replicate sources nothing) (keep_last r (archive.rows ++ zs))) (finished_filling rule before archive.parts steps some h)
    ∙ ap (λ n. with_rows archive (replicate sources nothing) (drop n (archive.rows ++ row ∷ []))) {x = length (archive.rows ++ row ∷ []) - r} {y = 1} (omega (arith, length-append archive.rows (row ∷ [])))

pub steps_within : (sources before : ℕ) (archive : Rra) (steps : List (List Cell)) → StepsWithin sources before archive steps
steps_within sources before archive steps some h = archive_within sources before archive steps some h

-- a row before others that are pushed
pub push_before : {A : Type 0} (rows more : List A) (row : A) → let one = drop 1 (rows ++ row ∷ []) in keep_last (length one) (one ++ more) ≡ keep_last (length rows) (rows ++ row ∷ more)
push_before rows more row =
    let r = length rows in
    let whole = rows ++ row ∷ [] in
    let enough : r ≤ length whole = omega (arith, length-append rows (row ∷ [])) in
    let extra : 1 ≡ length whole - r = omega (arith, length-append rows (row ∷ [])) in
    let count : length (drop 1 whole) ≡ r = omega (arith, length-drop 1 whole, length-append rows (row ∷ [])) in
    cc (count, extra, keep_last-append r whole more enough, append_assoc rows (row ∷ []) more)

-- the row's end, and what goes past it
row_end : (before m : ℕ) → 0 < m → before + 1 + ((before / m + 1) * m - (before + 1)) ≡ (before / m + 1) * m
row_end before m some = omega (arith, next_ahead before m some)

-- ---- a full group of one row of cells

each_stays : (give : Part → Cell) (take : Part → Cell → Part) (n : ℕ) (row : List Cell) → ((cell : Cell) → give (take nothing cell) ≡ cell) → length row ≡ n → map give (map_each take (replicate n nothing) row) ≡ row
each_stays give take zero [] same e = refl
each_stays give take zero (cell ∷ row) same e = absurd (omega arith)
each_stays give take (suc n) [] same e = absurd (omega arith)
each_stays give take (suc n) (cell ∷ row) same e = grind (arith, common_steps, each_stays give take n row same (omega arith))

-- ---- a content

-- by the law of full groups
module _ (whole_step : (step : ℕ) (cell : Cell) → 0 < step → step_cell step (fold (with_cell Average) nothing (replicate step cell)) ≡ cell) (whole_row : (function : Function) (xff : ℤ) (steps : ℕ) (cell : Cell) → 0 < steps → pos 0 ≤ℤ xff → xff ≤ℤ pos 999999 → row_cell function xff steps (fold (with_cell function) nothing (replicate steps cell)) ≡ cell) where
  whole_steps : (step sources : ℕ) (row : List Cell) → 0 < step → length row ≡ sources → map (step_cell step) (fold (with_each Average) (replicate sources nothing) (replicate step row)) ≡ row
  whole_steps step sources row some e =
      ap (map (step_cell step)) (fold-with_each Average step (replicate sources nothing) row)
      ∙ each_stays (step_cell step) (λ p c. fold (with_cell Average) p (replicate step c)) sources row (λ cell. whole_step step cell some) e

  whole_rows : (function : Function) (xff : ℤ) (steps sources : ℕ) (row : List Cell) → 0 < steps → pos 0 ≤ℤ xff → xff ≤ℤ pos 999999 → length row ≡ sources → map (row_cell function xff steps) (fold (with_each function) (replicate sources nothing) (replicate steps row)) ≡ row
  whole_rows function xff steps sources row some low high e =
      ap (map (row_cell function xff steps)) (fold-with_each function steps (replicate sources nothing) row)
      ∙ each_stays (row_cell function xff steps) (λ p c. fold (with_cell function) p (replicate steps c)) sources row (λ cell. whole_row function xff steps cell some low high) e

  -- whole rows of one step
  archive_wholes : (sources k first : ℕ) (archive : Rra) (step : List Cell) → 0 < archive.def.steps → pos 0 ≤ℤ archive.def.xff → archive.def.xff ≤ℤ pos 999999 → length step ≡ sources → archive.parts ≡ replicate sources nothing → archive_passed sources (first * archive.def.steps) (replicate (k * archive.def.steps) step) archive ≡ record archive { rows = keep_last (length archive.rows) (archive.rows ++ replicate k step) }
  unfolding archive_passed with_rows
  archive_wholes sources k first archive step some low high wide none =
      let rule = steps_to_rows archive.def sources in
      let m = archive.def.steps in
      let r = length archive.rows in
      let all = replicate (k * m) step in
      ap (λ p. with_rows archive (unfinished rule (first * m) p all) (keep_last r (archive.rows ++ finished rule (first * m) p all))) none
      ∙ ap (λ p. with_rows archive p (keep_last r (archive.rows ++ finished rule (first * m) (replicate sources nothing) all))) (unfinished-replicate rule k first step some ∙ sym none)
      ∙ ap (λ zs. with_rows archive archive.parts (keep_last r (archive.rows ++ zs))) (finished-replicate rule k first step some)
      ∙ ap (λ c. with_rows archive archive.parts (keep_last r (archive.rows ++ replicate k c))) (whole_rows archive.def.function archive.def.xff m sources step some low high wide)

  -- a step and many of another
  pub steps_over : (n before count : ℕ) (archive : Rra) (first then : List Cell) → StepsOver n before count archive first then
  unfolding with_rows
  steps_over n before count archive first then some low high wide h =
      let m = archive.def.steps in
      let q = before / m + 1 in
      let left = q * m - (before + 1) in
      let k = (count - left) / m in
      let rest = (count - left) % m in
      let below = mod_below (count - left) m some in
      let split = div-add-mod' (count - left) m in
      let one = first ∷ replicate left then in
      let two = replicate (k * m) then in
      let three = replicate rest then in
      let row = map (row_cell archive.def.function archive.def.xff m) (fold (with_each archive.def.function) archive.parts (first ∷ replicate left then)) in
      let ended : Rra = record archive { parts = replicate n nothing; rows = drop 1 (archive.rows ++ row ∷ []) } in
      let whole : Rra = record ended { rows = keep_last (length ended.rows) (ended.rows ++ replicate k then) } in
      let at : before + length one ≡ q * m = omega (arith, length-replicate left then, row_end before m some) in
      let next : q * m + length two ≡ q * m + k * m = ap (λ x. q * m + x) (length-replicate (k * m) then) in
      let group : (q * m + k * m) / m ≡ q + k = ap (λ x. x / m) {x = q * m + k * m} {y = (q + k) * m + 0} (omega arith) ∙ div-mul-add (q + k) m 0 some in
      let within : q * m + k * m + length three < ((q * m + k * m) / m + 1) * m = subst (λ x. q * m + k * m + length three < (x + 1) * m) (sym group) (omega (arith, length-replicate rest then)) in
      let all : first ∷ replicate count then ≡ one ++ (two ++ three)
      = ap (λ x. first ∷ replicate x then) {x = count} {y = left + (k * m + rest)} (omega arith)
      ∙ ap (λ zs. first ∷ zs) (sym (replicate-append-replicate left (k * m + rest) then) ∙ ap (λ zs. replicate left then ++ zs) (sym (replicate-append-replicate (k * m) rest then))) in
      ap (λ zs. archive_passed n before zs archive) all
      ∙ archive_passed-append n before (q * m) archive one (two ++ three) some at
      ∙ ap (archive_passed n (q * m) (two ++ three)) (archive_filling n before archive one some at)
      ∙ archive_passed-append n (q * m) (q * m + k * m) ended two three some next
      ∙ ap (archive_passed n (q * m + k * m) three) (archive_wholes n k q ended then some low high wide refl)
      ∙ archive_within n (q * m + k * m) whole three some within
      ∙ ap (with_rows archive (fold (with_each archive.def.function) (replicate n nothing) three)) (push_before archive.rows (replicate k then) row)

  -- the rest of the step in progress, and whole steps of one rate for each source
  pub seconds_over : (base : Content) (n k : ℕ) (row : List Cell) → SecondsOver base n k row
  unfolding passed with_passed
  seconds_over base n k row is fills wide =
      let c = length base.sources in
      let s = base.step in
      let rule = seconds_to_steps s c in
      let q = base.last / s in
      let rest = replicate n row in
      let wholes = replicate (k * s) row in
      let cell = map (step_cell s) (fold (with_each Average) base.parts rest) in
      let at : base.last + length rest ≡ (q + 1) * s = omega (arith, length-replicate n row) in
      let both = goes_on rule base.last base.parts rest wholes is.some_step in
      let empty : unfinished rule base.last base.parts rest ≡ replicate c nothing = unfinished_filling rule base.last base.parts rest is.some_step at in
      let parts : unfinished rule base.last base.parts (rest ++ wholes) ≡ replicate c nothing
      = both.unfinished_is ∙ ap (λ p. unfinished rule (base.last + length rest) p wholes) empty ∙ ap (λ m. unfinished rule m (replicate c nothing) wholes) at ∙ unfinished-replicate rule k (q + 1) row is.some_step in
      let later : finished rule (base.last + length rest) (unfinished rule base.last base.parts rest) wholes ≡ replicate k row
      = ap (λ p. finished rule (base.last + length rest) p wholes) empty ∙ ap (λ m. finished rule m (replicate c nothing) wholes) at ∙ finished-replicate rule k (q + 1) row is.some_step
      ∙ ap (replicate k) (whole_steps s c row is.some_step wide) in
      let steps : finished rule base.last base.parts (rest ++ wholes) ≡ cell ∷ replicate k row
      = both.finished_is ∙ ap (λ zs. zs ++ finished rule (base.last + length rest) (unfinished rule base.last base.parts rest) wholes) (finished_filling rule base.last base.parts rest is.some_step at) ∙ ap (λ zs. cell ∷ zs) later in
      let all : replicate (n + k * s) row ≡ rest ++ wholes = sym (replicate-append-replicate n (k * s) row) in
      ap (λ zs. with_passed base (base.last + length zs) (unfinished rule base.last base.parts zs) (map (archive_passed c q (finished rule base.last base.parts zs)) base.archives)) all
      ∙ ap (λ m. with_passed base m (unfinished rule base.last base.parts (rest ++ wholes)) (map (archive_passed c q (finished rule base.last base.parts (rest ++ wholes))) base.archives)) {x = base.last + length (rest ++ wholes)} {y = base.last + (n + k * s)} (omega (arith, length-append rest wholes, length-replicate n row, length-replicate (k * s) row))
      ∙ ap (λ p. with_passed base (base.last + (n + k * s)) p (map (archive_passed c q (finished rule base.last base.parts (rest ++ wholes))) base.archives)) parts
      ∙ ap (λ zs. with_passed base (base.last + (n + k * s)) (replicate c nothing) (map (archive_passed c q zs) base.archives)) steps
