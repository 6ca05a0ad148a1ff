-- Runs one after another.
use Rattle.std.specs.Prelude.{◌≡◌, ◌++◌, ◌∷◌, ℕ, Bool, true, false, List, [], Option, Some, None, Result, Ok, Err, map}
use Rattle.rrd_tool.proofs.Names.{◌∙◌, sym, ap, ap₂, refl, append_assoc, append-nil, Appends, Consumes, Keeps, Appends-trans, Consumes-trans, is_err, Ran, Stopped, Tally, Told, Turn, is_told, line_told, state_after, tallied, tally_after, text_of, Answers, AppendsSome, Performs, is_empty, last_part, lines_of, whole_lines, AppendsFront, WriteFault, Appends-kept}
use Rattle.rrd_tool.proofs.LineLemmas.{whole_append}

lines-append : (xs ys : List Told) → map line_told (xs ++ ys) ≡ map line_told xs ++ map line_told ys
lines-append [] ys = refl
lines-append (x ∷ xs) ys = ap (λ l. x.line ∷ l) (lines-append xs ys)

kept-appends : (a b c : Option (List ℕ)) (bs : List ℕ) → Keeps a b → Appends b c bs → Appends a c bs
kept-appends None b c bs p q = tt
kept-appends (Some x) None c bs p q = absurd p
kept-appends (Some x) (Some y) None bs p q = absurd q
kept-appends (Some x) (Some y) (Some z) bs p q = q ∙ ap (λ l. l ++ bs) p

module _ {S : Type 0} (turn : S → Told → Turn S) where
  state-append : (s : S) (xs ys : List Told) → state_after turn s (xs ++ ys) ≡ state_after turn (state_after turn s xs) ys
  state-append s [] ys = refl
  state-append s (x ∷ xs) ys = state-append (turn s x).state xs ys

  text-append : (s : S) (xs ys : List Told) → text_of turn s (xs ++ ys) ≡ text_of turn s xs ++ text_of turn (state_after turn s xs) ys
  text-append s [] ys = refl
  text-append s (x ∷ xs) ys = ap (λ l. (turn s x).text ++ l) (text-append (turn s x).state xs ys)
      ∙ sym (append_assoc (turn s x).text (text_of turn (turn s x).state xs) (text_of turn (state_after turn (turn s x).state xs) ys))

  tally-append : (t : Tally) (s : S) (xs ys : List Told) → tally_after turn t s (xs ++ ys) ≡ tally_after turn (tally_after turn t s xs) (state_after turn s xs) ys
  tally-append t s [] ys = refl
  tally-append t s (x ∷ xs) ys = tally-append (tallied t (turn s x).is_fault) (turn s x).state xs ys

  -- no line
  pub ran_none : (s : S) (t : Tally) (a b : Option (List ℕ)) → Appends a b [] → Ran turn s s t t a b []
  ran_none s t a b h = record { told = []; lines_are = refl; state = refl; tally = refl; text = h }

  module _ (s0 s1 s2 : S) (t0 t1 t2 : Tally) (a b c : Option (List ℕ)) (xs ys : List (List ℕ)) (p : Ran turn s0 s1 t0 t1 a b xs) where
    ran_ran : Ran turn s1 s2 t1 t2 b c ys → Ran turn s0 s2 t0 t2 a c (xs ++ ys)
    ran_ran q = record {
      told = p.told ++ q.told;
      lines_are = lines-append p.told q.told ∙ ap₂ (λ u v. u ++ v) p.lines_are q.lines_are;
      state = q.state ∙ (ap (λ s. state_after turn s q.told) p.state ∙ sym (state-append s0 p.told q.told));
      tally = q.tally ∙ (ap₂ (λ t s. tally_after turn t s q.told) p.tally p.state ∙ sym (tally-append t0 s0 p.told q.told));
      text = rw (text-append s0 p.told q.told, ← p.state) (Appends-trans a b c (text_of turn s0 p.told) (text_of turn s1 q.told) p.text q.text);
    }

    ran_stopped : Stopped turn s1 s2 t1 t2 b c ys → Stopped turn s0 s2 t0 t2 a c (xs ++ ys)
    ran_stopped q =
        let there : state_after turn s0 (p.told ++ q.told) ≡ state_after turn s1 q.told = state-append s0 p.told q.told ∙ ap (λ s. state_after turn s q.told) (sym p.state) in
        let counted : tally_after turn t0 s0 (p.told ++ q.told) ≡ tally_after turn t1 s1 q.told =
        tally-append t0 s0 p.told q.told ∙ ap₂ (λ t s. tally_after turn t s q.told) (sym p.tally) (sym p.state) in
        record {
          told = p.told ++ q.told;
          last = q.last;
          unrun = q.unrun;
          front = q.front;
          unwritten = q.unwritten;
          speaks = ap (λ s. is_empty (turn s q.last).text) there ∙ q.speaks;
          lines_are = ap (λ l. l ++ q.last.line ∷ q.unrun) (lines-append p.told q.told)
              ∙ (append_assoc (map line_told p.told) (map line_told q.told) (q.last.line ∷ q.unrun) ∙ ap₂ (λ u v. u ++ v) p.lines_are q.lines_are);
          state = q.state ∙ ap (λ s. (turn s q.last).state) (sym there);
          tally = q.tally ∙ ap₂ (λ t s. tallied t (is_told (turn s q.last).is_fault q.unwritten)) (sym counted) (sym there);
          front_is = ap (λ s. (turn s q.last).text) there ∙ q.front_is;
          text = rw (text-append s0 p.told q.told, ← p.state, append_assoc (text_of turn s0 p.told) (text_of turn s1 q.told) q.front)
              (Appends-trans a b c (text_of turn s0 p.told) (text_of turn s1 q.told ++ q.front) p.text q.text);
        }

    -- lines that were run, and then others in either outcome
    pub answers_then : {T : Type 0} (r : Result T WriteFault) → Answers turn s1 s2 t1 t2 b c ys r → Answers turn s0 s2 t0 t2 a c (xs ++ ys) r
    answers_then (Ok x) q = ran_ran q
    answers_then (Err e) q = ran_stopped q

  -- a fault among some lines is one among those and more
  pub stopped_more : (s0 s1 : S) (t0 t1 : Tally) (a b : Option (List ℕ)) (xs ys : List (List ℕ)) → Stopped turn s0 s1 t0 t1 a b xs → Stopped turn s0 s1 t0 t1 a b (xs ++ ys)
  stopped_more s0 s1 t0 t1 a b xs ys p = record {
    told = p.told;
    last = p.last;
    unrun = p.unrun ++ ys;
    front = p.front;
    unwritten = p.unwritten;
    lines_are = sym (append_assoc (map line_told p.told) (p.last.line ∷ p.unrun) ys) ∙ ap (λ l. l ++ ys) p.lines_are;
    speaks = p.speaks;
    state = p.state;
    tally = p.tally;
    front_is = p.front_is;
    text = p.text;
  }

  -- the whole lines of bytes, and then of more
  pub answers_more : {T : Type 0} (s0 s1 s2 : S) (t0 t1 t2 : Tally) (a b c : Option (List ℕ)) (unfinished xs ys : List ℕ) → Ran turn s0 s1 t0 t1 a b (whole_lines unfinished xs)
      → (r : Result T WriteFault) → Answers turn s1 s2 t1 t2 b c (whole_lines (last_part unfinished xs) ys) r
      → Answers turn s0 s2 t0 t2 a c (whole_lines unfinished (xs ++ ys)) r
  answers_more s0 s1 s2 t0 t1 t2 a b c unfinished xs ys p r q =
      rw (whole_append unfinished xs ys) (answers_then s0 s1 s2 t0 t1 t2 a b c (whole_lines unfinished xs) (whole_lines (last_part unfinished xs) ys) p r q)

  pub stopped_front : (s0 s1 : S) (t0 t1 : Tally) (a b : Option (List ℕ)) (unfinished xs ys : List ℕ) → Stopped turn s0 s1 t0 t1 a b (whole_lines unfinished xs)
      → Stopped turn s0 s1 t0 t1 a b (whole_lines unfinished (xs ++ ys))
  stopped_front s0 s1 t0 t1 a b unfinished xs ys p = rw (whole_append unfinished xs ys) (stopped_more s0 s1 t0 t1 a b (whole_lines unfinished xs) (whole_lines (last_part unfinished xs) ys) p)

  module _ (s0 s1 s2 : S) (t0 t1 t2 : Tally) (r0 r1 r2 c0 c1 c2 : Option (List ℕ)) (seen more : List ℕ) (took : Consumes r0 r1 seen) (takes : Consumes r1 r2 more)
      (p : Ran turn s0 s1 t0 t1 c0 c1 (whole_lines [] seen)) where
    -- more bytes were read and their lines answered
    pub feed_goes : (r : Result (Unit {0}) WriteFault) → is_err r ≡ false → Answers turn s1 s2 t1 t2 c1 c2 (whole_lines (last_part [] seen) more) r
        → Consumes r0 r2 (seen ++ more) × Ran turn s0 s2 t0 t2 c0 c2 (whole_lines [] (seen ++ more))
    feed_goes (Err f) e q = absurd (let bad : true ≡ false = e in cc)
    feed_goes (Ok x) e q = (Consumes-trans r0 r1 r2 seen more took takes, answers_more {T = Unit {0}} s0 s1 s2 t0 t1 t2 c0 c1 c2 [] seen more p (Ok x) q)

    -- a write failed among their answers
    pub feed_fails : (r : Result (Unit {0}) WriteFault) → is_err r ≡ true → Answers turn s1 s2 t1 t2 c1 c2 (whole_lines (last_part [] seen) more) r
        → Consumes r0 r2 (seen ++ more) × Stopped turn s0 s2 t0 t2 c0 c2 (whole_lines [] (seen ++ more))
    feed_fails (Ok x) e q = absurd (let bad : false ≡ true = e in cc)
    feed_fails (Err f) e q =
        (Consumes-trans r0 r1 r2 seen more took takes, answers_more {T = Unit {0}} s0 s1 s2 t0 t1 t2 c0 c1 c2 [] seen more p (Err f) q)

    -- nothing more was there
    took_all : more ≡ [] → Consumes r0 r2 seen
    took_all z = rw (z, append-nil seen) at (Consumes-trans r0 r1 r2 seen more took takes)

    -- the last line was answered
    pub last_goes : more ≡ [] → is_empty (last_part [] seen) ≡ false → (r : Result (Unit {0}) WriteFault) → is_err r ≡ false
        → Answers turn s1 s2 t1 t2 c1 c2 (last_part [] seen ∷ []) r → Consumes r0 r2 seen × Ran turn s0 s2 t0 t2 c0 c2 (lines_of seen)
    last_goes z some (Err f) e q = absurd (let bad : true ≡ false = e in cc)
    last_goes z some (Ok x) e q = (took_all z, rw some (ran_ran s0 s1 s2 t0 t1 t2 c0 c1 c2 (whole_lines [] seen) (last_part [] seen ∷ []) p q))

    -- and its write failed
    pub last_fails : more ≡ [] → is_empty (last_part [] seen) ≡ false → (r : Result (Unit {0}) WriteFault) → is_err r ≡ true
        → Answers turn s1 s2 t1 t2 c1 c2 (last_part [] seen ∷ []) r → Consumes r0 r2 seen × Stopped turn s0 s2 t0 t2 c0 c2 (lines_of seen)
    last_fails z some (Ok x) e q = absurd (let bad : false ≡ true = e in cc)
    last_fails z some (Err f) e q = (took_all z, rw some (ran_stopped s0 s1 s2 t0 t1 t2 c0 c1 c2 (whole_lines [] seen) (last_part [] seen ∷ []) p q))

    -- there was no last line
    pub none_left : more ≡ [] → is_empty (last_part [] seen) ≡ true → Consumes r0 r2 seen × Ran turn s0 s1 t0 t1 c0 c1 (lines_of seen)
    none_left z none = (took_all z, rw (none, append-nil (whole_lines [] seen)) p)

  -- one line, whose text was written
  pub ran_one : (s0 s1 : S) (t t1 : Tally) (a b : Option (List ℕ)) (told : Told) (is_fault : Bool) (text : List ℕ)
      → turn s0 told ≡ record { state = s1; text = text; is_fault = is_fault } → t1 ≡ tallied t is_fault → Appends a b text → Ran turn s0 s1 t t1 a b (told.line ∷ [])
  ran_one s0 s1 t t1 a b told is_fault text e count h = record {
    told = told ∷ [];
    lines_are = refl;
    state = sym (ap (λ (t : Turn S). t.state) e);
    tally = count ∙ ap (λ (x : Turn S). tallied t x.is_fault) (sym e);
    text = rw (ap (λ (t : Turn S). t.text) e, append-nil text) h;
  }

  -- one line that has a text, of which a front was written
  pub stopped_one : (s0 s1 : S) (t t1 : Tally) (a b : Option (List ℕ)) (told : Told) (is_fault : Bool) (text : List ℕ)
      → turn s0 told ≡ record { state = s1; text = text; is_fault = is_fault } → is_empty text ≡ false → (h : AppendsSome a b text) → t1 ≡ tallied t (is_told is_fault h.1)
      → Stopped turn s0 s1 t t1 a b (told.line ∷ [])
  stopped_one s0 s1 t t1 a b told is_fault text e some h count = record {
    told = [];
    last = told;
    unrun = [];
    front = h.0;
    unwritten = h.1;
    lines_are = refl;
    speaks = ap (λ (t : Turn S). is_empty t.text) e ∙ some;
    state = sym (ap (λ (t : Turn S). t.state) e);
    tally = count ∙ ap (λ (x : Turn S). tallied t (is_told x.is_fault h.1)) (sym e);
    front_is = ap (λ (t : Turn S). t.text) e ∙ h.2;
    text = h.3;
  }

-- the turns of a line
abbrev pub turns_of : {S : Type 0} → (S → Told → Turn S) → S → List ℕ → Bool → Turn S
turns_of turn s line is_short = turn s (record { line = line; is_short = is_short })

module _ {S F : Type 0} (turn : S → Told → Turn S) (fault_line : F → List ℕ) (says : (f : F) → is_empty (fault_line f) ≡ false) where
  -- a line that was performed, or whose text could not be written
  pub performed_text : (s0 s1 : S) (t : Tally) (a b : Option (List ℕ)) (line : List ℕ) → Performs fault_line (turns_of turn s0 line) s1 a b (Ok None)
      → Ran turn s0 s1 t (tallied t false) a b (line ∷ [])
  performed_text s0 s1 t a b line p = ran_one turn s0 s1 t (tallied t false) a b (record { line = line; is_short = false }) false p.0 p.1 refl p.2

  pub performed_stopped : (s0 s1 : S) (t : Tally) (a b : Option (List ℕ)) (line : List ℕ) (e : WriteFault) → Performs fault_line (turns_of turn s0 line) s1 a b (Err e)
      → Stopped turn s0 s1 t (tallied t false) a b (line ∷ [])
  performed_stopped s0 s1 t a b line e p = stopped_one turn s0 s1 t (tallied t false) a b (record { line = line; is_short = false }) false p.0 p.1 p.3 p.2 refl

  -- a line that was refused, and whose fault's line was written, whole or not
  pub refused_whole : (s0 s1 : S) (t : Tally) (a b c : Option (List ℕ)) (line : List ℕ) (f : F) → Performs fault_line (turns_of turn s0 line) s1 a b (Ok (Some f))
      → Appends b c (fault_line f) → Ran turn s0 s1 t (tallied t true) a c (line ∷ [])
  refused_whole s0 s1 t a b c line f p q = ran_one turn s0 s1 t (tallied t true) a c (record { line = line; is_short = p.0 }) true (fault_line f) p.1 refl (kept-appends a b c (fault_line f) p.2 q)

  pub refused_stopped : (s0 s1 : S) (t : Tally) (a b c : Option (List ℕ)) (line : List ℕ) (f : F) → Performs fault_line (turns_of turn s0 line) s1 a b (Ok (Some f))
      → AppendsFront b c (fault_line f) → Stopped turn s0 s1 t (tallied t false) a c (line ∷ [])
  refused_stopped s0 s1 t a b c line f p q =
      stopped_one turn s0 s1 t (tallied t false) a c (record { line = line; is_short = p.0 }) true (fault_line f) p.1 (says f) (q.0, q.1 ∷ q.2, q.3, kept-appends a b c q.0 p.2 q.4) refl

  -- its line was written, and handed on or not
  pub refused_answers : {T : Type 0} (s0 s1 : S) (t : Tally) (a b c d : Option (List ℕ)) (line : List ℕ) (f : F) → Performs fault_line (turns_of turn s0 line) s1 a b (Ok (Some f))
      → Appends b c (fault_line f) → Keeps c d → (r : Result T WriteFault) → Answers turn s0 s1 t (tallied t true) a d (line ∷ []) r
  refused_answers s0 s1 t a b c d line f p q k (Ok x) = refused_whole s0 s1 t a b d line f p (Appends-kept b c d (fault_line f) q k)
  refused_answers s0 s1 t a b c d line f p q k (Err e) =
      stopped_one turn s0 s1 t (tallied t true) a d (record { line = line; is_short = p.0 }) true (fault_line f) p.1 (says f)
      (fault_line f, [], sym (append-nil (fault_line f)), kept-appends a b d (fault_line f) p.2 (Appends-kept b c d (fault_line f) q k)) refl
