-- Reading texts one after another.
use Rattle.std.specs.Prelude.{◌≡◌, ◌+◌, ◌<◌, ◌++◌, ◌∷◌, ℕ, List, [], Option, Some, None, Result, Ok, Err, length, drop, suc}
use Rattle.rrd_tool.proofs.Names.{◌∙◌, ap, refl, sym, get_or, append_assoc, add-one, drop-cons, Text, Meets, Unread, each_of, or_fault, ◌>>=◌, LineFault, Usage, BadWord, OutOfMemory, Part}

split : (words : List Text) (i : ℕ) (word : Text) → i < length words → get_or words i [] ≡ word → drop i words ≡ word ∷ drop (i + 1) words
split words i word h e = rw add-one (drop-cons words i [] h ∙ ap (λ v. v ∷ drop (suc i) words) e)

module _ {A : Type 0} where
  -- ---- the pieces of a text

  -- the items before those that are read
  abbrev pub joined : List A → Option (List A) → Option (List A)
  joined xs (Some ys) = Some (xs ++ ys)
  joined xs None = None

  -- ---- the words of a command

  -- the items before those that are read
  abbrev pub prepend : List A → Result (List A) Unread → Result (List A) Unread
  prepend xs (Ok ys) = Ok (xs ++ ys)
  prepend xs (Err e) = Err e

  prepend-more : (xs : List A) (x : A) (read : Result (List A) Unread) → prepend xs (read >>= (λ ys. Ok (x ∷ ys))) ≡ prepend (xs ++ x ∷ []) read
  prepend-more xs x (Ok ys) = ap (λ zs. Ok zs) (sym (append_assoc xs (x ∷ []) ys))
  prepend-more xs x (Err e) = refl

  -- one more word is read
  pub word_more : (read : Text → Option A) (part : Part) (n : ℕ) (words : List Text) (i : ℕ) (word : Text) (xs : List A) (x : A)
      → i < length words → get_or words i [] ≡ word → or_fault part n (read word) ≡ Ok x
      → prepend xs (each_of read part n (drop i words)) ≡ prepend (xs ++ x ∷ []) (each_of read part (n + 1) (drop (i + 1) words))
  word_more read part n words i word xs x h e r =
      rw (split words i word h e, r) (prepend-more xs x (each_of read part (n + 1) (drop (i + 1) words)))

  word_stops : (read : Text → Option A) (part : Part) (n : ℕ) (words : List Text) (i : ℕ) (word : Text) (xs : List A) (u : Unread)
      → i < length words → get_or words i [] ≡ word → or_fault part n (read word) ≡ Err u → prepend xs (each_of read part n (drop i words)) ≡ Err u
  word_stops read part n words i word xs u h e r = rw (split words i word h e, r) refl

  -- a word that can't be read ends it
  pub word_fails : (read : Text → Option A) (part : Part) (n : ℕ) (words : List Text) (i : ℕ) (word : Text) (xs : List A)
      (whole : Result (List A) Unread) (answer : Result (List A) LineFault) (fault : LineFault)
      → i < length words → get_or words i [] ≡ word → whole ≡ prepend xs (each_of read part n (drop i words)) → answer ≡ Err fault
      → Meets (or_fault part n (read word)) (Err fault) → Meets whole answer
  word_fails read part n words i word xs whole answer Usage h g w e m = absurd m
  word_fails read part n words i word xs whole answer OutOfMemory h g w e m = rw e tt
  word_fails read part n words i word xs whole answer (BadWord p k) h g w e m = rw e (w ∙ word_stops read part n words i word xs (p, k) h g m)

-- a fault of what is read first is one of the whole
pub meets_first : {A B : Type 0} (read : Result A Unread) (next : A → Result B Unread) (fault : LineFault) → Meets read (Err fault) → Meets (read >>= next) (Err fault)
meets_first read next Usage h = absurd h
meets_first read next OutOfMemory h = tt
meets_first read next (BadWord part number) h = rw h refl
