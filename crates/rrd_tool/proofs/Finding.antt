-- What is found in a list.
use Rattle.std.specs.Prelude.{◌≡◌, ◌&&◌, Bool, true, false, List, [], ◌∷◌, Some, None, IfSome, cond}
use Rattle.rrd_tool.proofs.Names.{refl, subst, cond_both, AllByRecursion, find, list_all}

pub both : (x y : Bool) → (x && y) ≡ true → (x ≡ true) × (y ≡ true)
both true y h = (refl, h)
both false y h = cc

module _ {A : Type 0} (p : A → Bool) where
  -- it passes
  passes : (xs : List A) → IfSome (find p xs) (λ x. p x ≡ true)
  passes [] = tt
  passes (x ∷ xs) = cond_both (p x) (Some x) (find p xs) (λ o. IfSome o (λ y. p y ≡ true)) (λ e. e) (λ e. passes xs)

  pub found_passes : (xs : List A) (x : A) → find p xs ≡ Some x → p x ≡ true
  found_passes xs x h = subst (λ o. IfSome o (λ y. p y ≡ true)) h (passes xs)

  pub all_pass : (xs : List A) → list_all p xs ≡ true → AllByRecursion (λ x. p x ≡ true) xs
  all_pass [] h = tt
  all_pass (x ∷ xs) h =
      let parts = both (p x) (list_all p xs) h in
      (parts.0, all_pass xs parts.1)

  -- it is as all of the list are
  pub found_among : (P : A → Type 0) (xs : List A) → AllByRecursion P xs → IfSome (find p xs) P
  found_among P [] h = tt
  found_among P (x ∷ xs) h = cond_both (p x) (Some x) (find p xs) (λ o. IfSome o P) (λ e. h.0) (λ e. found_among P xs h.1)

  passed_over : (x : A) (xs : List A) → (find p xs ≡ None → AllByRecursion (λ y. p y ≡ false) xs) → (b : Bool) → p x ≡ b → cond b (Some x) (find p xs) ≡ None
      → AllByRecursion (λ y. p y ≡ false) (x ∷ xs)
  passed_over x xs rest true e n = absurd cc
  passed_over x xs rest false e n = (e, rest n)

  -- where nothing is found none passes
  pub none_passes : (xs : List A) → find p xs ≡ None → AllByRecursion (λ x. p x ≡ false) xs
  none_passes [] h = tt
  none_passes (x ∷ xs) h = passed_over x xs (none_passes xs) (p x) refl h
