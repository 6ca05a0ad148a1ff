-- The journal after updates: the new entries, and those from before as far as there is room.
use Rattle.std.specs.Prelude.{◌≡◌, ◌++◌, ◌+◌, ◌-◌, ◌<◌, ◌≤◌, ℕ, List, Some, drop, length, min, slice_get, take}
use Rattle.rrd_file.proofs.Names.{◌∙◌, sym, ap, arith, cases_lt, drop-take, flat_map, flat_map-append, inl, inr, get_or-take, get_or_from_slice_get, length-append, length-take, slice_get-get_or, slice_get_within, take-append-drop, take_at, Entry, Stored, entry_pieces, spell, spelled}
use Rattle.rrd_file.specs.Encoded.{HoldsJournal, journal_bytes}
use Rattle.std.proofs.lemmas.List.{drop_all, drop_at}

-- one of the first items
pub taken_at : {A : Type 0} (n : ℕ) (xs : List A) (i : ℕ) (x : A) → i < n → slice_get xs i ≡ Some x → slice_get (take n xs) i ≡ Some x
taken_at n xs i x few is =
    let inside : i < length xs = slice_get_within xs i x is in
    slice_get-get_or (take n xs) i x (omega (arith, length-take n xs, few, inside)) ∙ ap (λ y. Some y) (get_or-take n xs i x few ∙ get_or_from_slice_get xs i x x is)

-- behind the new ones are the first of those from before
stay_behind : {A : Type 0} (count room : ℕ) (new old : List A) → length new ≡ count
    → drop (min count (length (take room (new ++ old)))) (take room (new ++ old)) ≡ take (room - count) old
stay_behind count room new old as_many =
    let all = new ++ old in
    let long = length-take room all in
    let both = length-append new old in
    elim (cases_lt room count) [
      | inl short ↦
          let none : room - count ≡ 0 = omega (arith, short) in
          drop_all (min count (length (take room all))) (take room all) (omega (arith, long, short)) ∙ ap (λ n. take n old) (sym none)
      | inr fits ↦
          let is : min count (length (take room all)) ≡ count = omega (arith, long, both, fits, as_many) in
          let wide : room ≡ count + (room - count) = omega (arith, fits) in
          ap (λ n. drop n (take room all)) is ∙ ap (λ n. drop count (take n all)) wide ∙ drop-take count (room - count) all
          ∙ ap (take (room - count)) (drop_at new old count as_many)
    ]

abbrev pub entries_bytes : List Entry → List ℕ
entries_bytes entries = spelled (flat_map entry_pieces entries)

in_two : (n : ℕ) (entries : List Entry) → entries_bytes entries ≡ entries_bytes (take n entries) ++ entries_bytes (drop n entries)
in_two n entries =
    ap (λ (l : List Entry). entries_bytes l) (sym (take-append-drop n entries)) ∙ ap (λ pieces. spelled pieces) (flat_map-append entry_pieces (take n entries) (drop n entries))
    ∙ flat_map-append spell (flat_map entry_pieces (take n entries)) (flat_map entry_pieces (drop n entries))

module _ (before : List ℕ) (updates newest : ℕ) (now : Stored) (held : HoldsJournal before updates now) (is : newest ≡ min updates (length now.journal)) where
  abbrev old : List Entry
  old = held.before.journal

  abbrev room : ℕ
  room = held.before.content.depth - updates

  behind_is : drop newest now.journal ≡ take room old
  behind_is =
      ap (λ n. drop n now.journal) is ∙ ap (λ (l : List Entry). drop (min updates (length l)) l) held.adds.journal_is
      ∙ stay_behind updates held.before.content.depth held.adds.added old held.adds.as_many

  begins : before ≡ entries_bytes (drop newest now.journal) ++ entries_bytes (drop room old)
  begins = held.bytes_are ∙ in_two room old ∙ ap (λ (l : List Entry). entries_bytes l ++ entries_bytes (drop room old)) (sym behind_is)

  pub stay_within : length (entries_bytes (drop newest now.journal)) ≤ length before
  stay_within = omega (arith, ap length begins, length-append (entries_bytes (drop newest now.journal)) (entries_bytes (drop room old)))

  pub journal_joined : (stay : ℕ) → stay ≡ length (entries_bytes (drop newest now.journal)) → entries_bytes (take newest now.journal) ++ take stay before ≡ journal_bytes now
  journal_joined stay long =
      ap (λ (l : List ℕ). entries_bytes (take newest now.journal) ++ l)
      (ap (take stay) begins ∙ take_at (entries_bytes (drop newest now.journal)) (entries_bytes (drop room old)) stay (sym long))
      ∙ sym (in_two newest now.journal)
