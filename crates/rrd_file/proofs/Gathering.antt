-- Bytes that are gathered one after another.
use Rattle.std.specs.Prelude.{◌≡◌, ◌+◌, ◌<◌, ◌≤◌, ◌++◌, ◌∷◌, ℕ, List, [], Option, Some, Result, Ok, Err, take, drop, length, map, slice_get, option_map}
use Rattle.rrd_file.proofs.Names.{◌∙◌, sym, ap, refl, subst, get_or, append_assoc, append-nil, flat_map, Appends-trans, flat_map-append, take_more, take-append-drop, take_all, flat_map-cons, get_or_from_slice_get, slice_get_within, slice_get-get_or, slice_get-map, AppendsFront, Writes, WriteFault, writes_stop, writes_then, Adds, Breaks, Gathers, PieceWriter}

-- ---- one run of bytes and then another

module _ {W : Type 0} {contents : W → Option (List ℕ)} where
  pub adds_then : {p q r : PieceWriter W} {xs ys : List ℕ} → Adds contents p q xs → Adds contents q r ys → Adds contents p r (xs ++ ys)
  adds_then {p} {q} {r} {xs} {ys} f s = record {
    same_reference = s.same_reference ∙ f.same_reference;
    written = f.written ++ s.written;
    appends = Appends-trans (contents p.out.now) (contents q.out.now) (contents r.out.now) f.written s.written f.appends s.appends;
    whole =
        append_assoc f.written s.written r.block ∙ (ap (λ l. f.written ++ l) s.whole
        ∙ (sym (append_assoc f.written q.block ys) ∙ (ap (λ l. l ++ ys) f.whole ∙ append_assoc p.block xs ys)));
  }

  pub breaks_then : {p q r : PieceWriter W} {xs ys : List ℕ} → Adds contents p q xs → Breaks contents q r ys → Breaks contents p r (xs ++ ys)
  breaks_then {p} {q} {r} {xs} {ys} f s =
      let same : f.written ++ (q.block ++ ys) ≡ p.block ++ (xs ++ ys) =
      sym (append_assoc f.written q.block ys) ∙ (ap (λ l. l ++ ys) f.whole ∙ append_assoc p.block xs ys) in
      record {
        same_reference = s.same_reference ∙ f.same_reference;
        front = subst (AppendsFront (contents p.out.now) (contents r.out.now)) same (writes_then {T = Unit {0}} (contents p.out.now) (contents q.out.now) (contents r.out.now) f.written (q.block ++ ys) (Err record {}) f.appends s.front);
      }

  pub gathers_then : {T : Type 0} {p q : PieceWriter W} {xs : List ℕ} (r : PieceWriter W) (ys : List ℕ) (result : Result T WriteFault) → Adds contents p q xs → Gathers contents q r ys result → Gathers contents p r (xs ++ ys) result
  gathers_then r ys (Ok t) f s = adds_then f s
  gathers_then r ys (Err e) f s = breaks_then f s

  -- a fault before the rest
  pub breaks_stop : {p r : PieceWriter W} {xs : List ℕ} (ys : List ℕ) → Breaks contents p r xs → Breaks contents p r (xs ++ ys)
  breaks_stop {p} {r} {xs} ys f = record {
    same_reference = f.same_reference;
    front = subst (AppendsFront (contents p.out.now) (contents r.out.now)) (append_assoc p.block xs ys) (writes_stop (contents p.out.now) (contents r.out.now) (p.block ++ xs) ys f.front);
  }

  -- ---- a piece

  -- there was room, and the piece was added
  pub piece_added : {p q : PieceWriter W} {waits : List ℕ} (bs : List ℕ) → Adds contents p q [] → waits ≡ q.block ++ bs → Adds contents p (record q { block = waits }) bs
  piece_added {p} {q} {waits} bs f is = record {
    same_reference = f.same_reference;
    written = f.written;
    appends = f.appends;
    whole =
        ap (λ l. f.written ++ l) is ∙ (sym (append_assoc f.written q.block bs) ∙ (ap (λ l. l ++ bs) f.whole ∙ ap (λ l. l ++ bs) (append-nil p.block)));
  }

  pub no_room : {p r : PieceWriter W} (bs : List ℕ) → Breaks contents p r [] → Breaks contents p r bs
  no_room bs f = breaks_stop {xs = []} bs f

  -- ---- nothing waited at the start

  -- the writer that was lent ends as the piece writer left it
  pub all_written : {T : Type 0} {p q : PieceWriter W} {bs : List ℕ} (start last end : W) (result : Result T WriteFault) → p.out.now ≡ start → p.block ≡ [] → end ≡ last
      → Adds contents p q bs → Writes (contents q.out.now) (contents last) q.block result → Writes (contents start) (contents end) bs result
  all_written {T} {p} {q} {bs} start last end result begun none ended f s =
      rw (sym begun, ended) (subst (λ l. Writes (contents p.out.now) (contents last) l result) (f.whole ∙ ap (λ l. l ++ bs) none)
      (writes_then (contents p.out.now) (contents q.out.now) (contents last) f.written q.block result f.appends s))

  pub front_written : {p r : PieceWriter W} {bs : List ℕ} (start end : W) → p.out.now ≡ start → p.block ≡ [] → end ≡ r.out.now → Breaks contents p r bs → AppendsFront (contents start) (contents end) bs
  front_written {p} {r} {bs} start end begun none ended f =
      rw (sym begun, ended) (subst (AppendsFront (contents p.out.now) (contents r.out.now)) (ap (λ l. l ++ bs) none) f.front)

-- ---- items one after another

flat_one : {A : Type 0} (f : A → List ℕ) (x : A) → flat_map f (x ∷ []) ≡ f x
flat_one f x = flat_map-cons f x [] ∙ append-nil (f x)

-- one more item
pub one_more : {A : Type 0} (f : A → List ℕ) (xs : List A) (i : ℕ) (x : A) → slice_get xs i ≡ Some x → flat_map f (take (i + 1) xs) ≡ flat_map f (take i xs) ++ f x
one_more f xs i x is =
    let inside : i < length xs = slice_get_within xs i x is in
    cc (take_more xs i x inside ∙ ap (λ y. take i xs ++ y ∷ []) (get_or_from_slice_get xs i x x is), flat_map-append f (take i xs) (x ∷ []), flat_one f x)

module _ {W : Type 0} {contents : W → Option (List ℕ)} where
  pub item_added : {A : Type 0} {p q r : PieceWriter W} (f : A → List ℕ) (items : List A) (i : ℕ) (item : A) → slice_get items i ≡ Some item
      → Adds contents p q (flat_map f (take i items)) → Adds contents q r (f item) → Adds contents p r (flat_map f (take (i + 1) items))
  item_added {A} {p} {q} {r} f items i item is before here =
      subst (Adds contents p r) (sym (one_more f items i item is)) (adds_then before here)

  -- a fault in one item, after those before it
  pub item_broken : {A : Type 0} {p q r : PieceWriter W} (f : A → List ℕ) (items : List A) (i : ℕ) (item : A) → slice_get items i ≡ Some item
      → Adds contents p q (flat_map f (take i items)) → Breaks contents q r (f item) → Breaks contents p r (flat_map f items)
  item_broken {A} {p} {q} {r} f items i item is before broken =
      let all = flat_map f items in
      let rest = flat_map f (drop (i + 1) items) in
      let whole : flat_map f (take (i + 1) items) ++ rest ≡ all =
      sym (flat_map-append f (take (i + 1) items) (drop (i + 1) items)) ∙ ap (flat_map f) (take-append-drop (i + 1) items) in
      subst (Breaks contents p r) (ap (λ l. l ++ rest) (sym (one_more f items i item is)) ∙ whole) (breaks_stop rest (breaks_then before broken))

  pub all_added : {A : Type 0} {p q : PieceWriter W} (f : A → List ℕ) (items : List A) (i : ℕ) → length items ≤ i
      → Adds contents p q (flat_map f (take i items)) → Adds contents p q (flat_map f items)
  all_added {A} {p} {q} f items i le h = subst (λ l. Adds contents p q (flat_map f l)) (take_all i items le) h

-- ---- pieces of pieces

pub flat_flat : {A B : Type 0} (f : B → List ℕ) (g : A → List B) (xs : List A) → flat_map f (flat_map g xs) ≡ flat_map (λ x. flat_map f (g x)) xs
flat_flat f g [] = refl
flat_flat f g (x ∷ xs) = cc (flat_map-cons g x xs, flat_map-append f (g x) (flat_map g xs), flat_flat f g xs, flat_map-cons (λ y. flat_map f (g y)) x xs)

-- the item of a place
pub item_at : {A : Type 0} (xs : List A) (i : ℕ) (d : A) → i < length xs → slice_get xs i ≡ Some (get_or xs i d)
item_at xs i d inside = slice_get-get_or xs i d inside

pub mapped_at : {A B : Type 0} (g : A → B) (xs : List A) (i : ℕ) (x : A) → slice_get xs i ≡ Some x → slice_get (map g xs) i ≡ Some (g x)
mapped_at g xs i x is = slice_get-map g xs i ∙ ap (option_map g) is
