-- `row_mut` lends a part of a vector on, and as many cells come back as were lent. The borrow checker shows that the
-- vector ends with what was written, and not that there is as much of it, so this proof walks the code by hand.
use Rattle.rrd_ring.proofs.Common.{◌≡◌, ℕ, List, [], ◌∷◌, refl, sym, ap, ◌∙◌, length, MutBor, proved, Ura, Lifetime, named, w64, Val, vint, SProp, ent, sep, ex, emp, guard, id⊢, coded_list, Lft, GName, Share, ftrue, flft, fobs, fbor, Logic, sem, takes_part, open_ref, cells, Arr, Body, Item, ‵, ◌⊛◌, raw, given, some, later, ◌$◌, ◌∵◌, !, qed, move, keep, split, split3, join, group, rewrite, feq_i, feq_l, fsplit, fsplit3, fjoin, use1, use2, updating, await, pick, learn, check, now, show, suffices, frame, done, stop, addr, and_then, no_more, returns, enter, alloc_all, pass_all, free_all, look_at, get, through, sets, lands_as, fact, tables, Array, usize, yes, no, follows, follows_then, heres_id, slice_of, mem, uint_vals, uint_Tells, RattleType, mut_vals, mut_Tells, pure_l, plain, MutSlice, Room, shr_slice_at, slice_val, nothing, heard, only, calls_at, lasts, triple_of, framed, says, Stays, stay_dropped, Goes-dropped, Goes-spent_ref, ends_at, refill, slice_range, with_items_from, Cell, cells_row, refill_same}
use types.Kit.{drop}
use Rattle.rrd_fixed.specs.contracts.stored.StoredCell.{the_row as cell_row}
use Rattle.rrd_ring.specs.contracts.ring.row_mut as f
use Rattle.rrd_ring.proofs.ring.row_mut.Statement.{statement}
use Rattle.rrd_ring.proofs.ring.row_mut.Code as code
use Rattle.rrd_ring.specs.contracts.ring.part_mut as g
use Rattle.rrd_ring.proofs.ring.part_mut.Met.{met}

-- a slice under a new name, which it follows with as many elements as it had
module _ {M : Type 1} {𝓤 : Ura M} (𝓛 : Logic 𝓤) (ℓ : Lifetime) (κ : Lft) (q : Share) (b o : ℕ) (γ : GName) (R : RattleType) (xs : List R.Denot) (vs : List Val) where
  open 𝓛 use {H, A}

  abbrev filled : List R.Denot → List R.Denot
  filled ws = refill (length xs) xs ws

  abbrev Told : Type 0
  Told = (vs ≡ slice_val (b, o) (length xs) ∷ []) × Room R (length xs)

  abbrev Lent : GName → SProp 𝓤
  Lent δ = guard 𝓤 Told (sep 𝓤 (sem 𝓛 ((MutSlice ℓ κ R).own_val (record { ref_ptr = (b, o); ghost_name = δ; now = xs }) (slice_val (b, o) (length xs) ∷ []))) (sep 𝓤 (A.lft κ q) (sem 𝓛 (follows (Array R 0) (Array R 0) γ δ filled))))

  abbrev lent : GName → Item 𝓤
  lent δ = given Told (‵ ((MutSlice ℓ κ R).own_val (record { ref_ptr = (b, o); ghost_name = δ; now = xs }) (slice_val (b, o) (length xs) ∷ [])) ⊛ ‵ (flft κ q) ⊛ ‵ (follows (Array R 0) (Array R 0) γ δ filled))

  put : (ws : List R.Denot) → ent 𝓤 (sep 𝓤 (sem 𝓛 ((Arr (mem R) (length xs)).own_at ws b o)) (emp 𝓤)) (sem 𝓛 ((Arr (mem R) (length xs)).own_at (filled ws) b o))
  put ws = qed 𝓛 (‵ ((Arr (mem R) (length xs)).own_at ws b o) ∷ raw (emp 𝓤) ∷ []) ∵ fsplit ! $ feq_l ! (λ e.
      rewrite ! 0 (λ (l : List R.Denot). ‵ (cells (mem R) l b o)) (sym (refill_same xs ws e)) refl $
      feq_i ! ℕ (length (filled ws)) (length xs) (ap length (refill_same xs ws e) ∙ e) $ fjoin ! $ keep ! (0 ∷ []) $ done !)

  lends : ent 𝓤 (sep 𝓤 (sem 𝓛 ((MutSlice ℓ κ R).own_val (record { ref_ptr = (b, o); ghost_name = γ; now = xs }) vs)) (A.lft κ q)) (H.⇛ (ex 𝓤 Lent))
  lends = qed 𝓛 (‵ ((MutSlice ℓ κ R).own_val (record { ref_ptr = (b, o); ghost_name = γ; now = xs }) vs) ∷ ‵ (flft κ q) ∷ []) ∵ updating ! $ fsplit3 ! $
      pure_l ! (shr_slice_at R (record { ref_ptr = (b, o); now = xs }) vs) (λ told.
      rewrite ! 0 (λ (l : List R.Denot). ‵ (fobs γ ((coded_list R.coded).code l))) (heres_id R xs) refl $ open_ref ! tt (Arr (mem R) (length xs)) {b = b} {o = o} $
      nothing ! $ move ! (2 ∷ 3 ∷ 4 ∷ 1 ∷ 0 ∷ []) $ group ! 5 $
      use1 𝓛 (later (some (λ (δ : GName). ‵ (fobs δ ((coded_list R.coded).code xs)) ⊛ ‵ (fbor κ (Body (Arr (mem R) (length xs)) b o δ)) ⊛ ‵ (flft κ q) ⊛ ‵ (follows (Array R 0) (Array R 0) γ δ filled))))
      (takes_part 𝓛 (Arr (mem R) (length xs)) (Arr (mem R) (length xs)) filled κ q b o b o γ (emp 𝓤) put ((coded_list R.coded).code xs) ((coded_list R.coded).code xs) xs) $ await ! tt $ pick ! (λ δ. split3 ! $
      use2 𝓛 (‵ ((MutSlice ℓ κ R).own_val (record { ref_ptr = (b, o); ghost_name = δ; now = xs }) (slice_val (b, o) (length xs) ∷ []))) (slice_of 𝓛 R ℓ κ b o δ xs told.1) $
      now ! $ show ! Lent δ $ check ! told $ done !))

abbrev stayed : Stays f.ended.signature.params f.ended.kept
stayed = (stay_dropped _ no, (stay_dropped _ yes, (stay_dropped _ yes, tt)))

pub row_mut_spec : {M : Type 1} → statement M
row_mut_spec 𝓤 𝓛 𝓜 𝓡 wired =
    let c = f.clauses 𝓛 𝓜.mem 𝓡.returns in
    proved 𝓛 f.ended stayed c 𝓜 𝓡 (Goes-spent_ref 𝓛 1 (0 ∷ []) tt (plain (λ _. cells_row)), (Goes-dropped 𝓛 1 (plain (λ _. usize)) yes (λ κs x w. refl), (Goes-dropped 𝓛 1 (plain (λ _. usize)) yes (λ κs x w. refl), tt)))
    f.Key.name code.function (code.unfolded 𝓤 𝓛.H 𝓜 𝓡 wired)
    (λ κs. (mut_vals, (uint_vals w64, (uint_vals w64, tt)))) (λ κs. (mut_Tells (named 0) κs.0 cells_row, (uint_Tells w64, (uint_Tells w64, tt)))) (λ κs qs bounds a n are.
    let κ = κs.0 in let q = qs.0 in let γ = a.0.ghost_name in let v = a.0.now in let start = a.1.0 in let end = a.1.1.0 in
    let G = triple_of 𝓛 g.signature (g.spec 𝓛 𝓜.mem 𝓡.returns) in
    let z : G.Ghost = ((κs, qs, bounds, a, (mut_vals a.0, (vint w64 start ∷ [], (vint w64 end ∷ [], tt)))), n) in
    qed 𝓛 (raw (G.pre z) ∷ []) ∵ enter ! _ _ _ _ _ $
    alloc_all ! (λ l. pass_all ! refl ((tt, tt), ((tt, record { fits = are.1.0.1 }), ((tt, record { fits = are.1.1.0.1 }), tt))) $
    sets ! (addr ! (through ! refl (stop !))) refl (tt, tt) $
    calls_at ! (framed 𝓤 𝓛.H 𝓜 (tables 𝓤 𝓛.H 𝓜 𝓡 𝓡.env)) G (met 𝓤 𝓛 𝓜 𝓡 (code.calls-rrd_ring::ring::part_mut 𝓡.env wired)) z
    (and_then ! (get ! refl) (and_then ! (get ! refl) (and_then ! (get ! refl) (no_more !)))) (λ w.
    use1 𝓛 (later (some (λ (r : MutBor (List Cell)). ((‵ (flft κ q) ⊛ ‵ ftrue) ⊛ ‵ ((MutSlice (named 0) κ cell_row).own_val r (w ∷ []))) ⊛
    some (λ (ws : Unit {0} × (Unit {0} × (Unit {0} × Unit {0}))). ‵ (lasts g.ended κs a ws) ⊛ (‵ (follows cells_row (Array cell_row 0) γ r.ghost_name (with_items_from v start)) ⊛ raw (fact 𝓤 (r.now ≡ slice_range v.items start end))))))) (id⊢ 𝓤 _) $
    await ! tt $ pick ! (λ r. split ! $ split ! $ split ! $ move ! (3 ∷ []) $ pick ! (λ ws. split ! $ drop ! $ split ! $
    -- [what the vector follows; what was lent; the token; nothing; the slice]
    move ! (1 ∷ []) $ heard ! _ (λ is_part. move ! (3 ∷ 1 ∷ []) $
    use2 𝓛 (later (some (λ (δ : GName). lent 𝓛 (named 0) κ q r.ref_ptr.0 r.ref_ptr.1 r.ghost_name cell_row r.now (w ∷ []) δ))) (lends 𝓛 (named 0) κ q r.ref_ptr.0 r.ref_ptr.1 r.ghost_name cell_row r.now (w ∷ [])) $
    await ! tt $ pick ! (λ δ. learn ! (λ told. split3 ! $ move ! (3 ∷ 2 ∷ []) $
    use2 𝓛 (‵ (follows cells_row (Array cell_row 0) γ δ (λ ys. with_items_from v start (refill (length r.now) r.now ys))))
    (follows_then 𝓛 cells_row (Array cell_row 0) (Array cell_row 0) (with_items_from v start) (λ ys. refill (length r.now) r.now ys) γ r.ghost_name δ) $
    rewrite ! 0 (λ (xs : List Cell). ‵ (follows cells_row (Array cell_row 0) γ δ (λ ys. with_items_from v start (refill (length xs) xs ys)))) is_part refl $
    lands_as ! (ap only told.0) refl (tt, (tt, (record { fits = told.1.0 }, tt))) $
    returns ! (look_at ! 0 refl) $ free_all ! refl $ keep ! (1 ∷ 2 ∷ 0 ∷ []) $
    suffices ! _ (ends_at 𝓛 f.ended stayed c z (slice_val r.ref_ptr (length r.now)) (record { ref_ptr = r.ref_ptr; ghost_name = δ; now = r.now }) (tt, (tt, (tt, tt))) (tt, (tt, (tt, tt)))) $
    nothing ! $ nothing ! $ fjoin ! $ nothing ! $ fjoin ! $ nothing ! $ fjoin ! $ join ! $ nothing ! $ move ! (2 ∷ 0 ∷ []) $ join ! $ join ! $ frame ! $ says ! is_part $ done !))))))))
