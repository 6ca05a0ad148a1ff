-- The cells of all archives at an earlier time, of which those of the first archives were written over.
use Rattle.std.specs.Prelude.{◌≡◌, ◌+◌, ◌*◌, ◌≤◌, ◌++◌, ℕ, List, Some, length, take, drop, map, slice_get}
use Rattle.rrd_file.proofs.Names.{◌∙◌, sym, ap, subst, arith, AllByRecursion, flat_map, append-nil, drop_all, take_all, Cell, cells_by_slot, Rra, Content, HasOneEach, StandsInPlace, IsLater, MovesOn, rows_wide, IsValid, HoldsCells, HoldsSlots, spelled, OfCell}
use Rattle.rrd_file.specs.Encoded.{cell_bytes}
use Rattle.rrd_file.proofs.CellsFiled.{cells_spelled}
use Rattle.rrd_file.proofs.Overwritten.{is_next, so_far}
use Rattle.rrd_file.proofs.SlotsHeld.{slots_long}
use Rattle.rrd_file.proofs.Stayed.{as_many_archives, moved_at}
use Rattle.rrd_file.proofs.Told.{archive_at}

-- the bytes of an archive
abbrev pub archive_bytes : ℕ → ℕ → Rra → List ℕ
archive_bytes step last a = spelled (map OfCell (cells_by_slot step last a))

-- the cells of the first archives are there, and then those of an earlier time
pub record ArePutBefore (bytes : List ℕ) (now : Content) (last at number : ℕ) : Type 0 where
  pub before : Content
  pub valid : IsValid before
  pub last_is : last ≡ before.last
  pub later : IsLater before now
  pub at_is : at ≡ length (flat_map (archive_bytes now.step now.last) (take number now.archives))
  pub bytes_are : bytes ≡ so_far (archive_bytes before.step before.last) (archive_bytes now.step now.last) before.archives now.archives number

pub archives_begin : (bytes : List ℕ) (now : Content) (last : ℕ) → HoldsCells bytes now last → ArePutBefore bytes now last 0 0
archives_begin bytes now last held = grind (arith, held, held.bytes_are ∙ cells_spelled (cells_by_slot held.before.step held.before.last) held.before.archives)

module _ (stands : (resolution last : ℕ) (rows : List (List Cell)) (slot : ℕ) → StandsInPlace resolution last rows slot) (now : Content) (valid : IsValid now) where
  -- the next archive
  pub record IsTurnOf (bytes : List ℕ) (last at number size : ℕ) (a : Rra) : Type 0 where
    pub within : at + size ≤ length bytes
    pub held : HoldsSlots (take size (drop at bytes)) now last a
    pub then : ArePutBefore (take at bytes ++ (archive_bytes now.step now.last a ++ drop (at + size) bytes)) now last (at + size) (number + 1)

  pub turn_of : (bytes : List ℕ) (last at number size : ℕ) (a : Rra) → ArePutBefore bytes now last at number → slice_get now.archives number ≡ Some a → size ≡ 16 * (a.def.rows * length now.sources) → IsTurnOf bytes last at number size a
  turn_of bytes last at number size a put there size_is =
      let before = put.before in
      let f = archive_bytes before.step before.last in
      let g = archive_bytes now.step now.last in
      let m = moved_at before.step before.last now.last before.archives now.archives number a put.later.archives_are there in
      let old = m.old in
      let many_sources : length before.sources ≡ length now.sources = ap length (sym put.later.sources_are) in
      let old_valid = archive_at before number old put.valid m.there in
      let new_valid = archive_at now number a valid there in
      let wide_old : AllByRecursion (HasOneEach (length now.sources)) old.rows = subst (λ n. AllByRecursion (HasOneEach n) old.rows) many_sources (rows_wide (length before.sources) old.rows old_valid.each_row) in
      let wide_new : AllByRecursion (HasOneEach (length now.sources)) a.rows = rows_wide (length now.sources) a.rows new_valid.each_row in
      let long_new : length (g a) ≡ size = slots_long stands now number a valid there wide_new ∙ ap (λ n. 16 * (n * length now.sources)) new_valid.rows_are ∙ sym size_is in
      let long_old : length (f old) ≡ size =
      slots_long stands before number old put.valid m.there (subst (λ n. AllByRecursion (HasOneEach n) old.rows) (sym many_sources) wide_old)
      ∙ (λ i. 16 * ((sym m.moved.as_many ∙ new_valid.rows_are) i * many_sources i)) ∙ sym size_is in
      let next = is_next f g before.archives now.archives bytes at number old a put.bytes_are put.at_is m.there there in
      let step_is : before.step ≡ now.step = sym put.later.step_is in
      record {
        within = omega (arith, next.within, long_old);
        held = record {
          before = old;
          bytes_are =
              ap (λ n. take n (drop at bytes)) (sym long_old) ∙ next.here
              ∙ (λ i. spelled (map OfCell (cells_by_slot (step_is i) (sym put.last_is i) old)));
          wide = wide_old;
          earlier = omega (arith, put.later.later, put.last_is);
          moved = subst (λ s. MovesOn s last now.last old a) step_is (subst (λ l. MovesOn before.step l now.last old a) (sym put.last_is) m.moved);
        };
        then = record {
          before = before;
          valid = put.valid;
          last_is = put.last_is;
          later = put.later;
          at_is = omega (arith, next.next, long_new);
          bytes_are = ap (λ n. take at bytes ++ (g a ++ drop (at + n) bytes)) (sym long_old) ∙ next.then;
        };
      }

  pub archives_end : (bytes : List ℕ) (last at number : ℕ) → length now.archives ≤ number → ArePutBefore bytes now last at number → bytes ≡ cell_bytes now
  archives_end bytes last at number past put =
      let before = put.before in
      let f = archive_bytes before.step before.last in
      let g = archive_bytes now.step now.last in
      let many = as_many_archives before.step before.last now.last before.archives now.archives put.later.archives_are in
      put.bytes_are
      ∙ (λ i. flat_map g (take_all number now.archives past i) ++ flat_map f (drop_all number before.archives (omega (arith, many, past)) i))
      ∙ append-nil (flat_map g now.archives) ∙ sym (cells_spelled (cells_by_slot now.step now.last) now.archives)
