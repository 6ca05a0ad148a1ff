-- Glue: the value of a list of archives' items after a `&mut` into it has ended.
use Rattle.std.specs.Prelude.{ℕ, List, length, slice_set}
use Rattle.rrd_spec.specs.Names.{refill, Array, Fml, Lends, MutBor, RattleType}
use Rattle.rrd_spec.specs.contracts.archive_list.ArchiveList.{the_row}

module _ (T : RattleType) (list : MutBor (List T.Denot)) where
  -- item `number` ends as the value that was last written through the loan
  abbrev pub LendsItem : ℕ → MutBor T.Denot → Fml
  LendsItem number item = Lends (the_row T) T list item (slice_set list.now number)

  -- the items end as those that were last written through the loan
  abbrev pub LendsItems : MutBor (List T.Denot) → Fml
  LendsItems items = Lends (the_row T) (Array T 0) list items (refill (length list.now) list.now)
