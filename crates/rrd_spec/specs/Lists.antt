-- Glue: what a list ends as, once a `&mut` into it has ended.
use Rattle.std.specs.Prelude.{List, length}
use Rattle.rrd_spec.specs.Names.{refill, Array, Fml, Lends, MutBor, RattleType}
use Rattle.rrd_spec.specs.contracts.list.List.{the_row}

module _ (T : RattleType) (list : MutBor (List T.Denot)) where
  -- the items are those that were last written through the loan
  abbrev pub LendsItems : MutBor (List T.Denot) → Fml
  LendsItems items = Lends (the_row T) (Array T 0) list items (refill (length list.now) list.now)
