use Rattle.rrd_spec.proofs.Slotted.{keeps_row, place_has_slot, places_differ, puts_row, shows_in_place, slot_has_place, stands_in_place}
use Rattle.rrd_spec.proofs.laws.rows_stand_in_slots.Goals as goal

pub returns : goal.returns
returns c = record {
  place = slot_has_place;
  slot = place_has_slot;
  differ = places_differ;
  row = stands_in_place;
  shown = shows_in_place;
  put = puts_row;
  kept = keeps_row;
}
