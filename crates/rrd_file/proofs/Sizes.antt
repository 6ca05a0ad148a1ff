-- A piece that may come has the size that is due.
use Rattle.std.specs.Prelude.{◌≡◌, ℕ, length}
use Rattle.rrd_file.proofs.Names.{◌∙◌, sym, ap, refl, arith, length-append, Outline, Limits, part_bytes, raw_bytes, raw_number, cell_number, source_bytes, Piece, spell, Stage, DueInEntry, Takes, body_size, header_size, size, size_due}
use Rattle.rrd_file.proofs.SignedBytes.{signed_length}
use Rattle.rrd_file.proofs.Lengths.{header_length, length_source, part_length, short_name, source_length}
use Rattle.rrd_file.proofs.Ways.{Step, ToHeader, ToSource, ToHead, ToPrep, ToCell, ToEntry, ToPiece, Way, ByRawAndPart, ByRowPrep, ByRowCell, ByNamed, step_of}

way_size : (l : Limits) (step : ℕ) (now : Outline) {due : DueInEntry} {p : Piece} → Way l step now due p → length (spell p) ≡ size_due due
unfolding spell
way_size l step now (ByRawAndPart last def raw part h k) = omega (arith, length-append (raw_bytes raw) (part_bytes part), signed_length (raw_number raw), part_length part)
way_size l step now (ByRowPrep last def part h) = part_length part
way_size l step now (ByRowCell cell h) = signed_length (cell_number cell)
way_size l step now (ByNamed lowest more old h k is) = omega (arith, length-append (source_bytes old.source) (raw_bytes old.raw), signed_length (raw_number old.raw), source_length old.source (short_name old.source.name is.0.good_name))
way_size l step now x = refl

step_size : {s : Stage} {p : Piece} {n : Stage} → Step s p n → length (spell p) ≡ size s
unfolding spell size
step_size (ToHeader version h same is) = header_length h.version h ∙ ap header_size same
step_size (ToSource f s may) = omega (arith, length_source s.def (raw_bytes s.raw) (part_bytes s.part) (short_name s.def.name may.source_is.good_name), signed_length (raw_number s.raw), part_length s.part) ∙ sym (ap body_size may.is_due)
step_size (ToHead f def may) = sym (ap body_size may.is_due)
step_size (ToPrep f part may) = part_length part ∙ sym (ap body_size may.is_due)
step_size (ToCell f cell may) = signed_length (cell_number cell) ∙ sym (ap body_size may.is_due)
step_size (ToEntry f tag next may goes) = sym (ap body_size may.is_due)
step_size (ToPiece f pieces due later p next w goes) = way_size _ _ _ w
step_size x = refl

pub sizes : (s : Stage) (p : Piece) (n : Stage) → Takes s p n → length (spell p) ≡ size s
sizes s p n t = step_size (step_of s p n t)
