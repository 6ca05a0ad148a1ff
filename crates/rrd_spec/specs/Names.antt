-- Glue: the names from outside that definitions and contracts import, passed on from one place.
pub use Rattle.std.proofs.Common.{add-one, ap, append-nil, append_assoc, ap₂, get_or, length-append, refl, set, subst, sym, take_all, ◌∙◌}
pub use Rattle.std.proofs.Math.Nat.{add-sub_assoc, add-sub_cancel_left, le-add_right, le_of_suc-le-suc, not-suc-le-zero, sub-add_cancel, sub-eq-zero_of_le}
pub use Rattle.std.proofs.Math.Seq.{drop-cons}
pub use Rattle.std.proofs.lemmas.Bool.{leb-false}
pub use Rattle.std.proofs.lemmas.List.{drop-drop, drop_all, drop_at, length-drop, take-append-drop}
pub use Rattle.std.specs.Borrow.{Array, Fml, Lends, MutBor, RattleType, sem}
pub use Rattle.std.specs.Box.{box_value}
pub use Rattle.std.specs.Cmp.Lexicographic.{pointwise}
pub use Rattle.std.specs.Global.{Global}
pub use Rattle.std.specs.Int.{abs_diff, cast_unsigned, from_be_bytes, int_div_euclid, int_max, int_min, int_rem_euclid, to_be_bytes, w128, w16, w32, w64}
pub use Rattle.std.specs.Int.RustNames.{FitsSigned}
pub use Rattle.std.specs.Io.KnownBytes.{Appends, Consumes, IsAtEnd, Keeps, prepend_known}
pub use Rattle.std.specs.List.{All, AllByRecursion, after_first, before_first, copy_within, enumerate_from, filter, find, flat_map, fold, insert, list_all, list_any, range_with_len, refill, remove, slice_split, sum_by}
pub use Rattle.std.specs.Option.{option_copied, option_map_or, option_or, unwrap_or}
pub use Rattle.std.specs.Result.{is_err, result_err, result_map_both, result_ok}
pub use Rattle.std.specs.Str.{IsAscii, IsUtf8, bytes_eq, chars}
pub use Rattle.std.specs.Vec.{with_item, with_items}
pub use lib.Dec.{T, eqb}
pub use lib.Signed.{le_z_yes}
pub use mir.Val.{SFits, of_z, to_z}
pub use Rattle.arrayvec.specs.ArrayVec.{array_vec_len}
pub use Rattle.rrd_fixed.specs.Admitted.{admit, in_range, is_whole}
pub use Rattle.rrd_fixed.specs.Names.{fits, is_good, is_letter, same_name}
pub use Rattle.rrd_fixed.specs.Nearest.{near_limit}
pub use Rattle.rrd_fixed.specs.Puts.{Puts}
pub use Rattle.rrd_fixed.specs.Rate.{IsAccepted, IsBounded, cell_within, is_over, is_under, plain_rate, raised_if_negative, rate, rise, top}
pub use Rattle.rrd_fixed.specs.Reading.{number_of, whole_of}
pub use Rattle.rrd_fixed.specs.Rounding.{floor_of, near}
pub use Rattle.rrd_fixed.specs.Text.{cell_text, raw_text, signed_text, time_text}
pub use Rattle.rrd_fixed.specs.Writing.{Appends-kept, writes_stop, writes_then}
pub use Rattle.rrd_fixed.specs.Written.{AppendsFront, Writes}
pub use Rattle.rrd_fixed.specs.declared.cell.Cell.{Cell}
pub use Rattle.rrd_fixed.specs.declared.cell.Cell.TheVariants.{Known, Unknown}
pub use Rattle.rrd_fixed.specs.declared.kind.Kind.{Kind}
pub use Rattle.rrd_fixed.specs.declared.kind.Kind.TheVariants.{Absolute, Counter, Derive, Gauge}
pub use Rattle.rrd_fixed.specs.declared.name.Name.{Name}
pub use Rattle.rrd_fixed.specs.declared.raw.Raw.{Raw}
pub use Rattle.rrd_fixed.specs.declared.streams.WriteFault.{WriteFault}
pub use Rattle.rrd_fold.specs.Bounds.{Consolidating, most_known, weight}
pub use Rattle.rrd_fold.specs.Parts.{Part, consolidated, nothing, row_cell, step_cell, with_cell, with_each, with_value}
pub use Rattle.rrd_fold.specs.declared.function.Function.{Function}
pub use Rattle.rrd_fold.specs.declared.function.Function.TheVariants.{Average, Last, Max, Min}
