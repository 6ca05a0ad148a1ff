-- The names from outside that the proofs import, passed on from one place. Declares nothing.
pub use Rattle.std.proofs.Common.{◌≡◌, refl, ℕ, ◌+◌, ◌≤◌, List, Bool, true, false, Some, None, cond, nat_lt, length, take, drop, arith, ◌∙◌, sym, ap, suc, ◌-◌, ◌*◌, ◌^◌, ◌<◌, [], ◌∷◌, ◌++◌, lit<, get_or, ◌&&◌, pos, Option, if◌then◌else◌, nat_le, slice_index, option_map, inl, inr, ℤ, negsuc, ◌≤ℤ◌, unsigned_abs, zero, ◌/◌, ◌%◌, set, replicate, codes, append_assoc, append-nil, length-append, FitsSigned, int_le, true≢false, add-one, decimal, ◌*ℤ◌, neg_ℤ, ◌==◌, length-drop, to_z, ◌≢◌, rules, ◌+ℤ◌, of_z}
pub use Rattle.std.proofs.KnownBytes.{Appends-trans}
pub use Rattle.std.proofs.Math.Bool.{or-true}
pub use Rattle.std.proofs.Math.Nat.{pow-suc, pow-le-pow_right, mul-le-mul_right, mul-lt-mul_of_pos_right, one-le-pow}
pub use Rattle.std.proofs.Math.Seq.{take-append_seam, drop-append-add, drop-cons, take-add}
pub use Rattle.std.proofs.lemmas.Bool.{ltb-false, cases_Bool, eqb-true, lt-ltb}
pub use Rattle.std.proofs.lemmas.Bool.Decides.{nat_tests}
pub use Rattle.std.proofs.lemmas.Fmt.{IsAscii-decimal_wide, decimal_step_wide, length-decimal-le, length-decimal-le_wide, decimal_by_steps_wide}
pub use Rattle.std.proofs.lemmas.Grind.{common_steps}
pub use Rattle.std.proofs.lemmas.Int.{ints, to_z_pos}
pub use Rattle.std.proofs.lemmas.List.{take_more, take_all, drop_more, length-take-le, take-append-drop, drop-drop, drop-set, drop-take, drop_all, take-append-le, take-replicate, take_rest, length-set}
pub use Rattle.std.proofs.lemmas.List.Folds.{list_any_at, list_any_none, list_all-append, list_any-append, list_all_more}
pub use Rattle.std.proofs.lemmas.List.Quantifiers.{position-Some}
pub use Rattle.std.proofs.lemmas.List.Sums.{fails_before_first, list_all-from_AllPass}
pub use Rattle.std.proofs.lemmas.Nat.{pow-add}
pub use Rattle.std.proofs.lemmas.Result.{err_from_is_err_and}
pub use Rattle.std.proofs.lemmas.Slice.{between-put_mid, drop-put_mid}
pub use Rattle.std.proofs.lemmas.Str.{IsAscii-append, IsUtf8-from_ascii}
pub use Rattle.std.proofs.lemmas.Str.Ascii.{IsAscii-cons, All-from_ascii}
pub use Rattle.std.specs.Char.{is_ascii_digit}
pub use Rattle.std.specs.Int.{w128}
pub use Rattle.std.specs.Io.KnownBytes.{Appends, Keeps}
pub use Rattle.std.specs.List.{position, position_or_len, list_all, list_any, before_first, after_first, repeat}
pub use Rattle.std.specs.Str.{IsAscii, IsUtf8}
pub use borrow.Rule.Slice.PartMut.{put_mid, same_len_mid}
pub use lib.Dec.{leb-zero}
pub use Rattle.rrd_fixed.specs.Names.{fits}
pub use Rattle.rrd_fixed.specs.Nearest.{near_limit}
pub use Rattle.rrd_fixed.specs.Puts.{Puts}
pub use Rattle.rrd_fixed.specs.Reading.{is_point, plain_of, pointed_of, value_of, are_digits, fraction_of, negated}
unfoldable pub use Rattle.rrd_fixed.specs.Reading.{unsigned_of, number_of, whole_of}
pub use Rattle.rrd_fixed.specs.Rounding.{near}
pub use Rattle.rrd_fixed.specs.Text.{millionths_text, signed_text, six_digits, whole_text, time_text}
pub use Rattle.rrd_fixed.specs.Writing.{Appends-kept}
pub use Rattle.rrd_fixed.specs.Written.{AppendsFront}
pub use Rattle.rrd_fixed.specs.declared.number.Number.{Number}
