-- The names that the proofs of functions import, passed on from one place. Declares nothing.
pub use Rattle.rrd_fixed.proofs.Names.{◌≡◌, refl, ℕ, ◌+◌, ◌≤◌, List, Bool, true, false, Some, None, cond, nat_lt, length, take, drop, arith, ◌∙◌, sym, ap, suc, ◌-◌, ◌*◌, ◌^◌, ◌<◌, [], ◌∷◌, ◌++◌, lit<, get_or, ◌&&◌, pos, Option, if◌then◌else◌, nat_le, slice_index, option_map, inl, inr, ℤ, negsuc, ◌≤ℤ◌, unsigned_abs, zero, ◌/◌, ◌%◌, set, replicate, codes, append_assoc, append-nil, length-append, FitsSigned, int_le, true≢false, add-one, decimal, ◌*ℤ◌, neg_ℤ, ◌==◌, length-drop, to_z, ◌≢◌, rules, ◌+ℤ◌, of_z, Appends-trans, or-true, pow-suc, pow-le-pow_right, mul-le-mul_right, mul-lt-mul_of_pos_right, one-le-pow, take-append_seam, drop-append-add, drop-cons, take-add, ltb-false, cases_Bool, eqb-true, lt-ltb, nat_tests, IsAscii-decimal_wide, decimal_step_wide, length-decimal-le, length-decimal-le_wide, decimal_by_steps_wide, common_steps, ints, to_z_pos, take_more, take_all, drop_more, length-take-le, take-append-drop, drop-drop, drop-set, drop-take, drop_all, take-append-le, take-replicate, take_rest, length-set, list_any_at, list_any_none, list_all-append, list_any-append, list_all_more, position-Some, fails_before_first, list_all-from_AllPass, pow-add, err_from_is_err_and, between-put_mid, drop-put_mid, IsAscii-append, IsUtf8-from_ascii, IsAscii-cons, All-from_ascii, is_ascii_digit, w128, Appends, Keeps, position, position_or_len, list_all, list_any, before_first, after_first, repeat, IsAscii, IsUtf8, put_mid, same_len_mid, leb-zero, fits, near_limit, Puts, is_point, plain_of, pointed_of, value_of, are_digits, fraction_of, negated, near, millionths_text, signed_text, six_digits, whole_text, time_text, Appends-kept, AppendsFront, Number}
unfoldable pub use Rattle.rrd_fixed.proofs.Names.{unsigned_of, number_of, whole_of}
pub use Rattle.rrd_fixed.proofs.Cut.{unsigned_plain, unsigned_pointed}
pub use Rattle.rrd_fixed.proofs.Digits.{fraction_below, below_power, value_before, value_below, value_more, value_all}
pub use Rattle.rrd_fixed.proofs.Few.{none_few, other_few, plain_few, pointed_few}
pub use Rattle.rrd_fixed.proofs.Nearest.{near_limit_of}
pub use Rattle.rrd_fixed.proofs.PutLemmas.{puts_before, puts_byte, six_wide, millionths_short, signed_minus, puts_part, puts_six, digit_put, few_digits, one_digit_more}
pub use Rattle.rrd_fixed.proofs.Writings.{front_kept}
