-- The names from outside that the proofs import, passed on from one place. Declares nothing.
pub use Rattle.std.proofs.Common.{◌≡◌, ℕ, ◌+◌, ◌^◌, ◌<◌, ◌≤◌, List, [], ◌∷◌, ◌++◌, length, take, get_or, refl, sym, ◌∙◌, ap, subst, arith, inl, inr, ◌⊎◌, ◌-◌, max, true, append_assoc, zero, suc, ◌*◌, Some, None, Bool, false, drop, ◌&&◌, ◌↔◌, cond, zero-add, lit<, Option, IsSome, IsTrue, set, min, eqb, ◌/◌, ◌%◌, add-one, rules}
pub use Rattle.std.proofs.Math.Bool.{or-true, true-or}
pub use Rattle.std.proofs.Math.Seq.{drop-append-add, take-suc, take-add}
pub use Rattle.std.proofs.lemmas.Bool.{cases_lt, and_from, le-leb, false_from_ne_true, and_parts, leb-true, lt-ltb, ltb-true, or_cases, cases_Bool, true≢false, eqb-false, eqb-true}
pub use Rattle.std.proofs.lemmas.Bool.Decides.{Decides-eqb}
pub use Rattle.std.proofs.lemmas.Grind.{common_steps, flat_map-append}
pub use Rattle.std.proofs.lemmas.List.{length_push, take_all, length-take, get_or-take, take-append-le, append-nil, length-append, length-replicate, get_or_append_left, get_or-append-add, length-drop, take-append-drop, take_at, drop_at, get_or-drop, get_or-append_right, drop-drop, take_rest, get_or_past, ext_get_or, drop_all, get_or_push}
pub use Rattle.std.proofs.lemmas.List.Prefix.{front_fits, front_from_reads, at_from_reads, front_reads}
pub use Rattle.std.proofs.lemmas.List.Sorted.{list_any-IsPermutation}
pub use Rattle.std.proofs.lemmas.Nat.{from_be_bytes-to_be_bytes_8, be_bytes_8, div-add-mod', div-mul-add, mod_below}
pub use Rattle.std.proofs.lemmas.Result.{IfOk-weaker}
pub use Rattle.std.proofs.lemmas.Slice.Eq.{starts_is}
pub use Rattle.std.specs.Int.{w64, from_be_bytes, to_be_bytes, sum_through, byte_worth}
pub use Rattle.std.specs.List.{flat_map, list_any, slice_range}
pub use Rattle.std.specs.Option.{is_some, unwrap_or}
pub use Rattle.std.specs.Prelude.{replicate, nat_le, Result, Ok, Err, IsPermutation, nat_lt}
pub use Rattle.std.specs.Result.{IsErr}
pub use Rattle.std.specs.Simd.{first_chunks}
pub use borrow.Rule.Slice.PartMut.{put_mid}
pub use Rattle.rrd_change.specs.Bytes.{StandsAt, begins_with, SameIn, bytes_by}
pub use Rattle.rrd_change.specs.Calls.{AreAny, ArePut, IsCut, AreWholeOrNot, IsTorn, IsSized, IsSizedOrNot, AreMixed, AreRestored, IsFrontPut, AreAt}
pub use Rattle.rrd_change.specs.Changes.{Change, IsRight, change_bytes, change_size, changes_in, last_size, change_at, changes_from, are_within, body_bytes, head_bytes, piece_bytes, spelled_pieces, Piece, all_changed, laid, all_laid, changed, laid_over, is_right}
unfoldable pub use Rattle.rrd_change.specs.Changes.{change_head, read_change, spelled_change}
pub use Rattle.rrd_change.specs.Checksum.{mix_words, word}
unfoldable pub use Rattle.rrd_change.specs.Checksum.{mix, mix_bytes}
pub use Rattle.rrd_change.specs.Found.{database_of}
pub use Rattle.rrd_change.specs.Laws.{Fill, HaveByte, IsLogged, Leads, Makes, TouchByte, chain_end, first_of, IsUnderCut, IsChain, AreSaid, HasByte, HasLog, ChangesTell, IsPrepared}
pub use Rattle.rrd_change.specs.Making.{IsMadeTo, IsUnmade, StaysFirst, IsEmpty}
pub use Rattle.rrd_change.specs.Marks.{IsLogIn, IsLogMark, IsMarkOf}
pub use Rattle.rrd_change.specs.Outcomes.{AllStand, AllStandAsTold, IsEither, IsWhole}
pub use Rattle.rrd_change.specs.Read.{HasPieces, IsHeadOf, IsLaid, IsLogRead, spans_of, IsOffset}
pub use Rattle.rrd_change.specs.Repairs.{IsLogHeld, IsOnDisk, IsStopped, IsTornLog, Torn, IsCutLeft, IsLoose, IsUncut, Whole, IsUnlogged, LogEnd, IsFound, IsLeft, IsLogFound, IsLogLeft, IsMarkedFor, IsAlone}
pub use Rattle.rrd_change.specs.Settled.{log_mark, Cut, IsDelimited, cut_mark, database_mark, settled_by, spelled_tail, unmarked}
unfoldable pub use Rattle.rrd_change.specs.Settled.{mark_of, settled}
pub use Rattle.rrd_change.specs.Spans.{AgreesOutside, AreSpans, IsIn, change_of, piece_of, pieces_of}
pub use Rattle.rrd_change.specs.States.{Follows, IsDatabase, IsOpen, Began, IsFirst, IsInPlace, IsReady, Represents, cut_of, AreAnyIn, ArePutIn, IsPlain, IsAtRest, IsMarked, IsBroken, IsLogOf, RepresentsEither, IsLogFor, Tells, IsKept}
pub use Rattle.rrd_change.specs.Views.{All, Fails, World, Does, Effect, IsHeld, Moves, Stores, View, FailsToWriteWhole, WritesWhole, Reads, Stays, Steps, seen, FailsToRestore, StoresAgain, IsSynced, IsUnsynced, Restores, FailsToWrite, Writes}
pub use Rattle.rrd_change.specs.declared.calls.Syncs.{Syncs}
pub use Rattle.rrd_change.specs.declared.calls.Syncs.TheVariants.{Never, Ordered}
pub use Rattle.rrd_change.specs.declared.decoding.Head.{Head}
pub use Rattle.rrd_change.specs.declared.finding.Mark.{Mark}
pub use Rattle.rrd_change.specs.declared.log.Base.{Base}
pub use Rattle.rrd_change.specs.declared.log.Log.{Log}
pub use Rattle.rrd_change.specs.declared.span.Span.{Span}
