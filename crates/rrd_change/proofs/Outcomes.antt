-- Lemmas on what files represent, by what they stand for.
use Rattle.rrd_change.proofs.Names.{arith, ◌≡◌, ℕ, List, refl, inl, inr, AllStand, AllStandAsTold, IsEither, IsWhole, settled, IsAtRest, IsBroken, IsLogOf, IsMarked, IsPlain, Represents, RepresentsEither, cut_of, All, World, Log, common_steps}
use Rattle.rrd_change.proofs.Holding.{all_as, held_all}
use Rattle.rrd_change.proofs.Logs.{cut_stands, log_stands, plain_stands}
use Rattle.rrd_change.proofs.Marking.{cut_under, plain_represents}
use Rattle.rrd_change.proofs.Settling.{log_stands_all}

pub stands : (end_of : List ℕ → ℕ) (now file : List ℕ) → IsWhole end_of now → Represents now file → settled end_of file ≡ now
stands end_of now file whole h = grind (arith, plain_stands, cut_stands, log_stands)

either : (end_of : List ℕ → ℕ) (old new file : List ℕ) → IsWhole end_of old → IsWhole end_of new → RepresentsEither old new file → IsEither old new (settled end_of file)
either end_of old new file was is (inl h) = inl (stands end_of old file was h)
either end_of old new file was is (inr h) = inr (stands end_of new file is h)

pub all_stand : (end_of : List ℕ → ℕ) (now : List ℕ) (w : World) → IsWhole end_of now → All (Represents now) w → AllStand end_of (λ b. b ≡ now) w
all_stand end_of now w whole a = grind (arith, common_steps, stands)

pub either_stand : (end_of : List ℕ → ℕ) (old new : List ℕ) (w : World) → IsWhole end_of old → IsWhole end_of new → All (RepresentsEither old new) w → AllStand end_of (IsEither old new) w
either_stand end_of old new w was is a = grind (arith, common_steps, either)

pub broken_stand : (end_of : List ℕ → ℕ) (now new : List ℕ) (w : World) → IsWhole end_of now → IsWhole end_of new → IsBroken now new w → AllStandAsTold end_of (IsEither now new) w
broken_stand end_of now new w was is b = record {
  held = either end_of now new w.held was is b.held;
  left = λ c left told. either end_of now new c was is (b.leave c left told);
  later = λ c kept told. either end_of now new c was is (b.keep c kept told);
}

pub rest_stands : (end_of : List ℕ → ℕ) (now : List ℕ) (w : World) → IsWhole end_of now → IsAtRest now w → AllStand end_of (λ b. b ≡ now) w
rest_stands end_of now w whole rest =
    all_stand end_of now w whole (all_as (IsPlain now) (Represents now) w (λ f plain. plain_represents now f rest.is plain) (held_all now (IsPlain now) w (inl refl) rest.world))

pub marked_stand : (end_of : List ℕ → ℕ) (now : List ℕ) (w : World) → IsWhole end_of now → IsMarked now w → AllStand end_of (λ b. b ≡ now) w
marked_stand end_of now w whole m = all_stand end_of now w whole (all_as (λ c. c ≡ cut_of now) (Represents now) w (λ f e. inr (inl (cut_under now f m.is e))) m.world)

pub log_stand : (end_of : List ℕ → ℕ) (now : List ℕ) (log : Log) (w : World) → IsWhole end_of now → IsLogOf now log w → AllStand end_of (λ b. b ≡ now) w
log_stand end_of now log w whole is = all_stand end_of now w whole (log_stands_all now log w is)
