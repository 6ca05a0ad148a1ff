-- The answers of a file that does what it is told are honest.
use Rattle.rrd_disk.proofs.Names.{◌≡◌, ◌∙◌, ℕ, zero, suc, ◌==◌, ◌||◌, nat_le, Bool, IsTrue, List, [], ◌∷◌, length, take, drop, refl, sym, ap, subst, arith, length-take, length-drop, or-true, and_from, eq-eqb, le-leb, take_min, bytes_eq-Decides, Held, Missing, Bytes, Event, World, held_after, is_honest_after, is_honest_call, is_honest_of, part_after, Call, HonestRecordsExist, Locks, Sizes, answer, opened_none, told, told_to, world_from, Opening, Read, Write, Make, common_steps}
use Rattle.rrd_disk.specs.Replayed.{is_honest_part, is_honest_read}
use Rattle.rrd_disk.specs.Told.{Measures, Opens, Reads, Syncs, Writes}

read_honest : (file : List ℕ) (at wanted : ℕ) (bytes : List ℕ) → bytes ≡ take wanted (drop at file) → IsTrue (is_honest_read file at wanted bytes)
unfolding is_honest_read
read_honest file at zero [] is = refl
read_honest file at (suc n) [] is =
    ap (λ (b : Bool). (suc n == 0) || b) (le-leb (length file) at (omega (arith, ap (λ (b : List ℕ). length b) is, length-take (suc n) (drop at file), length-drop at file)))
    ∙ or-true (suc n == 0)
read_honest file at wanted (byte ∷ more) is =
    (bytes_eq-Decides (take (length (byte ∷ more)) (drop at file)) (byte ∷ more)).1
    (subst (λ (b : List ℕ). take (length b) (drop at file) ≡ b) (sym is)
    (ap (λ (n : ℕ). take n (drop at file)) (length-take wanted (drop at file)) ∙ take_min wanted (drop at file)))

whole_honest : (at : ℕ) (bytes : List ℕ) → IsTrue (is_honest_part at bytes (length bytes))
unfolding is_honest_part
whole_honest at bytes = grind arith

answer_honest : (file : List ℕ) (part : ℕ) (call : Call) → IsTrue (is_honest_call file part (answer file call))
answer_honest file part (Opens Read) = refl
answer_honest file part (Opens Write) = refl
answer_honest file part (Opens Make) = refl
answer_honest file part (Locks lock) = refl
answer_honest file part Measures = eq-eqb (length file) (length file) refl
answer_honest file part (Reads at wanted) = read_honest file at wanted (take wanted (drop at file)) refl
answer_honest file part (Writes at bytes) = and_from (nat_le (length bytes) (length bytes)) (is_honest_part at bytes (length bytes)) (le-leb (length bytes) (length bytes) (omega arith)) (whole_honest at bytes)
answer_honest file part (Sizes count) = refl
answer_honest file part Syncs = refl

none_honest : (part : ℕ) (opening : Opening) → IsTrue (is_honest_of Missing part (opened_none opening))
none_honest part Read = refl
none_honest part _ = refl

module _ (w : World) (events : List Event) (honest : IsTrue (is_honest_after w events)) where
  one_honest : (h : Held) → held_after w events ≡ h → (e : Event) → IsTrue (is_honest_of h (part_after w events) e) → IsTrue (is_honest_after w (e ∷ events))
  one_honest h is e of = grind (arith, common_steps, and_from)

  told_honest : (h : Held) → held_after w events ≡ h → (call : Call) → IsTrue (is_honest_after w (told_to h call events))
  told_honest (Bytes file) is call = one_honest (Bytes file) is (answer file call) (answer_honest file (part_after w events) call)
  told_honest Missing is (Opens opening) = one_honest Missing is (opened_none opening) (none_honest (part_after w events) opening)
  told_honest Missing is _ = honest

pub records_exist : (start : Held) (calls : List Call) → HonestRecordsExist start calls
records_exist start [] = refl
records_exist start (call ∷ earlier) =
    let events = told start earlier in
    told_honest (world_from start) events (records_exist start earlier) (held_after (world_from start) events) refl call
