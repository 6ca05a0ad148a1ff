-- What the calls of an honest record say of the file's bytes.
use Rattle.rrd_disk.proofs.Names.{common_steps, ◌≡◌, ℕ, ◌+◌, ◌<◌, ◌≤◌, List, [], ◌∷◌, length, take, drop, IsTrue, refl, sym, arith, length-drop, length-take, and_parts, eqb-true, true≢false, bytes_eq-Decides, Held, Missing, Bytes, AreGot, Event, Made, Measured, Got, NotFound, World, bytes_after, bytes_of, held_after, is_honest_after, is_honest_of, left, part_after}
use Rattle.rrd_disk.specs.Events.{Found}
use Rattle.rrd_disk.specs.Replayed.{is_honest_read}

-- ---- honest reads

-- bytes that an honest read returned
read_same : (file : List ℕ) (at wanted : ℕ) (bytes : List ℕ) → 0 < length bytes → IsTrue (is_honest_read file at wanted bytes) → take (length bytes) (drop at file) ≡ bytes
unfolding is_honest_read
read_same file at wanted [] some honest = absurd (omega arith)
read_same file at wanted (byte ∷ more) some honest = (bytes_eq-Decides (take (length (byte ∷ more)) (drop at file)) (byte ∷ more)).0 honest

pub read-AreGot : (file : List ℕ) (at wanted : ℕ) (bytes : List ℕ) → 0 < length bytes → IsTrue (is_honest_read file at wanted bytes) → AreGot file at (length bytes) bytes
read-AreGot file at wanted bytes some honest = grind (arith, common_steps, read_same)

pub read_within : (file : List ℕ) (at wanted : ℕ) (bytes : List ℕ) → 0 < length bytes → IsTrue (is_honest_read file at wanted bytes) → at + length bytes ≤ length file
read_within file at wanted bytes some honest = grind (arith, common_steps, read_same, length-take, length-drop)

pub read_ends : (file : List ℕ) (at wanted : ℕ) → 0 < wanted → IsTrue (is_honest_read file at wanted []) → length file ≤ at
unfolding is_honest_read
read_ends file at wanted some honest = grind arith

-- ---- one more call of a record

module _ (w : World) (earlier : List Event) where
  abbrev held : Held
  held = held_after w earlier

  -- an honest record was honest before its last call
  pub honest_before : (e : Event) → IsTrue (is_honest_after w (e ∷ earlier)) → IsTrue (is_honest_after w earlier)
  honest_before e honest = (and_parts (is_honest_of held (part_after w earlier) e) (is_honest_after w earlier) honest).1

  pub honest_now : (e : Event) → IsTrue (is_honest_after w (e ∷ earlier)) → IsTrue (is_honest_of held (part_after w earlier) e)
  honest_now e honest = (and_parts (is_honest_of held (part_after w earlier) e) (is_honest_after w earlier) honest).0

-- ---- what each call says of the file before it

there : (h : Held) (part : ℕ) → IsTrue (is_honest_of h part Found) → h ≡ Bytes (bytes_of h)
there Missing part honest = absurd (true≢false (sym honest))
there (Bytes file) part honest = refl

none : (h : Held) (part : ℕ) → IsTrue (is_honest_of h part NotFound) → h ≡ Missing
none Missing part honest = refl
none (Bytes file) part honest = absurd (true≢false (sym honest))

made : (h : Held) (part : ℕ) → left h part Made ≡ Bytes (bytes_of (left h part Made))
made Missing part = refl
made (Bytes file) part = refl

measured : (h : Held) (part count : ℕ) → IsTrue (is_honest_of h part (Measured count)) → count ≡ length (bytes_of h)
measured Missing part count honest = absurd (true≢false (sym honest))
measured (Bytes file) part count honest = eqb-true count (length file) honest

read : (h : Held) (part at wanted : ℕ) (bytes : List ℕ) → IsTrue (is_honest_of h part (Got at wanted bytes)) → IsTrue (is_honest_read (bytes_of h) at wanted bytes)
read Missing part at wanted bytes honest = absurd (true≢false (sym honest))
read (Bytes file) part at wanted bytes honest = honest

-- ---- the same of a record

module _ (w : World) (earlier : List Event) where
  pub found_is : IsTrue (is_honest_after w (Found ∷ earlier)) → held_after w earlier ≡ Bytes (bytes_after w earlier)
  found_is honest = there (held_after w earlier) (part_after w earlier) (honest_now w earlier Found honest)

  pub none_is : IsTrue (is_honest_after w (NotFound ∷ earlier)) → held_after w earlier ≡ Missing
  none_is honest = none (held_after w earlier) (part_after w earlier) (honest_now w earlier NotFound honest)

  pub read_is : (at wanted : ℕ) (bytes : List ℕ) → IsTrue (is_honest_after w (Got at wanted bytes ∷ earlier)) → IsTrue (is_honest_read (bytes_after w earlier) at wanted bytes)
  read_is at wanted bytes honest = read (held_after w earlier) (part_after w earlier) at wanted bytes (honest_now w earlier (Got at wanted bytes) honest)
