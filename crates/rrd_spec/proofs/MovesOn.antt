-- The rows that an update leaves in the archives.
use Rattle.std.specs.Prelude.{◌≡◌, ℕ, ◌-◌, ◌/◌, ◌++◌, List, [], ◌∷◌, length, map, take}
use Rattle.rrd_spec.proofs.Names.{◌∙◌, sym, ap, subst, arith, length-take, AllByRecursion, Update, Rra, Content, Updating, moved, put_back, put_back_each, saved, MovesOn, MoveOn, UpdateIsLater, dropped, sound, IsValidArchive}
use Rattle.rrd_spec.proofs.Fitting.{fits}
use Rattle.rrd_spec.proofs.Staying.{stays_valid}
use Rattle.rrd_spec.proofs.Undoing.{comes_back}

module _ (sources steps passed step from to : ℕ) where
  moves_on : (old new : Rra) → IsValidArchive sources steps old → IsValidArchive sources passed new → put_back new (saved step from to old) ≡ old → MovesOn step from to old new
  moves_on old new is then back =
      let n = dropped step from to old in
      let def : new.def ≡ old.def = ap (λ (a : Rra). a.def) back in
      let many : length (take n old.rows) ≡ n = omega (arith, length-take n old.rows) in
      let rows : take n old.rows ++ take (length new.rows - length (take n old.rows)) new.rows ≡ old.rows = ap (λ (a : Rra). a.rows) back in
      record {
        def_is = def;
        as_many = then.rows_are ∙ ap (λ d. d.rows) def ∙ sym is.rows_are;
        rows_are = sym rows ∙ ap (λ k. take n old.rows ++ take (length new.rows - k) new.rows) many;
      }

  move_on : (olds news : List Rra) → AllByRecursion (IsValidArchive sources steps) olds → AllByRecursion (IsValidArchive sources passed) news → put_back_each news (map (saved step from to) olds) ≡ olds → MoveOn step from to olds news
  move_on [] [] is then back = tt
  move_on [] (new ∷ news) is then back = absurd cc
  move_on (old ∷ olds) [] is then back = absurd cc
  move_on (old ∷ olds) (new ∷ news) is then back =
      let one : put_back new (saved step from to old) ≡ old = cc in
      let rest : put_back_each news (map (saved step from to) olds) ≡ olds = cc in
      (moves_on old new is.0 then.0 one, move_on olds news is.1 then.1 rest)

pub update_is_later : (base : Content) (update : Update) → UpdateIsLater base update
update_is_later base update is h =
    let now = moved base (Updating update) in
    let back = comes_back base (Updating update) (sound base is) h in
    let sources : now.sources ≡ base.sources = ap (λ (c : Content). c.sources) back in
    let then = stays_valid base (Updating update) is h in
    let many : length now.sources ≡ length base.sources = ap length sources in
    record {
      step_is = ap (λ (c : Content). c.step) back;
      sources_are = sources;
      later = (fits base (Updating update) is h).earlier;
      archives_are = move_on (length base.sources) (base.last / base.step) (now.last / now.step) base.step base.last now.last base.archives now.archives is.archives_are (subst (λ n. AllByRecursion (IsValidArchive n (now.last / now.step)) now.archives) many then.archives_are) (ap (λ (c : Content). c.archives) back);
    }
