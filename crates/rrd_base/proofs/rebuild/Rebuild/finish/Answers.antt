use Rattle.rrd_base.proofs.Common.{NothingDue, ◌≡◌, ◌∙◌, sym, ap, subst, Filed, filed, due, limits, journal_of, coming, content_so_far, filed_of, Stored, IsValidDatabaseWithin, all_came, content_valid, database_valid, filed_whole}
use Rattle.rrd_base.proofs.rebuild.Rebuild.finish.Goals as goal

pub invariant_of-content : goal.invariant_of-content
invariant_of-content c =
    let d = coming c.self.inside in
    c.versions_stay_within.ensures.content d.version (content_so_far d) (content_valid d c.self.invariant.came (all_came (filed_of c.self.inside) (subst (λ (f : Filed). due f ≡ NothingDue) (sym c.self.view_is) c.requires)))

pub from_parts-requires-clause-valid : goal.from_parts-requires-clause-valid
from_parts-requires-clause-valid c =
    let d = coming c.self.inside in
    c.versions_stay_within.ensures.database d.version (content_so_far d) (journal_of d.journal) (database_valid d c.self.invariant.came (all_came (filed_of c.self.inside) (subst (λ (f : Filed). due f ≡ NothingDue) (sym c.self.view_is) c.requires)))

pub returns-clause-filed : goal.returns-clause-filed
returns-clause-filed c =
    let came = all_came (filed_of c.self.inside) (subst (λ (f : Filed). due f ≡ NothingDue) (sym c.self.view_is) c.requires) in
    let same = ap (λ (f : Filed). f.header.version) (sym c.self.view_is) in
    (λ i. filed (same i) (c.from_parts.ensures i)) ∙ (filed_whole (coming c.self.inside) c.self.invariant.came came ∙ c.self.view_is)

pub returns-clause-valid : goal.returns-clause-valid
returns-clause-valid c =
    let valid = database_valid (coming c.self.inside) c.self.invariant.came (all_came (filed_of c.self.inside) (subst (λ (f : Filed). due f ≡ NothingDue) (sym c.self.view_is) c.requires)) in
    let here = subst (λ (d : Stored). IsValidDatabaseWithin (limits (filed_of c.self.inside)) d.content d.journal) (sym c.from_parts.ensures) valid in
    subst (λ (f : Filed). IsValidDatabaseWithin (limits f) c.from_parts.result.content c.from_parts.result.journal) c.self.view_is here
