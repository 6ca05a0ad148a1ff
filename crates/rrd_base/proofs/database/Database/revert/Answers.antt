use Rattle.rrd_base.proofs.Common.{◌≡◌, sym, ◌∙◌, ap, ◌-◌, List, [], ◌∷◌, length, take, undone, Stored, reverted, entry_of, journal_of, undone_depth}
use Rattle.rrd_spec.specs.Journal.Entries.{Entry}
use Rattle.rrd_base.proofs.KeptLemmas.{newest}
use Rattle.rrd_base.proofs.database.Database.revert.Goals as goal

pub undo-requires : goal.undo-requires
undo-requires c =
    let d = c.self.inside in
    record {
      fits = (newest c.database_stays.ensures.reverted d.content d.journal.items c.in-Some.entry c.self.invariant.valid c.in-Some.ensures.value).can;
      valid = (newest c.database_stays.ensures.reverted d.content d.journal.items c.in-Some.entry c.self.invariant.valid c.in-Some.ensures.value).valid;
    }

pub invariant_of-self-2 : goal.invariant_of-self-2
invariant_of-self-2 c =
    let d = c.self.inside in
    let e = c.in-Some.entry in
    rw (c.undo.ensures, c.pop_back.ensures.items) (record {
      places = c.self.invariant.places ∙ sym (undone_depth d.content (entry_of e));
      valid = (newest c.database_stays.ensures.reverted d.content d.journal.items e c.self.invariant.valid c.in-Some.ensures.value).after;
    })

some_entry : (e : Entry) (journal rest : List Entry) → journal ≡ e ∷ rest → journal ≡ [] → ⊥
some_entry e journal rest h k = cc

pub returns-clause-ok : goal.returns-clause-ok
returns-clause-ok c =
    let d = c.self.inside in
    let e = c.in-Some.entry in
    let one = newest c.database_stays.ensures.reverted d.content d.journal.items e c.self.invariant.valid c.in-Some.ensures.value in
    let journal : c.args.self.now.journal ≡ entry_of e ∷ journal_of (take (length d.journal.items - 1) d.journal.items) = sym (ap (λ (k : Stored). k.journal) c.self.view_is) ∙ one.newest_is in (
      some_entry (entry_of e) c.args.self.now.journal (journal_of (take (length d.journal.items - 1) d.journal.items)) journal,
      rw (c.undo.ensures, c.pop_back.ensures.items) (sym (ap (reverted c.args.self.now.content) journal ∙ ap (λ (k : Stored). let r : Stored = record { content = undone k.content (entry_of e); journal = journal_of (take (length d.journal.items - 1) d.journal.items) } in r) (sym c.self.view_is))),
    )
