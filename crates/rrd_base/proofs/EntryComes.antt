-- An entry comes: the outline that is left judges it, and it is undone there.
use Rattle.std.specs.Prelude.{◌≡◌, ◌<◌, ℕ, List, [], ◌∷◌, ◌++◌, None, Option, length, map}
use Rattle.rrd_base.proofs.Names.{◌∙◌, sym, ap, subst, arith, inl, inr, AllByRecursion, fold, cases_lt, reverse-append, fold-append, Due, SourceDue, EntryDue, Outline, RraDef, Filed, Rra, Content, definitions, JournalLeavesValid, FiledOutline, JournalTakes, OutlineFollows, Limits, limits_of, present, Version, outline_of, outline_undone, IsArchiveDef, MayUndo, due, outline_filed, prep_or, with_entry, Stored, IsValidArchiveWithin, IsValidWithin, Entry, IsOutline, IsValidOutline, EntryValidator, entry_of, journal_of, Coming, HeadsCame, IsRebuilding, content_so_far, filed_in}
use Rattle.rrd_spec.specs.Journal.Entries as entries
use Rattle.rrd_base.proofs.Comes.{few_less}
use Rattle.rrd_base.proofs.Versions.{few_cells}
use Rattle.rrd_base.proofs.Dues.{AllAsMany, due_cell, due_head, due_nothing, due_source, due_then, lengths_same}
use Rattle.rrd_base.proofs.Rebuilt.{content_is_valid}
use Rattle.rrd_spec.proofs.Outlined.{rows_by_settings}

-- ---- when it is due

pub record AtEntry (d : Coming) : Type 0 where
  pub sources : length d.sources ≡ d.sources_due
  pub heads : HeadsCame d
  pub past : d.archive ≡ length d.archives
  pub more : length d.journal < d.entries_due

only_entry : (o : Option RraDef) (later : Due) → prep_or o later ≡ EntryDue → (o ≡ None) × (later ≡ EntryDue)
only_entry o later e = grind arith

pub at_entry : AllAsMany → (d : Coming) → IsRebuilding d → due (filed_in d) ≡ EntryDue → AtEntry d
at_entry as_many d is e = elim (cases_lt (length d.sources) d.sources_due) [
  | inl lt ↦ absurd (let e2 : SourceDue ≡ EntryDue = sym (due_source d is lt) ∙ e in cc)
  | inr le ↦ grind (arith, only_entry, due_then, due_head, due_cell, due_nothing)
]

-- ---- the outline that is left

-- laws of outlines
abbrev pub AllFollow : Type 0
AllFollow = (now : Content) (journal : List entries.Entry) → OutlineFollows now journal

abbrev pub AllFiled : Type 0
AllFiled = (version : Version) (d : Stored) → FiledOutline version d

abbrev pub AllLeave : Type 0
AllLeave = (limits : Limits) (now : Content) (journal : List entries.Entry) → JournalLeavesValid limits now journal

abbrev pub AllTake : Type 0
AllTake = (limits : Limits) (now : Content) (journal : List entries.Entry) (entry : entries.Entry) → JournalTakes limits now journal entry

at_entry_valid : (d : Coming) → IsRebuilding d → AtEntry d → IsValidWithin (limits_of d.version) (content_so_far d)
at_entry_valid d is at = content_is_valid d is at.sources at.heads.all at.heads.prepared

-- that of the content before all changes, said by its outline now
outline_by : AllFiled → (d : Coming) → IsRebuilding d → d.validator.outline ≡ fold outline_undone (outline_of (content_so_far d)) (journal_of d.journal)
outline_by filed d is =
    let lists : outline_filed (filed_in d) ≡ outline_of (content_so_far d) = filed d.version (record { content = content_so_far d; journal = journal_of d.journal }) (lengths_same d.sources d.raws is.raws_are) is.one_part_each in
    ap (λ (j : EntryValidator). j.outline) is.validator_is ∙ ap (λ (o : Outline). fold outline_undone o (journal_of d.journal)) lists

defs_valid : (version : Version) (sources steps : ℕ) (archives : List Rra) → AllByRecursion (IsValidArchiveWithin (limits_of version) sources steps) archives → AllByRecursion (IsArchiveDef present) (definitions archives)
defs_valid version sources steps [] all = tt
defs_valid version sources steps (a ∷ archives) all = grind (arith, defs_valid version sources steps archives all.1)

outline_valid : (version : Version) (now : Content) → IsValidWithin (limits_of version) now → IsOutline (outline_of now)
outline_valid version now is = grind (arith, defs_valid, rows_by_settings, few_less, few_cells)

-- where all pieces before the entries came, it is that of a valid content
pub left_valid : AllFollow → AllFiled → AllLeave → (d : Coming) → IsRebuilding d → length d.sources ≡ d.sources_due → HeadsCame d → IsValidOutline d.version d.validator.outline
left_valid follow filed leave d is sources heads = grind (arith, content_is_valid, outline_by)

pub fits : (version : Version) (outline : Outline) → IsValidOutline version outline → IsOutline outline
fits version outline left = subst IsOutline (sym left.outline_is) (outline_valid version left.content left.valid)

-- ---- the entry

abbrev pub entry_came : Coming → Entry → Outline → Coming
entry_came d e outline = record d { journal = e ∷ d.journal; validator = record d.validator { outline = outline } }

journal_more : (e : Entry) (journal : List Entry) → journal_of (e ∷ journal) ≡ journal_of journal ++ entry_of e ∷ []
journal_more e journal = reverse-append (entry_of e ∷ []) (map entry_of journal)

pub entry_keeps : AllTake → AllFiled → (d : Coming) (e : Entry) → IsRebuilding d → AtEntry d → MayUndo (limits_of d.version) d.step d.validator.outline (entry_of e) → IsRebuilding (entry_came d e (outline_undone d.validator.outline (entry_of e)))
entry_keeps take filed d e is at fits = grind (arith, journal_more e d.journal, at_entry_valid, outline_by, few_cells, fold-append)

pub entry_is : (d : Coming) (e : Entry) (outline : Outline) → filed_in (entry_came d e outline) ≡ with_entry (filed_in d) (entry_of e)
entry_is d e outline = ap (λ (j : List entries.Entry). let f : Filed = record (filed_in d) { entries = j } in f) (journal_more e d.journal)
