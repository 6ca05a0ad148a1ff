use Rattle.rrd_disk.proofs.Common.{◌≡◌, ◌∙◌, ℕ, List, Some, ap, subst, sym, IsFile, Bytes, Held, represented, bytes_of, held_after, Laws, database_unmarked, file_database, itself, there_file}
use Rattle.rrd_disk.proofs.storage.FileStorage.with_bytes.Goals as goal

pub returns-in-Open-clause-bytes : goal.returns-in-Open-clause-bytes
returns-in-Open-clause-bytes g c = rw c.give_front.ensures.disk (λ s honest.
    let laws : Laws = c.file_laws.ensures in
    let held = held_after s (g.D.Disk.events c.args.self.now.bytes.disk) in
    let front = c.args.self.now.bytes.front.bytes.items in
    let all : front ≡ bytes_of held = c.is_whole.ensures c.if-is_whole.true s honest in
    let file : IsFile (bytes_of held) c.args.database = subst (λ (b : List ℕ). IsFile b c.args.database) all (c.requires c.in-Open.field-0 c.in-Open.is) in
    let there : held ≡ Bytes (bytes_of held) = there_file laws held c.args.database file in
    let same : represented held ≡ Bytes (bytes_of held) = itself held (bytes_of held) there (database_unmarked (bytes_of held) (file_database laws (bytes_of held) c.args.database file)) in
    c.with_bytes.ensures.bytes (Some (represented held)) (ap (λ (h : Held). Some h) (same ∙ ap (λ (b : List ℕ). Bytes b) (sym (c.give_front.ensures.bytes ∙ all)))))
