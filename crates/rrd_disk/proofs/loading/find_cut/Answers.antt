use Rattle.rrd_disk.proofs.Common.{◌≡◌, ℕ, List, rules, subst, true, begins_with, cut_mark, IsFile, bytes_after, Laws, ShowsBytes, HasNoChange, cut_database, cut_marked, if_none_at, if_some_at}
use Rattle.rrd_disk.proofs.loading.find_cut.Goals as goal

pub returns-in-Ok-None-clause-fault : goal.returns-in-Ok-None-clause-fault
returns-in-Ok-None-clause-fault g c = record { valid = tt; known = λ s honest now stand. absurd (if_none_at (HasNoChange (g.D.Disk.events c.read_cut.new.file.disk)) c.in-Ok-None.field-0 c.in-Ok-None.field-0-is c.in-Ok-None.ensures.none s honest now stand) }

pub returns-in-Err-clause-fault : goal.returns-in-Err-clause-fault
returns-in-Err-clause-fault g c = record { valid = c.read_fault.ensures.unknown; known = λ s honest now stand. c.read_fault.ensures.known now }

pub returns-in-Err-read-clause-fault : goal.returns-in-Err-read-clause-fault
returns-in-Err-read-clause-fault g c = record { valid = c.read_fault-in-Err-read.ensures.unknown; known = λ s honest now stand. c.read_fault-in-Err-read.ensures.known now }

pub returns-in-Ok-decoded-clause-stands : goal.returns-in-Ok-decoded-clause-stands
returns-in-Ok-decoded-clause-stands g c =
    let laws : Laws = c.file_laws.ensures in
    let bytes : List ℕ = c.in-Ok-Some.bytes.items in
    let cut : begins_with bytes cut_mark ≡ true = search rules in
    let file = subst (λ (b : List ℕ). IsFile b c.in-Ok-decoded.database) c.database.ensures c.in-Ok-decoded.ensures.known in
    let shows = if_some_at (λ bytes. ShowsBytes bytes.items (g.D.Disk.events c.read_cut.new.file.disk)) c.in-Ok-Some.field-0 c.in-Ok-Some.bytes c.in-Ok-Some.field-0-is c.in-Ok-Some.ensures.some in
    record {
      file = file;
      valid = c.in-Ok-decoded.ensures.valid;
      mark = λ s honest. cut_marked (bytes_after s (g.D.Disk.events c.read_cut.new.file.disk)) bytes c.in-Ok.found.mark (shows s honest) cut c.in-Ok.ensures.mark;
      database = λ s honest now stand. cut_database laws (bytes_after s (g.D.Disk.events c.read_cut.new.file.disk)) bytes now c.in-Ok.found (shows s honest) cut (c.in-Ok-decoded.database, file) c.in-Ok.ensures.database stand;
    }
