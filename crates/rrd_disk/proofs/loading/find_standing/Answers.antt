use Rattle.rrd_disk.proofs.Common.{◌≡◌, ◌∙◌, ℕ, List, rules, sym, subst, IsFile, bytes_after, Laws, no_file, stands_for}
use Rattle.rrd_disk.proofs.loading.find_standing.Goals as goal

pub returns-in-Err-find-clause-fault : goal.returns-in-Err-find-clause-fault
returns-in-Err-find-clause-fault g c = record { valid = c.read_fault-in-Err-find.ensures.unknown; known = λ s honest now stand. c.read_fault-in-Err-find.ensures.known now }

pub returns-in-Ok-decoded-clause-stands : goal.returns-in-Ok-decoded-clause-stands
returns-in-Ok-decoded-clause-stands g c =
    let laws : Laws = c.file_laws.ensures in
    record {
      file = subst (λ (b : List ℕ). IsFile b c.in-Ok-decoded.database) c.database.ensures c.in-Ok-decoded.ensures.known;
      valid = c.in-Ok-decoded.ensures.valid;
      mark = c.in-Ok.ensures.mark;
      database = λ s honest now stand. c.in-Ok.ensures.database s honest ∙ stands_for laws now (bytes_after s (g.D.Disk.events c.find.new.file.disk)) stand.is stand.represents;
    }

pub returns-in-Err-decoded-clause-fault : goal.returns-in-Err-decoded-clause-fault
returns-in-Err-decoded-clause-fault g c =
    let laws : Laws = c.file_laws.ensures in
    record {
      valid = tt;
      known = λ s honest now stand.
          let same : c.database.result.now ≡ now = c.database.ensures ∙ c.in-Ok.ensures.database s honest ∙ stands_for laws now (bytes_after s (g.D.Disk.events c.find.new.file.disk)) stand.is stand.represents in
          let none = no_file c.one_answer.ensures c.database.result.now c.in-Err-decoded.fault c.in-Err-decoded.ensures.known (sym c.is_of_bytes.ensures ∙ c.if-is_of_bytes.true) in
          absurd (none stand.is.0 (subst (λ (b : List ℕ). IsFile b stand.is.0) (sym same) stand.is.1));
    }

pub returns-in-Ok-false-clause-fault : goal.returns-in-Ok-false-clause-fault
returns-in-Ok-false-clause-fault g c = record { valid = tt; known = λ s honest now stand. absurd (c.in-Ok-false.ensures.no (search rules) s honest now stand) }

pub returns-in-Err-clause-fault : goal.returns-in-Err-clause-fault
returns-in-Err-clause-fault g c = record { valid = c.read_fault.ensures.unknown; known = λ s honest now stand. c.read_fault.ensures.known now }
