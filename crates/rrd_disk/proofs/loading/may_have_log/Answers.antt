use Rattle.rrd_disk.proofs.Common.{◌≡◌, ◌∙◌, ◌+◌, ◌<◌, ℕ, List, length, take, ap, rules, sym, true, arith, w64, from_be_bytes, begins_with, Held, bytes_after, bytes_of, log_other, log_past, log_word, not_equal, rest_of}
use Rattle.rrd_disk.proofs.loading.may_have_log.Goals as goal

pub returns-then-saturating_sub-lt8-clause-no : goal.returns-then-saturating_sub-lt8-clause-no
returns-then-saturating_sub-lt8-clause-no g c = λ not s honest now stand.
    let first : List ℕ = c.in-Some.base.first in
    let file = bytes_after s (g.D.Disk.events c.args.file.now.disk) in
    let begins : begins_with first log_word ≡ true = search rules in
    let base = c.in-Some.ensures s honest in
    let offset = c.from_be_bytes-tail.ensures ∙ ap (from_be_bytes w64) (c.copy_from_slice.ensures.after ∙ rest_of first) in
    let past : length file < c.from_be_bytes-tail.result + 8 = omega (arith, base.0) in
    log_past c.file_laws.ensures file first now base.1 begins stand c.from_be_bytes-tail.result offset past

pub returns-clause-no : goal.returns-clause-no
returns-clause-no g c = λ not s honest now stand.
    let first : List ℕ = c.in-Some.base.first in
    let new = g.D.Disk.events c.read_at.new.self.disk in
    let file = bytes_after s new in
    let begins : begins_with first log_word ≡ true = search rules in
    let base = c.in-Some.ensures s (c.read_at.ensures.rests.falls s honest) in
    let is : first ≡ take 16 file = base.1 ∙ ap (λ (h : Held). take 16 (bytes_of h)) (sym (c.read_at.ensures.rests.held s)) in
    let offset = c.from_be_bytes-tail.ensures ∙ ap (from_be_bytes w64) (c.copy_from_slice.ensures.after ∙ rest_of first) in
    let head = c.from_be_bytes.ensures ∙ ap (from_be_bytes w64) (c.copy_from_slice-2.ensures.after ∙ c.deref.ensures.value) in
    not_equal c.from_be_bytes.result c.from_be_bytes-tail.result not (head ∙ log_other c.file_laws.ensures file first now is begins stand c.from_be_bytes-tail.result c.read_at.new.into.items offset (c.in_ok-read_at.ensures.got s honest))
