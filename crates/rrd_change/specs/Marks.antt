-- Definition, as glue: the mark that was found in the bytes of a file.
use Rattle.std.specs.Prelude.{◌≡◌, ◌⊎◌, ℕ, ◌-◌, true, false, List, [], length}
use Rattle.rrd_change.specs.Bytes.{begins_with}
use Rattle.rrd_change.specs.Changes.{changes_in}
use Rattle.rrd_change.specs.Laws.{TouchByte, chain_end}
use Rattle.rrd_change.specs.Settled.{cut_mark, log_mark, spelled_tail}
use Rattle.rrd_change.specs.Spans.{IsIn}
use Rattle.rrd_change.specs.declared.finding.Mark.{Mark}
use Rattle.rrd_change.specs.declared.finding.Mark.TheVariants as marks
use Rattle.rrd_change.specs.declared.log.Log.{Log}

-- this is what is known of a file's log
pub record IsLogIn (log : Log) (tail : ℕ) (file : List ℕ) : Type 0 where
  pub tail_is : log.tail ≡ tail
  pub ends : log.end ≡ chain_end tail (changes_in tail file)
  pub count : log.changes ≡ length (changes_in tail file) - 1
  pub touched : (k : ℕ) → TouchByte k (changes_in tail file) → IsIn k log.spans.items
  pub only : (k : ℕ) → IsIn k log.spans.items → TouchByte k (changes_in tail file)

-- a log with a right change, or none
abbrev pub IsLogMark : Mark → ℕ → List ℕ → Type 0
IsLogMark marks.Missing tail file = changes_in tail file ≡ []
IsLogMark marks.Cut tail file = ⊥
IsLogMark (marks.Log log) tail file = IsLogIn log tail file

-- the mark of a file
abbrev pub IsMarkOf : Mark → List ℕ → Type 0
IsMarkOf marks.Missing file = (begins_with file cut_mark ≡ false) × ((begins_with file (log_mark (spelled_tail file)) ≡ false) ⊎ (changes_in (spelled_tail file) file ≡ []))
IsMarkOf marks.Cut file = begins_with file cut_mark ≡ true
IsMarkOf (marks.Log log) file = (begins_with file cut_mark ≡ false) × (begins_with file (log_mark (spelled_tail file)) ≡ true) × IsLogIn log (spelled_tail file) file
