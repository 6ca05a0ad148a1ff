-- Law: a history may be cut anywhere: the content that the first part leaves is the base of the rest.
use Rattle.std.specs.Prelude.{◌≡◌, ◌++◌, ℕ, ◌+◌, List, length, []}
use Rattle.rrd_spec.specs.History.{Content, Event, moment_of, moment_at_end, IsHistory, IsBase}
use Rattle.rrd_spec.specs.Commands.{events}
use Rattle.rrd_spec.specs.Laws.ListedContent.{content_listed}
use Rattle.rrd_spec.specs.History.Cells.{content}
use Rattle.rrd_spec.specs.History.Groups.{finished, unfinished, Rule}

-- for every list in two parts, the groups continue where the first part left them
pub record GoesOn {A P B : Type 0} (rule : Rule A P B) (before : ℕ) (begun : P) (xs ys : List A) : Type 0 where
  pub finished_is :
      finished rule before begun (xs ++ ys)
      ≡ finished rule before begun xs ++ finished rule (before + length xs) (unfinished rule before begun xs) ys
  pub unfinished_is :
      unfinished rule before begun (xs ++ ys)
      ≡ unfinished rule (before + length xs) (unfinished rule before begun xs) ys

-- the content of a history in two parts is that of the second part on the content of the first
abbrev pub GoesOnFromContent : Content → List Event → List Event → Type 0
GoesOnFromContent base first second =
    IsBase base → IsHistory (moment_of base) first → IsHistory (moment_at_end base first) second
    → content base (first ++ second) ≡ content (content base first) second

abbrev pub StaysBase : Content → List Event → Type 0
StaysBase base events = IsBase base → IsHistory (moment_of base) events → IsBase (content base events)

-- a content without an event stays unchanged
abbrev pub StaysAsItIs : Content → Type 0
StaysAsItIs base = IsBase base → content_listed base [] ≡ base

-- a history may be cut anywhere, with its rows as lists
abbrev pub GoesOnListed : Content → List Event → List Event → Type 0
GoesOnListed base first second =
    IsBase base → IsHistory (moment_of base) first → IsHistory (moment_at_end base first) second
    → content_listed base (first ++ second) ≡ content_listed (content_listed base first) second
