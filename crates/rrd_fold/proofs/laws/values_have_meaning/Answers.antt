use Rattle.rrd_fold.proofs.SummaryLemmas.{sum_more, least, greatest, last}
use Rattle.rrd_fold.proofs.laws.values_have_meaning.Goals as goal

pub returns-clause-sum : goal.returns-clause-sum
returns-clause-sum c = sum_more

pub returns-clause-least : goal.returns-clause-least
returns-clause-least c = least

pub returns-clause-greatest : goal.returns-clause-greatest
returns-clause-greatest c = greatest

pub returns-clause-last : goal.returns-clause-last
returns-clause-last c = last
