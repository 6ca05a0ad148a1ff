use Rattle.rrd_base.proofs.Common.{◌≡◌, ◌++◌, take, drop, length, vec_len, AllByRecursion, IsBounded, rates}
use Rattle.rrd_base.proofs.walk.Walk.find_rates.Given as goal

abbrev pub invariant-loop-i : goal.invariant-loop-i
invariant-loop-i l =
    let walk = l.fn.self in
    record {
      value : l.self.rates.items ≡ rates (take l.i l.sources) l.interval (take l.i l.old) (take l.i walk.raws.items) ++ drop l.i walk.rates.items;
      bounded : AllByRecursion IsBounded (take l.i l.self.rates.items);
      places : vec_len l.self.rates ≡ length l.sources;
      rest : l.self ≡ record walk { rates = l.self.rates };
    }
