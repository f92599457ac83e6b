-- `judge` meets its contract.
use Rattle.pair_list.proofs.Framing.{Walk}
use Rattle.pair_list.proofs.PairList.judge.Given as goal

abbrev pub invariant-loop-i : goal.invariant-loop-i
invariant-loop-i l = Walk l.self.words.now l.self.stores.now l.self.count l.i l.place.at l.place.from
