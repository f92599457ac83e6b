-- `sum_entry` meets its contract.
use Rattle.effects.specs.Effects.{term}
use Rattle.effects.proofs.Summing.{Summed}
use Rattle.effects.proofs.Block.sum_entry.Given as goal

abbrev pub invariant-loop-o : goal.invariant-loop-o
invariant-loop-o l = Summed (term l.self.words.now l.self.at l.self.d l.i) l.o l.acc
