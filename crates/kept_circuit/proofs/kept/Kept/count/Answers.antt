-- Sound counts are there, and small.
use Rattle.std.proofs.Common.{arith}
use Rattle.kept_circuit.proofs.Sound.{counts_there, counts_small}
use Rattle.kept_circuit.proofs.kept.Kept.count.Goals as goal

pub follow-requires : goal.follow-requires
follow-requires c = counts_there c.args.self.words.now c.args.at c.args.self.counted c.requires

pub overflow_cast-result : goal.overflow_cast-result
overflow_cast-result c = record { fits = omega (arith, counts_small c.args.self.words.now c.args.at c.args.self.counted c.requires) }

pub returns-clause-few : goal.returns-clause-few
returns-clause-few c = omega (arith, counts_small c.args.self.words.now c.args.at c.args.self.counted c.requires)
