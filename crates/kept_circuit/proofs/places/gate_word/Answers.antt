-- The word is a number that fits.
use Rattle.std.proofs.Common.{◌+◌, arith}
use Rattle.store.specs.Store.{max_word}
use Rattle.gate.specs.Gate.{gate_size}
use Rattle.kept_circuit.proofs.Sound.{up_there, up_small}
use Rattle.kept_circuit.proofs.places.gate_word.Goals as goal

pub follow-requires : goal.follow-requires
follow-requires c = let a = c.args in (omega (arith, c.requires), up_there a.words.now a.at gate_size max_word (a.at + a.k) c.requires.1.1 (omega arith) (omega (arith, c.requires.0)))

pub overflow_cast-result : goal.overflow_cast-result
overflow_cast-result c = let a = c.args in record { fits = omega (arith, up_small a.words.now a.at gate_size max_word (a.at + a.k) c.requires.1.1 (omega arith) (omega (arith, c.requires.0))) }
