-- The nodes passed so far are accepted, with their mask forms in the array, and the rest decides.
use Rattle.pauli_words.proofs.Asked.{Passed}
use Rattle.pauli_words.proofs.nodes.judge_nodes.Given as goal

abbrev pub invariant-loop-i : goal.invariant-loop-i
invariant-loop-i l = Passed l.words l.n l.masks l.i
