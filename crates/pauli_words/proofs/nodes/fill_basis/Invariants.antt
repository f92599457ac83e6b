-- The mask forms of the identity and of the qubits before q are in the array.
use Rattle.std.proofs.Common.{◌+◌, ◌-◌, ◌*◌}
use Rattle.pauli_nodes.specs.Nodes.{basis_from}
use Rattle.pauli_words.specs.Inner.Masks.{basis_masks}
use Rattle.pauli_words.proofs.Held.{Laid}
use Rattle.pauli_words.proofs.nodes.fill_basis.Given as goal

abbrev pub invariant-loop-q : goal.invariant-loop-q
invariant-loop-q l = Laid l.n l.masks (1 + 2 * l.q) (basis_from (l.n - l.q) l.q) (basis_masks l.n)
