-- `circuits::circuit_case` meets its contract. The buffers have the lengths that they are made with.
use Rattle.std.proofs.Common.{sym, ℤ, pos}
use Rattle.std.proofs.lemmas.List.{length-replicate}
use Rattle.replay_cases.specs.Circuits.{circuit_case}
use Rattle.replay_cases.proofs.circuits.circuit_case.Goals as goal

pub returns : goal.returns
unfolding circuit_case
returns c = c.answered.ensures

pub slice_bounds-answered-end : goal.slice_bounds-answered-end
slice_bounds-answered-end c = sym (length-replicate {A = ℤ} 656000 (pos 0))

pub slice_bounds-answered-end-2 : goal.slice_bounds-answered-end-2
slice_bounds-answered-end-2 c = sym (length-replicate {A = ℤ} 167000 (pos 0))
