-- `compared::compare_case` meets its contract. The buffers have the lengths that they are made with.
use Rattle.std.proofs.Common.{sym, ℤ, pos}
use Rattle.std.proofs.lemmas.List.{length-replicate}
use Rattle.replay_cases.specs.Circuits.{compare_case}
use Rattle.replay_cases.proofs.compared.compare_case.Goals as goal

pub slice_bounds-compared-end : goal.slice_bounds-compared-end
slice_bounds-compared-end c = sym (length-replicate {A = ℤ} 41000 (pos 0))

pub slice_bounds-compared-end-2 : goal.slice_bounds-compared-end-2
slice_bounds-compared-end-2 c = sym (length-replicate {A = ℤ} 41000 (pos 0))

pub slice_bounds-compared-end-3 : goal.slice_bounds-compared-end-3
slice_bounds-compared-end-3 c = sym (length-replicate {A = ℤ} 3300 (pos 0))

pub returns : goal.returns
unfolding compare_case
returns c = c.compared.ensures
