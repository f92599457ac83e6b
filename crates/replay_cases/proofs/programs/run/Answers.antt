-- `programs::run` meets its contract. The buffers have the lengths that they are made with.
use Rattle.std.proofs.Common.{ℤ, pos, sym}
use Rattle.std.proofs.lemmas.List.{length-replicate}
use Rattle.replay_cases.proofs.programs.run.Goals as goal

pub returns : goal.returns
returns c = c.lent.ensures

pub slice_bounds-lent-end : goal.slice_bounds-lent-end
slice_bounds-lent-end c = sym (length-replicate {A = ℤ} 263000 (pos 0))
