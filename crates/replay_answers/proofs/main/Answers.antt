-- The text has the length that it is made with.
use Rattle.std.proofs.Common.{sym, ℕ}
use Rattle.std.proofs.lemmas.List.{length-replicate}
use Rattle.replay_answers.proofs.main.Goals as goal

pub slice_bounds-replay_input-end : goal.slice_bounds-replay_input-end
slice_bounds-replay_input-end c = sym (length-replicate {A = ℕ} 1300000 0)
