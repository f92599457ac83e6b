-- `judge_read` meets its contract.
use Rattle.form_calls.proofs.Answers.{read_narrow}
use Rattle.form_calls.proofs.judge_read.Goals as goal

pub form-requires : goal.form-requires
form-requires c = let s = c.args in read_narrow s.f s.words.now c.in_ok-h.ensures
