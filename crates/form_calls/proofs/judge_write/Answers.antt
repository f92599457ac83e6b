-- `judge_write` meets its contract.
use Rattle.form_calls.proofs.Answers.{write_narrow}
use Rattle.form_calls.proofs.judge_write.Goals as goal

pub form-requires : goal.form-requires
form-requires c = let s = c.args in write_narrow s.f s.channel.now c.in_ok-j.ensures
