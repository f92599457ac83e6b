-- A call of plain_channel: its questions have 23 among them; accepted, it leaves what circuit_channel leaves.
use Rattle.std.specs.Prelude.{Bool, cond, List, ℕ, length, ℤ, is_ok}
use Rattle.verdict.specs.Questions.{Verdict}
use Rattle.circuit.specs.declared.limits.Limits.{Limits}
use Rattle.judge.specs.Call.{result_after, work_after}
use Rattle.plain.specs.Questions.{plain_verdict}

-- as a call of circuit_channel
module _ (n m : ℕ) (σ : List ℕ) (l : Limits) (ws : List ℕ) (r w : List ℤ) where
  abbrev pub plain_verdict_of : Verdict
  plain_verdict_of = plain_verdict n m σ l ws (length r) (length w)

  abbrev pub plain_accepts : Bool
  plain_accepts = is_ok plain_verdict_of

  abbrev pub plain_result : List ℤ
  plain_result = cond plain_accepts (result_after n m σ l ws r w) r

  abbrev pub plain_work : List ℤ
  plain_work = cond plain_accepts (work_after n m σ l ws r w) w
