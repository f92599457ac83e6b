-- A call of layered_channel: the questions of its layers come after those of its gates; accepted, it leaves what circuit_channel leaves for its gate list.
use Rattle.std.specs.Prelude.{Bool, cond, List, ℕ, length, ℤ, is_ok}
use Rattle.verdict.specs.Questions.{Verdict}
use Rattle.circuit.specs.declared.limits.Limits.{Limits}
use Rattle.circuit.specs.Layers.{layered_verdict}
use Rattle.judge.specs.Call.{result_after, work_after}

-- as a call of circuit_channel, with the ends of the layers
module _ (n m : ℕ) (σ : List ℕ) (l : Limits) (ws ends : List ℕ) (r w : List ℤ) where
  abbrev pub layered_verdict_of : Verdict
  layered_verdict_of = layered_verdict n m σ l ws ends (length r) (length w)

  abbrev pub layered_accepts : Bool
  layered_accepts = is_ok layered_verdict_of

  abbrev pub layered_result : List ℤ
  layered_result = cond layered_accepts (result_after n m σ l ws r w) r

  abbrev pub layered_work : List ℤ
  layered_work = cond layered_accepts (work_after n m σ l ws r w) w
