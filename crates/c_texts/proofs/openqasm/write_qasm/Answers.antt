-- `write_qasm` meets its contract.
use mathlib.Core.Path.{ap, ◌∙◌}
use Rattle.std.specs.Prelude.{ℕ, Result}
use Rattle.std.specs.Result.{result_unwrap_or}
use Rattle.verdict.specs.declared.Refusal.{Refusal}
use Rattle.verdict.specs.Verdict.{verdict_number, verdict_index}
use Rattle.c_texts.proofs.openqasm.write_qasm.Goals as goal

pub returns : goal.returns
returns c =
    let e = c.write_qasm-answer.ensures in
    record {
      value = c.report.ensures.value ∙ ap verdict_number e.value;
      out_after = e.out_after;
      bytes_after = c.unwrap_or.ensures ∙ ap (λ (a : Result ℕ Refusal). result_unwrap_or a 0) e.value;
      index_after = c.report.ensures.index_after ∙ ap verdict_index e.value;
    }
