-- `write_plain` meets its contract.
use mathlib.Core.Path.{ap, ◌∙◌}
use Rattle.verdict.specs.Verdict.{verdict_number, verdict_index}
use Rattle.c_channels.proofs.forms.write_plain.Goals as goal

pub returns : goal.returns
returns c =
    let call = c.write_plain.ensures in
    record {
      value = c.report.ensures.value ∙ ap verdict_number call.verdict;
      index_after = c.report.ensures.index_after ∙ ap verdict_index call.verdict;
      res_after = call.words;
    }
