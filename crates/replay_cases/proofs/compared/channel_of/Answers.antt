-- `compared::channel_of` meets its contract.
use Rattle.std.proofs.Common.{ℕ, ◌∙◌}
use Rattle.std.proofs.lemmas.List.{length-replicate}
use Rattle.judge.specs.Call.{result_after, work_after}
use Rattle.replay_cases.specs.Given.{circuit_at}
use Rattle.replay_cases.proofs.compared.channel_of.Goals as goal

pub returns : goal.returns
returns c =
    let s = c.args in
    let r = s.res.now in
    let w = s.work.now in
    let narrow = length-replicate {A = ℕ} 65 0 in
    let wide = length-replicate {A = ℕ} 5200 0 in
    let g = c.read_circuit-c.ensures.circuit ∙ (λ i. circuit_at s.text.now s.at (narrow i) (wide i)) in
    record {
      next = λ i. (g i).next;
      channel = c.circuit_channel.ensures.res_after ∙ (λ i. result_after (g i).n (g i).bits (g i).store (g i).limits (g i).gates r w);
      work = c.circuit_channel.ensures.work_after ∙ (λ i. work_after (g i).n (g i).bits (g i).store (g i).limits (g i).gates r w);
    }
