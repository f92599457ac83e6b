-- `circuits::called` meets its contract.
use Rattle.std.proofs.Common.{ℕ, ◌∙◌}
use Rattle.std.proofs.lemmas.List.{length-replicate}
use Rattle.replay.specs.Record.{begun}
use Rattle.replay.specs.Answers.{with_call}
use Rattle.replay_cases.specs.Given.{circuit_at, ends_at}
use Rattle.replay_cases.specs.Circuits.{asked_verdict, asked_result, asked_work}
use Rattle.replay_cases.proofs.circuits.called.Goals as goal

pub returns : goal.returns
returns c =
    let s = c.args in
    let t = s.text.now in
    let narrow = length-replicate {A = ℕ} 65 0 in
    let wide = length-replicate {A = ℕ} 5200 0 in
    let room = length-replicate {A = ℕ} 1100 0 in
    let given = c.read_circuit-c.ensures.circuit ∙ (λ i. circuit_at t s.at (narrow i) (wide i)) in
    let ends = c.read_ends-layers.ensures.ends ∙ (λ i. (ends_at s.call t (given i).next (room i)).words) in
    let next = c.read_ends-layers.ensures.next ∙ (λ i. (ends_at s.call t (given i).next (room i)).next) in
    let r = c.mark.ensures in
    let w = c.mark-2.ensures in
    let verdict = c.asked-v.ensures.verdict ∙ (λ i. asked_verdict s.call (given i) (ends i) (r i) (w i)) in
    let result = c.asked-v.ensures.res ∙ (λ i. asked_result s.call (given i) (ends i) (r i) (w i)) in
    let work = c.asked-v.ensures.work ∙ (λ i. asked_work s.call (given i) (ends i) (r i) (w i)) in
    let begin = c.begin.ensures ∙ (λ i. begun (next i)) in
    record { held = c.check_call.ensures ∙ (λ i. with_call t (begin i) (verdict i) (result i) (work i)); res = result }
