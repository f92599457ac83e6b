-- `compared::compared` meets its contract.
use mathlib.Core.Path.{◌∙◌}
use Rattle.compare.specs.Compare.{compare_of}
use Rattle.replay.specs.Record.{begun}
use Rattle.replay.specs.Answers.{with_comparison}
use Rattle.replay_cases.specs.Given.{given}
use Rattle.replay_cases.specs.Circuits.{channel_of}
use Rattle.replay_cases.proofs.compared.compared.Goals as goal

pub returns : goal.returns
returns c =
    let s = c.args in
    let t = s.text.now in
    let left = c.channel_of-second.ensures in
    let right = c.channel_of-answer.ensures in
    let begin = c.begin.ensures ∙ (λ i. begun ((right.next ∙ (λ j. (given t (left.next j)).next)) i)) in
    let second = right.channel ∙ (λ i. channel_of t (left.next i) s.right.now (left.work i)) in
    c.compare_call.ensures ∙ (λ i. with_comparison t (begin i) (compare_of (left.channel i) (second i)))
