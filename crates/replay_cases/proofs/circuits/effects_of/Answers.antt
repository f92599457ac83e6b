-- `circuits::effects_of` meets its contract.
use Rattle.std.proofs.Common.{pos, ◌∙◌}
use Rattle.replay.specs.Answers.{with_blocks}
use Rattle.replay.specs.Words.{marked}
use Rattle.replay.proofs.Parts.{take-room}
use Rattle.replay_cases.proofs.circuits.effects_of.Goals as goal

pub returns : goal.returns
returns c =
    let s = c.args in
    c.effects_call.ensures ∙ (λ i. with_blocks s.text.now s.seen s.channel.now (marked (take-room c.fitting-e.result s.length 2600 (pos 0) c.fitting-e.ensures i)))
