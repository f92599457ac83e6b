-- A gate of which every answer is yes passes.
use mathlib.Core.Path.{sym, ◌∙◌}
use Rattle.gate.specs.Inner.Words.{gate_of}
use Rattle.gate.specs.Inner.Accepted.{accepted}
use Rattle.gate.proofs.Questions.{accepted_passes}
use Rattle.gate.proofs.judge.GateWords.judge.Goals as goal

pub returns-then-is_accepted : goal.returns-then-is_accepted
returns-then-is_accepted c =
    let a = c.args in
    accepted_passes a.asking a.n a.i (gate_of a.self) ((λ j. accepted a.n (sym c.bits.ensures j) (sym c.may_split.ensures j) (gate_of a.self)) ∙ sym c.is_accepted.ensures ∙ c.if-is_accepted.true)
