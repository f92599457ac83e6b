-- `circuits::answered` meets its contract.
use Rattle.std.proofs.Common.{◌∙◌, length, take, drop, length-take-le}
use lib.Seq.{take_at}
use Rattle.replay.proofs.Parts.{fitted_less, take-fitting}
use Rattle.replay.proofs.Reading.{following}
use Rattle.replay_cases.specs.Circuits.{called, called_result, traced, answered}
use Rattle.replay_cases.proofs.circuits.answered.Goals as goal

pub returns : goal.returns
unfolding answered
returns c =
    let s = c.args in
    let t = s.text.now in
    let r = s.res.now in
    let w = s.work.now in
    let a = c.read-after.ensures in
    let b = following t s.at 0 a c.read-spent.ensures in
    let e = following t s.at 1 b c.read-effects.ensures in
    let n = c.fitting-r.result in
    let lent = take-fitting n c.read-after.result.size r c.fitting-r.ensures ∙ (λ i. take (a i).size r) in
    let worked = take-fitting c.fitting-w.result c.read-spent.result.size w c.fitting-w.ensures ∙ (λ i. take (b i).size w) in
    let left = c.called-seen.new.res in
    let long = c.called-seen.auto.res ∙ length-take-le n r (fitted_less c.read-after.result.size (length r) c.fitting-r.ensures) in
    let held = c.called-seen.ensures.held ∙ (λ i. called s.call t (e i).next (lent i) (worked i)) in
    let channel = take_at left (drop n r) n long ∙ c.called-seen.ensures.res ∙ (λ i. called_result s.call t (e i).next (lent i) (worked i)) in
    c.traced.ensures ∙ (λ i. traced s.call (held i) t (e i).size (channel i))
