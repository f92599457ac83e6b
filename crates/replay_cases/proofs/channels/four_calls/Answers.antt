-- `channels::four_calls` meets its contract.
use Rattle.std.proofs.Common.{pos, sym, ◌∙◌, replicate, length-take-le}
use Rattle.replay.specs.Answers.{with_blocks, with_povm, with_part}
use Rattle.replay.specs.Words.{marked}
use Rattle.replay.proofs.Parts.{fitted_less, take-room}
use Rattle.replay_cases.proofs.channels.four_calls.Goals as goal

pub slice_bounds-effects-end : goal.slice_bounds-effects-end
slice_bounds-effects-end c = fitted_less c.args.length 100 c.fitting-e.ensures

pub slice_bounds-effects_call-end : goal.slice_bounds-effects_call-end
slice_bounds-effects_call-end c = sym (length-take-le c.fitting-e.result (replicate 100 (pos 0)) (fitted_less c.args.length 100 c.fitting-e.ensures))

pub slice_bounds-povm-end : goal.slice_bounds-povm-end
slice_bounds-povm-end c = fitted_less c.args.length 100 c.fitting-e.ensures

pub slice_bounds-povm_call-end : goal.slice_bounds-povm_call-end
slice_bounds-povm_call-end c = sym (length-take-le c.fitting-e.result (replicate 100 (pos 0)) (fitted_less c.args.length 100 c.fitting-e.ensures))

pub returns : goal.returns
returns c =
    let s = c.args in
    let t = s.text.now in
    let left = s.left.now in
    let effects = take-room c.fitting-e.result s.length 100 (pos 0) c.fitting-e.ensures in
    let compared = c.compare_call-compared.ensures in
    let traced = c.effects_call-traced.ensures ∙ (λ i. with_blocks t (compared i) left (marked (effects i))) in
    let measured = c.povm_call-measured.ensures ∙ (λ i. with_povm t (traced i) left (marked (effects i))) in
    c.check_part.ensures ∙ (λ i. with_part t (measured i) (c.lookup.ensures i))
