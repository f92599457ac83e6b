-- `input::judge` meets its contract.
use Rattle.std.proofs.Common.{◌≡◌, sym, subst, ◌∙◌, ◌<◌, length, rules, tests}
use lib.ListN.{get_or}
use Rattle.std.proofs.lemmas.List.{length_push}
use Rattle.circuit_text.specs.Text.{pieces}
use Rattle.circuit_text.proofs.Pieces.{next_piece, no_piece}
use Rattle.circuit_text.proofs.Judging.{Judging, judging_bad, judging_more, judging_no_byte, judging_all}
use Rattle.circuit_text.proofs.input.judge.Goals as goal
use Rattle.circuit_text.proofs.input.judge.Goals.{In-Some}

-- a piece that is given is the next one of the text
next_is : (c : In-Some) → (length c.loop-piece.yielded < length (pieces c.args.text.now)) × (c.in-Some.piece.now ≡ get_or (pieces c.args.text.now) (length c.loop-piece.yielded) c.in-Some.piece.now)
next_is c = next_piece _ _ _ c.args.text.now c.loop-piece.yielded c.loop-piece.yielded_by (cc) (cc) (cc) (λ x b q k. search (rules, tests)) _ _ c.in-Some.is c.next.ensures.steps

pub returns-in_err-number : goal.returns-in_err-number
returns-in_err-number c =
    let h = next_is (goal.at.returns-in_err-number c).In-Some in
    let none = judging_bad c.args.text.now c.loop-piece.invariant h.0 h.1 (sym c.in_err-number.was ∙ c.number_in.ensures) in
    cc

pub returns-in_err-seen : goal.returns-in_err-seen
returns-in_err-seen c =
    let h = next_is (goal.at.returns-in_err-seen c).In-Some in
    let none = judging_no_byte c.args.text.now c.loop-piece.invariant h.0 h.1 (sym c.in_ok-number.was ∙ c.number_in.ensures) (sym c.in_err-seen.was ∙ c.with.ensures) in
    cc

pub loop-piece-preserved : goal.loop-piece-preserved
loop-piece-preserved c =
    let h = next_is (goal.at.loop-piece-preserved c).In-Some in
    subst (λ n. Judging c.args.text.now n c.in_ok-seen.seen) (sym (length_push c.loop-piece.yielded c.in-Some.piece))
    (judging_more c.args.text.now c.loop-piece.invariant h.0 h.1 (sym c.in_ok-number.was ∙ c.number_in.ensures) (sym c.in_ok-seen.was ∙ c.with.ensures))

pub returns : goal.returns
returns c =
    let all = no_piece _ _ _ c.args.text.now c.loop-piece.yielded c.loop-piece.yielded_by (cc) (cc) (cc) (λ x b q k. search (rules, tests)) _ c.in-None.is c.next.ensures.steps in
    judging_all c.args.text.now c.loop-piece.invariant all c.circuit.ensures
