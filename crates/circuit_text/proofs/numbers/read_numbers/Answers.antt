-- `numbers::read_numbers` meets its contract.
use Rattle.std.proofs.Common.{◌≡◌, ◌+◌, ◌<◌, length, sym, ap, ◌∙◌, rules, tests, arith}
use lib.ListN.{get_or}
use Rattle.std.proofs.lemmas.List.{length_push}
use Rattle.std.specs.Prelude.{is_some}
use Rattle.text.proofs.Read.{some_number, number_some}
use Rattle.circuit_text.specs.Text.{pieces}
use Rattle.circuit_text.proofs.Pieces.{next_piece, no_piece, along-sound, taken-all, taken_more}
use Rattle.circuit_text.proofs.numbers.read_numbers.Goals as goal
use Rattle.circuit_text.proofs.numbers.read_numbers.Goals.{In-Some}

-- a piece that is given is the next one of the text
next_is : (c : In-Some) → (length c.loop-piece.yielded < length (pieces c.args.text.now)) × (c.in-Some.piece.now ≡ get_or (pieces c.args.text.now) (length c.loop-piece.yielded) c.in-Some.piece.now)
next_is c = next_piece _ _ _ c.args.text.now c.loop-piece.yielded c.loop-piece.yielded_by (cc) (cc) (cc) (λ x b q k. search (rules, tests)) _ _ c.in-Some.is c.next.ensures.steps

pub unwrap-requires : goal.unwrap-requires
unwrap-requires c =
    let h = next_is (goal.at.unwrap-requires c).In-Some in
    let i = c.loop-piece.invariant in
    let good = along-sound (pieces c.args.text.now) i.taken.along (rw i.count h.0) (rw i.count h.1) c.requires.0 in
    ap is_some (c.number_in.ensures ∙ some_number _ good)

pub bounds-numbers-count : goal.bounds-numbers-count
bounds-numbers-count c =
    let h = next_is (goal.at.bounds-numbers-count c).In-Some in
    omega (arith, h.0, c.loop-piece.invariant.count, c.loop-piece.invariant.taken.same, c.requires.1)

pub loop-piece-preserved : goal.loop-piece-preserved
loop-piece-preserved c =
    let h = next_is (goal.at.loop-piece-preserved c).In-Some in
    let i = c.loop-piece.invariant in
    let is = number_some _ (sym c.unwrap.ensures ∙ c.number_in.ensures) in
    record {
      count = ap (λ n. n + 1) i.count ∙ sym (length_push c.loop-piece.yielded c.in-Some.piece);
      taken = rw (is.1) (taken_more (pieces c.args.text.now) c.args.numbers.now c.loop-piece.numbers i.taken (rw i.count h.0) (rw i.count h.1) is.0);
    }

pub returns : goal.returns
returns c =
    let all = no_piece _ _ _ c.args.text.now c.loop-piece.yielded c.loop-piece.yielded_by (cc) (cc) (cc) (λ x b q k. search (rules, tests)) _ c.in-None.is c.next.ensures.steps in
    let e = c.loop-piece.invariant.count ∙ all in
    record { count = e; room = taken-all (pieces c.args.text.now) c.args.numbers.now c.loop-piece.numbers c.loop-piece.invariant.taken e }
