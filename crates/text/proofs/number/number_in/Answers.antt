-- `number::number_in` meets its contract.
use mathlib.Core.Path.{◌≡◌, sym, ◌∙◌, subst}
use mathlib.Core.Bool.{false}
use Prim.Native.Nat.{ℕ, ◌≤◌, ◌<◌}
use native.Mathlib.Omega.{arith}
use lib.Dec.{eqb}
use borrow.Author.Tests.{eqb-true, eqb-false}
use Rattle.std.specs.Prelude.{OkIff}
use Rattle.text.proofs.Read.{read_none, read_bad, read-digits, read-value, too_short, too_long, no_digits, judged}
use Rattle.text.proofs.number.number_in.Goals as goal
use Rattle.text.proofs.number.number_in.Goals.{then-is_empty-via-then-is_empty, then-is_empty-via-else-is_empty+then-piece-gt-MAX_DIGITS}

some : {n : ℕ} → false ≡ eqb n 0 → 1 ≤ n
some {n} e = let d = eqb-false n 0 (sym e) in omega arith

pub returns-then-is_empty : goal.returns-then-is_empty
returns-then-is_empty c =
    elim c.then-is_empty.branch [
      | then-is_empty-via-then-is_empty w ↦ too_short c.args.piece.now (eqb-true _ 0 (sym w.if-is_empty.ensures))
      | then-is_empty-via-else-is_empty+then-piece-gt-MAX_DIGITS w ↦ too_long c.args.piece.now w.if-piece-gt-MAX_DIGITS.true
    ]

pub loop-b-init : goal.loop-b-init
loop-b-init c = read_none c.args.piece.now

pub returns-then-not-is_digit : goal.returns-then-not-is_digit
returns-then-not-is_digit c = no_digits c.args.piece.now (some c.if-is_empty.ensures) (omega arith) (read_bad c.args.piece.now c.loop-b.invariant c.loop-b-test.true (sym c.if-not-is_digit.ensures))

pub returns : goal.returns
returns c =
    let p = c.args.piece.now in
    let v = read-value p c.loop-b.invariant c.loop-b-test.false in
    c.ok.ensures.value ∙ judged p (some c.if-is_empty.ensures) (omega arith) c.try_from.result (read-digits p c.loop-b.invariant c.loop-b-test.false) (subst (λ (n : ℕ). OkIff c.try_from.result (n < 4294967296) n) (sym v) c.try_from.ensures)
