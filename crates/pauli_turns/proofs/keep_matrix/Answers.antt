-- `keep_matrix` meets its contract.
use mathlib.Core.List.{List}
use mathlib.Core.Path.{◌≡◌, sym, ap, ◌∙◌}
use lib.IntN.{ℤ}
use lib.Seq.{sets}
use native.Mathlib.Nat.{add-zero}
use Rattle.exact.specs.Exact.{lowest}
use Rattle.share.specs.Share.{number_in}
use Prim.Native.Nat.{ℕ, ◌+◌, ◌*◌, ◌/◌, ◌%◌}
use native.Mathlib.Omega.{arith}
use Rattle.rows.specs.Inner.Rows.{exponent_in, held_words}
use Rattle.branches.specs.Inner.Step.{row_numerators}
use Rattle.branches.proofs.Numerators.{exponent_read}
use Rattle.branches.proofs.Applied.{applied_shared, shared_there}
use Rattle.pauli_program.specs.Operators.{turn_by}
use Rattle.pauli_steps.specs.Inner.Rows.{pair_of, rows_about}
use Rattle.pauli_turns.specs.Inner.Turns.{form_of}
use Rattle.pauli_turns.proofs.Still.{still}
use Rattle.pauli_turns.proofs.keep_matrix.Goals as goal

pub returns-then-e-eq0 : goal.returns-then-e-eq0
returns-then-e-eq0 c =
    let a = c.args in
    let f = c.requires.factors in
    let none : exponent_in a.work.now a.at (a.d * a.d) ≡ 0 = omega (arith, exponent_read f, c.if-e-eq0.true) in
    let R = rows_about (form_of a.axis) (pair_of (turn_by 0)) in
    let kept = still a.work.now (form_of a.axis) a.at a.d in
    applied_shared a.work.now a.axis.flips R a.at a.at a.d (omega (arith, f.room)) kept (sym none)
    (shared_there f (λ (i : ℕ). row_numerators a.work.now a.axis.flips R a.at a.d (i / a.d) (i % a.d)) kept none 0 (omega arith))

-- over 2^(e + 0)
over_none : (l : List ℤ) (at n e : ℕ) {b : List ℤ} → b ≡ sets l at (held_words n (λ (i : ℕ). lowest (number_in l (at + i * 4)) e)) → b ≡ sets l at (held_words n (λ (i : ℕ). lowest (number_in l (at + i * 4)) (e + 0)))
over_none l at n e h = h ∙ ap (λ (e : ℕ). sets l at (held_words n (λ (i : ℕ). lowest (number_in l (at + i * 4)) e))) (sym (add-zero e))

pub returns : goal.returns
returns c =
    let a = c.args in
    let f = c.requires.factors in
    applied_shared a.work.now a.axis.flips (rows_about (form_of a.axis) (pair_of (turn_by 0))) a.at a.at a.d (omega (arith, f.room))
    (still a.work.now (form_of a.axis) a.at a.d) (exponent_read f) (over_none a.work.now a.at (a.d * a.d) _ c.share_matrix.ensures)
