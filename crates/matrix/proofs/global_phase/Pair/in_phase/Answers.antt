-- `matrix::global_phase::Pair::in_phase` meets its contract.
use mathlib.Core.Path.{◌≡◌, sym, ap, ◌∙◌, subst}
use mathlib.Core.List.{List}
use Prim.Native.Nat.{ℕ, ◌+◌, ◌*◌, ◌-◌, ◌≤◌, ◌<◌}
use native.Mathlib.Nat.{zero-add}
use lib.IntN.{ℤ}
use Rattle.algebra.specs.Lists.{all_below}
use Rattle.cells.specs.Cells.{cell_size}
use Rattle.cells.specs.Inner.Zero.{zero_at}
use Rattle.matrix.specs.Phase.{entry_of, pivot, in_phase_at, first_not}
use Rattle.matrix.proofs.First.{first-whole, found-some, found-none}
use Rattle.matrix.proofs.GlobalPhase.{phase-pivot, phase-none}
use Rattle.matrix.proofs.global_phase.Pair.in_phase.Goals as goal

-- what is looked for is the pivot
at_pivot : (l : List ℤ) (n : ℕ) → first_not (n - 0) 0 (λ (k : ℕ). zero_at l (0 + k * cell_size)) ≡ pivot n (entry_of l)
at_pivot l n = λ t. first-whole n (λ (k : ℕ). zero_at l (zero-add (k * cell_size) t)) t

pub returns-in-Some : goal.returns-in-Some
returns-in-Some c =
    let n = c.args.self.n in
    let x = entry_of c.args.self.left.now in
    let y = entry_of c.args.self.right.now in
    let p = found-some c.in-Some.ensures in
    let e = at_pivot c.args.self.left.now n in
    c.in_phase_at.ensures ∙ ap (in_phase_at n x y) (p.0 ∙ e) ∙ sym (phase-pivot n x y (subst (λ (k : ℕ). k < n) e p.1))

pub returns-in-None : goal.returns-in-None
returns-in-None c =
    let s = c.args in
    c.is_zero.ensures
    ∙ (λ t. all_below s.self.n (λ (k : ℕ). zero_at s.self.right.now (zero-add (k * cell_size) t)))
    ∙ sym (phase-none s.self.n (entry_of s.self.left.now) (entry_of s.self.right.now) (subst (λ (k : ℕ). s.self.n ≤ k) (at_pivot s.self.left.now s.self.n) (found-none c.in-None.ensures)))
