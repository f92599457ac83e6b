-- A circuit of unitaries has one branch, and its matrix is the circuit's unitary.
use mathlib.Core.Path.{◌≡◌, refl, sym, ap, ◌∙◌}
use mathlib.Core.Bool.{Bool, true, false, cond, ◌&&◌, ◌||◌, true≢false}
use mathlib.Core.List.{List, [], ◌∷◌, ◌++◌, map, foldl}
use Prim.Native.Nat.{ℕ, ◌+◌, ◌^◌}
use lib.Dec.{eqb}
use lib.ListN.{get_or}
use borrow.Author.Tests.{eqb-true}
use Rattle.algebra.specs.Sum.{δ}
use Rattle.algebra.specs.Lists.{every, total}
use Rattle.algebra.proofs.Tests.{and_split}
use Rattle.exact.specs.Exact.{Exact, exact}
use Rattle.gate.specs.Gate.{Gate, qubits, splits, measure, reset}
use Rattle.gate.specs.Operators.{Operator, operator, projectors, resetters, unitaries, no_unitary}
use Rattle.gate.specs.Embed.{embed}
use Rattle.gate.specs.Inner.Entries.{valid}
use Rattle.kraus.specs.Dense.{table, left}
use Rattle.kraus.specs.Branch.{Branch, write, apply, gate_step, branches}
use Rattle.unitary.specs.Unitary.{unitary_step, circuit_unitary}

-- the branch of a matrix, with no bits
abbrev pub branch : List Exact → Branch
branch m = record { matrix = m; store = [] }

-- neither measure nor reset
no_split : (g : Gate) → eqb (splits g) 0 ≡ true → (eqb g.kind measure ≡ false) × (eqb g.kind reset ≡ false)
no_split g = go (eqb g.kind measure) (eqb g.kind reset)
  where
    go : (a b : Bool) → eqb (cond (a || (b || false)) 1 0) 0 ≡ true → (a ≡ false) × (b ≡ false)
    go true b e = absurd (true≢false (sym e))
    go false true e = absurd (true≢false (sym e))
    go false false e = (refl, refl)

step-one : (n : ℕ) (g : Gate) (m : List Exact) → eqb (splits g) 0 ≡ true → gate_step n (branch m ∷ []) g ≡ branch (unitary_step n m g) ∷ []
step-one n g m e = let f = no_split g e in go (eqb g.kind measure) (eqb g.kind reset) f.0 f.1
  where
    ops : Bool → Bool → List Operator
    ops a b = cond a projectors (cond b resetters (operator (get_or (unitaries g.k) g.kind no_unitary) 0 ∷ []))

    go : (a b : Bool) → a ≡ false → b ≡ false
        → map (apply n (branch m)) (map (λ (o : Operator). record { entry = embed exact n (qubits g) o.small; writes = write (cond a (g.b ∷ []) []) o.out }) (ops a b)) ++ []
        ≡ branch (left exact (2 ^ n) (λ (r c : ℕ). embed exact n (qubits g) (get_or (ops a b) 0 (operator no_unitary 0)).small r c) m) ∷ []
    go true b p q = absurd (true≢false p)
    go false true p q = absurd (true≢false q)
    go false false p q = refl

module _ (n : ℕ) where
  abbrev unitary : Gate → Bool
  unitary g = valid n 0 g && eqb (splits g) 0

  run-one : (gs : List Gate) (m : List Exact) → every unitary gs ≡ true → foldl (gate_step n) (branch m ∷ []) gs ≡ branch (foldl (unitary_step n) m gs) ∷ []
  run-one [] m e = refl
  run-one (g ∷ gs) m e =
      let a = and_split (unitary g) (every unitary gs) e in
      ap (λ (bs : List Branch). foldl (gate_step n) bs gs) (step-one n g m (and_split (valid n 0 g) (eqb (splits g) 0) a.0).1) ∙ run-one gs (unitary_step n m g) a.1

  pub one-branch : (gs : List Gate) → every unitary gs ≡ true → branches n [] gs ≡ branch (circuit_unitary n gs) ∷ []
  one-branch gs = run-one gs (table (2 ^ n) (δ exact))

  pub all_valid : (gs : List Gate) → every unitary gs ≡ true → every (valid n 0) gs ≡ true
  all_valid [] e = refl
  all_valid (g ∷ gs) e =
      let a = and_split (unitary g) (every unitary gs) e in
      let b = and_split (valid n 0 g) (eqb (splits g) 0) a.0 in
      λ i. b.0 i && all_valid gs a.1 i

  pub none-split : (gs : List Gate) → every unitary gs ≡ true → total splits gs ≡ 0
  none-split [] e = refl
  none-split (g ∷ gs) e =
      let a = and_split (unitary g) (every unitary gs) e in
      let b = and_split (valid n 0 g) (eqb (splits g) 0) a.0 in
      let x : splits g ≡ 0 = eqb-true (splits g) 0 b.1 in
      let y : total splits gs ≡ 0 = none-split gs a.1 in
      λ i. x i + y i
