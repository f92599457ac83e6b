-- Rotations about X and Z and measures of Z are gates: the same operators, and the same branches.
use mathlib.Core.Path.{◌≡◌, refl, sym, ap, ap₂, ◌∙◌}
use mathlib.Core.Bool.{Bool, true, false, cond}
use mathlib.Core.List.{List, [], ◌∷◌, ◌++◌, map, foldl, map-append}
use Prim.Native.Nat.{ℕ, ◌+◌, ◌-◌, ◌*◌, ◌/◌, ◌^◌, ◌<◌}
use native.Mathlib.Nat.{mod-lt}
use native.Mathlib.Omega.{arith}
use lib.ListN.{get_or, set}
use Rattle.algebra.specs.Lists.{all_below}
use Rattle.algebra.proofs.Semi.{zero-zero}
use Rattle.algebra.proofs.Sum.{times-same}
use Rattle.algebra.proofs.Tests.{exhaust, holds-true, all-at}
use Rattle.exact.specs.Exact.{Exact, exact, equal}
use Rattle.exact.proofs.Exact.{exacts}
use Rattle.exact.proofs.Equal.{equal-true}
use Rattle.gate.specs.Gate.{Gate, gate}
use Rattle.gate.specs.Operators.{Small, none, identity, pauli_x, phase, projectors, operator, no_unitary}
use Rattle.gate.specs.Embed.{bit, agree, embed}
use Rattle.gate.specs.Embedding.{Matrix, Equal}
use Rattle.gate.proofs.Embedding.{respects_identity}
use Rattle.kraus.specs.Dense.{cell}
use Rattle.kraus.specs.Branch.{Store, Branch, apply, operators_of, gate_step}
use Rattle.kraus.proofs.Dense.{table_same}
use Rattle.pauli_nodes.specs.Nodes.{Node, turned, node_matrix}
use Rattle.pauli_nodes.specs.Operations.{Operation, rotate, measure}
use Rattle.pauli_nodes.proofs.Numbers.{basis_numbered}
use Rattle.pauli_program.specs.Operators.{Coefficients, mixed, turn_by, onto}
use Rattle.pauli_program.specs.Program.{Path, follow, ways, operation_step}
use Rattle.pauli_program.specs.Claims.{axis_x, axis_z, Ties, AxesTied, Tied, done, rz, x, measured, ProgramsAreCircuits}

-- ---- two-by-two matrices: p·1 + s·u is v
abbrev small : Coefficients → Small → ℕ → ℕ → Exact
small f u a b = exact.◌⊕◌ (exact.◌⊗◌ f.own (identity (a ∷ []) (b ∷ []))) (exact.◌⊗◌ f.other (exact.◌⊗◌ (turned 0) (u (a ∷ []) (b ∷ []))))

abbrev same : Coefficients → Small → Small → Bool
same f u v = all_below 2 (λ (a : ℕ). all_below 2 (λ (b : ℕ). equal (small f u a b) (v (a ∷ []) (b ∷ []))))

module _ (n q : ℕ) (f : Coefficients) (u v : Small) (e : same f u v ≡ true) where
  entry : (a b : ℕ) → a < 2 → b < 2 → small f u a b ≡ v (a ∷ []) (b ∷ [])
  entry a b ha hb = equal-true _ _ (all-at 2 (λ (b : ℕ). equal (small f u a b) (v (a ∷ []) (b ∷ []))) (all-at 2 (λ (a : ℕ). all_below 2 (λ (b : ℕ). equal (small f u a b) (v (a ∷ []) (b ∷ [])))) e a ha) b hb)

  placed : Equal (2 ^ n) (mixed f (λ (r c : ℕ). exact.◌⊗◌ (turned 0) (embed exact n (q ∷ []) u r c))) (embed exact n (q ∷ []) v)
  placed r c hr hc =
      ap (λ (y : Exact). exact.◌⊕◌ (exact.◌⊗◌ f.own y) (exact.◌⊗◌ f.other (exact.◌⊗◌ (turned 0) (embed exact n (q ∷ []) u r c)))) (sym (respects_identity n (q ∷ []) r c hr hc))
      ∙ go (agree n (q ∷ []) r c)
    where
      a : ℕ
      a = bit n q r

      b : ℕ
      b = bit n q c

      go : (t : Bool) → exact.◌⊕◌ (exact.◌⊗◌ f.own (cond t (identity (bit n q r ∷ []) (bit n q c ∷ [])) none)) (exact.◌⊗◌ f.other (exact.◌⊗◌ (turned 0) (cond t (u (bit n q r ∷ []) (bit n q c ∷ [])) none)))
          ≡ cond t (v (bit n q r ∷ []) (bit n q c ∷ [])) none
      go true = entry (bit n q r) (bit n q c) (mod-lt (r / 2 ^ (n - 1 - q)) (omega arith)) (mod-lt (c / 2 ^ (n - 1 - q)) (omega arith))
      go false = ap₂ exact.◌⊕◌ (exacts.mul_zero f.own) (ap (exact.◌⊗◌ f.other) (exacts.mul_zero (turned 0)) ∙ exacts.mul_zero f.other) ∙ zero-zero exacts

-- ---- the axes
abbrev projected : ℕ → Small
projected v = (get_or projectors v (operator no_unitary 0)).small

module _ (n : ℕ) (nodes : List Node) (q : ℕ) (l : q < n) where
  about : (M : Matrix) (k : ℕ) → node_matrix n nodes k ≡ M → (f : Coefficients) (H : Matrix) → Equal (2 ^ n) (mixed f (λ (r c : ℕ). exact.◌⊗◌ (turned 0) (M r c))) H
      → Equal (2 ^ n) (mixed f (λ (r c : ℕ). exact.◌⊗◌ (turned 0) (node_matrix n nodes k r c))) H
  about M k e f H h r c hr hc = ap (λ (N : Matrix). mixed f (λ (r c : ℕ). exact.◌⊗◌ (turned 0) (N r c)) r c) e ∙ h r c hr hc

  tied : Ties n nodes q
  tied = record {
    rz = λ k hk. about (embed exact n (q ∷ []) (phase 4)) (2 + 2 * q) ((basis_numbered n nodes).sign q l) (turn_by k) (embed exact n (q ∷ []) (phase k))
        (placed n q (turn_by k) (phase 4) (phase k) (holds-true (exhaust (λ (k : ℕ). same (turn_by k) (phase 4) (phase k)) 8 tt k hk)));
    x = about (embed exact n (q ∷ []) pauli_x) (1 + 2 * q) ((basis_numbered n nodes).flip q l) (turn_by 4) (embed exact n (q ∷ []) pauli_x)
        (placed n q (turn_by 4) pauli_x pauli_x refl);
    measured = λ v hv. about (embed exact n (q ∷ []) (phase 4)) (2 + 2 * q) ((basis_numbered n nodes).sign q l) (onto v) (embed exact n (q ∷ []) (projected v))
        (placed n q (onto v) (phase 4) (projected v) (holds-true (exhaust (λ (v : ℕ). same (onto v) (phase 4) (projected v)) 2 tt v hv)));
  }

pub axes_tied : AxesTied
axes_tied = tied

-- ---- branches
module _ (n : ℕ) (nodes : List Node) where
  apply-same : (b : Branch) (G H : Matrix) (f : Store → Store) → Equal (2 ^ n) G H → apply n b (record { entry = G; writes = f }) ≡ apply n b (record { entry = H; writes = f })
  apply-same b G H f h = ap (λ (m : List Exact). record { matrix = m; store = f b.store })
      (table_same (2 ^ n) _ _ (λ r c hr hc. times-same exacts (2 ^ n) G H (cell exact (2 ^ n) b.matrix) (cell exact (2 ^ n) b.matrix) r c (λ k hk. h r k hr hk) (λ k hk. refl)))

  abbrev ends : List Path → List Branch
  ends = map (λ (p : Path). p.branch)

  step_same : (g : Gate) (o : Operation) → ((p : Path) → ends (map (follow n p) (ways n nodes o p.outcomes)) ≡ map (apply n p.branch) (operators_of n g))
      → (ps : List Path) → ends (operation_step n nodes ps o) ≡ gate_step n (ends ps) g
  step_same g o h [] = refl
  step_same g o h (p ∷ ps) = map-append (λ (p : Path). p.branch) (map (follow n p) (ways n nodes o p.outcomes)) (operation_step n nodes ps o) ∙ ap₂ ◌++◌ (h p) (step_same g o h ps)

  run-same : {gs : List Gate} {os : List Operation} → Tied n gs os → (ps : List Path) → ends (foldl (operation_step n nodes) ps os) ≡ foldl (gate_step n) (ends ps) gs
  run-same done ps = refl
  run-same (rz q k {gs = gs} l h t) ps =
      run-same t _ ∙ ap (λ (bs : List Branch). foldl (gate_step n) bs gs)
      (step_same (gate 7 q 0 0 k) (rotate (axis_z q) k) (λ p. ap (λ (b : Branch). b ∷ []) (apply-same p.branch _ _ (λ σ. σ) ((tied n nodes q l).rz k h))) ps)
  run-same (x q {gs = gs} l t) ps =
      run-same t _ ∙ ap (λ (bs : List Branch). foldl (gate_step n) bs gs)
      (step_same (gate 1 q 0 0 0) (rotate (axis_x q) 4) (λ p. ap (λ (b : Branch). b ∷ []) (apply-same p.branch _ _ (λ σ. σ) (tied n nodes q l).x)) ps)
  run-same (measured q b {gs = gs} l t) ps =
      run-same t _ ∙ ap (λ (bs : List Branch). foldl (gate_step n) bs gs)
      (step_same (gate 12 q b 0 0) (measure (axis_z q) (b ∷ [])) (λ p.
      ap₂ (λ (c e : Branch). c ∷ e ∷ []) (apply-same p.branch _ _ (λ σ. set σ b 0) ((tied n nodes q l).measured 0 (omega arith))) (apply-same p.branch _ _ (λ σ. set σ b 1) ((tied n nodes q l).measured 1 (omega arith)))) ps)

pub programs_are_circuits : ProgramsAreCircuits
programs_are_circuits n σ nodes gs os t = run-same n nodes t _
