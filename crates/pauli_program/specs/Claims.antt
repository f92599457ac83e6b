-- What holds of the branches of a Pauli program, a type each.
use Rattle.std.specs.Prelude.{◌≡◌, true, ℕ, ◌+◌, ◌*◌, ◌^◌, ◌≤◌, ◌<◌, get_or, take}
use mathlib.Core.List.{List, [], ◌∷◌, foldl}
use Rattle.algebra.specs.Lists.{All, total}
use Rattle.algebra.specs.Sum.{sum, list_sum, times, δ}
use Rattle.exact.specs.Exact.{Exact, exact, conj, narrow, well_formed}
use Rattle.gate.specs.Gate.{Gate, gate, max_weight}
use Rattle.gate.specs.Operators.{pauli_x, phase, projectors, operator, no_unitary}
use Rattle.gate.specs.Embed.{embed}
use Rattle.gate.specs.Embedding.{Equal, adjoint}
use Rattle.kraus.specs.Dense.{cell}
use Rattle.kraus.specs.Branch.{Store, Branch, branches}
use Rattle.kraus.specs.Blocks.{survivors, stores, block}
use Rattle.pauli_nodes.specs.Nodes.{Node, Placed, Reference, reference, hermitian, axis_matrix}
use Rattle.pauli_nodes.specs.Operations.{Operation, rotate, rotate_if, measure, axis, weight}
use Rattle.pauli_program.specs.Operators.{rotation, projector}
use Rattle.pauli_program.specs.Program.{program_branches}

-- eighths of a turn are below 8
abbrev pub Eighths : Operation → Type 0
Eighths (rotate a k) = k < 8
Eighths (rotate_if a k j) = k < 8
Eighths (measure a bs) = Unit {0}

-- a program that the questions on nodes and operations let pass
pub record Sound (n : ℕ) (nodes : List Node) (os : List Operation) : Type 0 where
  pub few : n ≤ 5
  pub placed : All (Placed n) nodes
  pub axes : All (λ (o : Operation). hermitian n (axis_matrix n nodes (axis o)) ≡ true) os
  pub eighths : All Eighths os

-- Σ K†K = I over its branches, after every operation
abbrev pub ProgramComplete : Type 0
ProgramComplete =
    (n : ℕ) (σ : Store) (nodes : List Node) (os : List Operation) → Sound n nodes os
    → Equal (2 ^ n)
    (λ (r c : ℕ). list_sum exact (λ (b : Branch). let K = cell exact (2 ^ n) b.matrix in times exact (2 ^ n) (adjoint conj K) K r c) (program_branches n nodes σ os))
    (δ exact)

-- no number grows too large where the weight is accepted: after every k operations each entry of each Kraus matrix is narrow
abbrev pub ProgramNarrow : Type 0
ProgramNarrow =
    (n : ℕ) (σ : Store) (nodes : List Node) (os : List Operation) → Sound n nodes os → total weight os ≤ max_weight → (k : ℕ)
    → All (λ (b : Branch). (i : ℕ) → i < 2 ^ n * 2 ^ n → narrow (get_or b.matrix i exact.𝟘) ≡ true) (program_branches n nodes σ (take k os))

-- and each entry of each Choi block is in range and in lowest form
abbrev pub ProgramInRange : Type 0
ProgramInRange =
    (n : ℕ) (σ : Store) (nodes : List Node) (os : List Operation) → Sound n nodes os → total weight os ≤ max_weight → (τ : Store) (i j : ℕ) → i < 2 ^ n * 2 ^ n → j < 2 ^ n * 2 ^ n
    → well_formed (block (survivors (program_branches n nodes σ os)) τ i j) ≡ true

-- Choi blocks are Hermitian
abbrev pub ProgramHermitian : Type 0
ProgramHermitian = (n : ℕ) (σ : Store) (nodes : List Node) (os : List Operation) (τ : Store) (i j : ℕ) → let bs = survivors (program_branches n nodes σ os) in block bs τ i j ≡ conj (block bs τ j i)

-- the effects of the stores add up to the identity
abbrev pub ProgramEffects : Type 0
ProgramEffects =
    (n : ℕ) (σ : Store) (nodes : List Node) (os : List Operation) → Sound n nodes os
    → let bs = survivors (program_branches n nodes σ os) in
    Equal (2 ^ n) (λ (r c : ℕ). foldl (λ (x : Exact) (τ : Store). exact.◌⊕◌ x (sum exact (2 ^ n) (λ (o : ℕ). block bs τ (o * 2 ^ n + r) (o * 2 ^ n + c)))) exact.𝟘 (stores bs)) (δ exact)

-- ---- the same as gates
-- X and Z of qubit q
abbrev pub axis_x : ℕ → Reference
axis_x q = reference (1 + 2 * q) 0

abbrev pub axis_z : ℕ → Reference
axis_z q = reference (2 + 2 * q) 0

-- a rotation about Z by k eighths is rz(k), one about X by four is x, and the projectors of Z are those of a measure
pub record Ties (n : ℕ) (nodes : List Node) (q : ℕ) : Type 0 where
  pub rz : (k : ℕ) → k < 8 → Equal (2 ^ n) (rotation (axis_matrix n nodes (axis_z q)) k) (embed exact n (q ∷ []) (phase k))
  pub x : Equal (2 ^ n) (rotation (axis_matrix n nodes (axis_x q)) 4) (embed exact n (q ∷ []) pauli_x)
  pub measured : (v : ℕ) → v < 2 → Equal (2 ^ n) (projector (axis_matrix n nodes (axis_z q)) v) (embed exact n (q ∷ []) (get_or projectors v (operator no_unitary 0)).small)

abbrev pub AxesTied : Type 0
AxesTied = (n : ℕ) (nodes : List Node) (q : ℕ) → q < n → Ties n nodes q

-- gates, and the operations that do the same
pub data Tied (n : ℕ) : List Gate → List Operation → Type 0 where
  done : Tied n [] []
  rz : (q k : ℕ) {gs : List Gate} {os : List Operation} → q < n → k < 8 → Tied n gs os → Tied n (gate 7 q 0 0 k ∷ gs) (rotate (axis_z q) k ∷ os)
  x : (q : ℕ) {gs : List Gate} {os : List Operation} → q < n → Tied n gs os → Tied n (gate 1 q 0 0 0 ∷ gs) (rotate (axis_x q) 4 ∷ os)
  measured : (q b : ℕ) {gs : List Gate} {os : List Operation} → q < n → Tied n gs os → Tied n (gate 12 q b 0 0 ∷ gs) (measure (axis_z q) (b ∷ []) ∷ os)

-- such a circuit and such a program have the same branches, and so the same channel
abbrev pub ProgramsAreCircuits : Type 0
ProgramsAreCircuits = (n : ℕ) (σ : Store) (nodes : List Node) (gs : List Gate) (os : List Operation) → Tied n gs os → program_branches n nodes σ os ≡ branches n σ gs
