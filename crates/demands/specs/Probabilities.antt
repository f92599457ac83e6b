-- Probabilities that add up: both calls on effects accept every channel that circuit_channel or pauli_channel delivered, with a result long enough, and what they leave adds up to the identity, without rounding.
use Rattle.std.specs.Prelude.{◌≡◌, true, ℕ, ◌+◌, ◌*◌, ◌^◌, ◌≤◌, ◌<◌, length, ℤ, Ok}
use mathlib.Core.List.{List, foldl}
use Rattle.algebra.specs.Lists.{All}
use Rattle.algebra.specs.Sum.{δ}
use Rattle.exact.specs.Exact.{Exact, exact, conj}
use Rattle.circuit.specs.declared.limits.Limits.{Limits}
use Rattle.channel.specs.Layout.{Block, effects, read_back_in}
use Rattle.effects.specs.Effects.{effects_size, effects_verdict, result_of, povm_of}
use Rattle.judge.specs.Call.{accepts, result_after}
use Rattle.pauli.specs.Call as pauli

-- effects of dimension d, read back from the words e along the chain: each is Hermitian, and over the stores they add up to the identity
pub record AddUp (d : ℕ) (e : List ℤ) : Type 0 where
  pub hermitian : All (λ (a : Block). (r c : ℕ) → r < d → c < d → a.entry (r * d + c) ≡ conj (a.entry (c * d + r))) (read_back_in (effects d) e)
  pub identity : (r c : ℕ) → r < d → c < d → foldl (λ (x : Exact) (a : Block). exact.◌⊕◌ x (a.entry (r * d + c))) exact.𝟘 (read_back_in (effects d) e) ≡ δ exact r c

-- of a channel l of dimension d: no refusal, and both forms add up
pub record Probabilities (d : ℕ) (l : List ℤ) : Type 0 where
  pub verdict : (res : List ℤ) → effects_size l ≤ length res → effects_verdict l res ≡ Ok tt
  pub textbook : (res : List ℤ) → effects_size l ≤ length res → AddUp d (povm_of l res)
  pub transposed : (res : List ℤ) → effects_size l ≤ length res → AddUp d (result_of l res)

-- every accepted circuit, whatever the result held
abbrev pub OfCircuits : Type 0
OfCircuits = (n m : ℕ) (σ : List ℕ) (l : Limits) (ws : List ℕ) (r w : List ℤ) → accepts n m σ l ws r w ≡ true → Probabilities (2 ^ n) (result_after n m σ l ws r w)

-- every accepted Pauli program, whatever the result held
abbrev pub OfPrograms : Type 0
OfPrograms = (n m : ℕ) (σ : List ℕ) (l : Limits) (ns os : List ℕ) (r w : List ℤ) → pauli.accepts n m σ l ns os r w ≡ true → Probabilities (2 ^ n) (pauli.result_after n m σ l ns os r w)
