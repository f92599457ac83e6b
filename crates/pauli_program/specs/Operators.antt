-- The operators of rotations and measures about an axis, a Hermitian matrix A that squares to 1: each is p·1 + q·A.
use Rattle.std.specs.Prelude.{cond, ℕ, eqb}
use Rattle.algebra.specs.Sum.{δ}
use Rattle.exact.specs.Exact.{Exact, exact, half, omega}
use Rattle.gate.specs.Operators.{one}
use Rattle.gate.specs.Embedding.{Matrix}

-- what stands before 1, and before A
pub record Coefficients : Type 0 where
  pub own : Exact
  pub other : Exact

abbrev pub mixed : Coefficients → Matrix → Matrix
mixed f A r c = exact.◌⊕◌ (exact.◌⊗◌ f.own (δ exact r c)) (exact.◌⊗◌ f.other (A r c))

-- by k eighths of a turn: (1 + ω^k)/2 and (1 − ω^k)/2
abbrev pub turn_by : ℕ → Coefficients
turn_by k = record { own = half (exact.◌⊕◌ one (omega k)); other = half (exact.◌⊕◌ one (exact.neg (omega k))) }

-- onto outcome 0, where the eigenvalue is 1: 1/2 and 1/2; onto outcome 1: 1/2 and −1/2
abbrev pub onto : ℕ → Coefficients
onto v = record { own = half one; other = half (cond (eqb v 0) one (exact.neg one)) }

abbrev pub rotation : Matrix → ℕ → Matrix
rotation A k = mixed (turn_by k) A

abbrev pub projector : Matrix → ℕ → Matrix
projector A v = mixed (onto v) A
