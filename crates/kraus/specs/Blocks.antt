-- The channel of a list of branches: for each store its POVM element and its Choi block, the Choi matrix of the map that ends in that store, Σ |K⟩⟩⟨⟨K| over its branches' Kraus matrices.
use Rattle.std.specs.Prelude.{Bool, not, ℕ, get_or}
use mathlib.Core.List.{List, [], ◌∷◌, foldl}
use Rattle.algebra.specs.Lists.{every, filter_by}
use Rattle.algebra.specs.Sum.{times}
use Rattle.exact.specs.Exact.{Exact, exact, conj, is_zero}
use Rattle.gate.specs.Operators.{same_bits}
use Rattle.gate.specs.Embedding.{adjoint}
use Rattle.kraus.specs.Dense.{cell}
use Rattle.kraus.specs.Branch.{Store, Branch}

-- some entry is not zero
abbrev pub alive : Branch → Bool
alive b = not (every (λ (x : Exact). is_zero x.num) b.matrix)

abbrev pub survivors : List Branch → List Branch
survivors = filter_by alive

abbrev pub having : Store → Branch → Bool
having τ b = same_bits τ b.store

-- entry i times the conjugate of entry j
abbrev pub overlap : ℕ → ℕ → Branch → Exact
overlap i j b = exact.◌⊗◌ (get_or b.matrix i exact.𝟘) (conj (get_or b.matrix j exact.𝟘))

-- entry (i, j) of the Choi block of the store τ, summed over its branches in order
abbrev pub block : List Branch → Store → ℕ → ℕ → Exact
block bs τ i j = foldl (λ (x : Exact) (b : Branch). exact.◌⊕◌ x (overlap i j b)) exact.𝟘 (filter_by (having τ) bs)

-- entry (r, c) of K†K, of a branch's Kraus matrix K of d rows and columns: conj(K(o, r)) · K(o, c), summed over o from 0 up
abbrev pub squared : ℕ → ℕ → ℕ → Branch → Exact
squared d r c b = let K = cell exact d b.matrix in times exact d (adjoint conj K) K r c

-- entry (r, c) of the POVM element of the store τ (Nielsen and Chuang): Σ K†K over its branches in order
abbrev pub povm : ℕ → List Branch → Store → ℕ → ℕ → Exact
povm d bs τ r c = foldl (λ (x : Exact) (b : Branch). exact.◌⊕◌ x (squared d r c b)) exact.𝟘 (filter_by (having τ) bs)

-- each store once, in the order of the first branches
abbrev pub stores : List Branch → List Store
stores [] = []
stores (b ∷ bs) = b.store ∷ filter_by (λ (σ : Store). not (same_bits b.store σ)) (stores bs)
