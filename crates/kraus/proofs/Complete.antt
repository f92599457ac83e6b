-- Completeness: a step by complete operators keeps the sum of the branches' K†K, so that it is the identity after every gate of a circuit.
use mathlib.Core.Path.{◌≡◌, refl, ◌∙◌}
use mathlib.Core.Bool.{true}
use mathlib.Core.List.{List, [], ◌∷◌, map, foldl}
use Prim.Native.Nat.{ℕ, ◌^◌, ◌<◌}
use Rattle.algebra.specs.Sum.{list_sum, times, δ}
use Rattle.algebra.specs.Lists.{All, every}
use Rattle.algebra.proofs.Lists.{every-all}
use Rattle.algebra.proofs.Sum.{list_sum-same, list_sum_map, list_sum_concat, zero-sum}
use Rattle.algebra.proofs.Adjoint.{dot, dot-same, dot-one, keep_dot}
use Rattle.exact.specs.Exact.{Exact, exact}
use Rattle.exact.proofs.Exact.{exacts}
use Rattle.gate.specs.Gate.{Gate}
use Rattle.gate.specs.Operators.{operators}
use Rattle.gate.specs.Inner.Entries.{valid}
use Rattle.gate.proofs.Complete.{conjugation, gate-complete}
use Rattle.kraus.specs.Dense.{table, cell, left}
use Rattle.kraus.specs.Branch.{Store, Branch, KrausOperator, apply, step, start, kraus_operator, operators_of, gate_step, branches}
use Rattle.kraus.proofs.Dense.{cell-table}

module _ (n : ℕ) where
  abbrev d : ℕ
  d = 2 ^ n

  -- entry (c, c') of a branch's K†K, and of the sum over the branches
  abbrev pub norm : ℕ → ℕ → Branch → Exact
  norm c c' b = dot exacts conjugation (2 ^ n) (cell exact (2 ^ n) b.matrix) c c'

  abbrev pub gram : List Branch → ℕ → ℕ → Exact
  gram bs c c' = list_sum exact (norm c c') bs

  pub gram-start : (σ : Store) (c c' : ℕ) → c < 2 ^ n → c' < 2 ^ n → gram (start n σ) c c' ≡ δ exact c c'
  gram-start σ c c' l m =
      exacts.add_comm (dot exacts conjugation d (cell exact d (table d (δ exact))) c c') exact.𝟘
      ∙ zero-sum exacts d _
      ∙ dot-same exacts conjugation d (cell exact d (table d (δ exact))) (δ exact) c c' (λ r k. cell-table exact d (δ exact) r c k l) (λ r k. cell-table exact d (δ exact) r c' k m)
      ∙ dot-one exacts conjugation d c c' l

  -- a step by operators whose M†M add up to the identity
  abbrev pub Complete : List KrausOperator → Type 0
  Complete Ks = (k l : ℕ) → k < 2 ^ n → l < 2 ^ n → list_sum exact (λ (K : KrausOperator). dot exacts conjugation (2 ^ n) K.entry k l) Ks ≡ δ exact k l

  module _ (Ks : List KrausOperator) (complete : Complete Ks) where
    pub one-branch : (b : Branch) (c c' : ℕ) → c < 2 ^ n → c' < 2 ^ n → gram (map (apply n b) Ks) c c' ≡ norm c c' b
    one-branch b c c' l m =
        list_sum_map exacts (norm c c') (apply n b) Ks
        ∙ list_sum-same exacts _ _ Ks (λ K.
        dot-same exacts conjugation d (cell exact d (left exact d K.entry b.matrix)) (times exact d K.entry (cell exact d b.matrix)) c c'
        (λ r k. cell-table exact d (times exact d K.entry (cell exact d b.matrix)) r c k l)
        (λ r k. cell-table exact d (times exact d K.entry (cell exact d b.matrix)) r c' k m))
        ∙ keep_dot exacts conjugation d Ks (λ (K : KrausOperator). K.entry) complete (cell exact d b.matrix) c c'

    pub step-gram : (bs : List Branch) (c c' : ℕ) → c < d → c' < d → gram (step n bs Ks) c c' ≡ gram bs c c'
    step-gram bs c c' l m = list_sum_concat exacts (norm c c') (λ (b : Branch). map (apply n b) Ks) bs ∙ list_sum-same exacts _ _ bs (λ b. one-branch b c c' l m)

  pub operators-complete : (m : ℕ) (g : Gate) → valid n m g ≡ true → Complete (operators_of n g)
  operators-complete m g ok k l hk hl =
      list_sum_map exacts (λ (K : KrausOperator). dot exacts conjugation d K.entry k l) (kraus_operator n g) (operators g) ∙ gate-complete n m g ok k l hk hl

  module _ (m : ℕ) where
    steps-gram : (gs : List Gate) → All (λ (g : Gate). valid n m g ≡ true) gs → (bs : List Branch) (c c' : ℕ) → c < d → c' < d
        → gram (foldl (gate_step n) bs gs) c c' ≡ gram bs c c'
    steps-gram [] h bs c c' l k = refl
    steps-gram (g ∷ gs) h bs c c' l k = steps-gram gs h.1 (gate_step n bs g) c c' l k ∙ step-gram (operators_of n g) (operators-complete m g h.0) bs c c' l k

    -- COMPLETENESS: Σ K†K = I over the branches
    pub completeness : (σ : Store) (gs : List Gate) → every (valid n m) gs ≡ true → (c c' : ℕ) → c < 2 ^ n → c' < 2 ^ n
        → gram (branches n σ gs) c c' ≡ δ exact c c'
    completeness σ gs ok c c' l k =
        steps-gram gs (every-all (valid n m) (λ (g : Gate). valid n m g ≡ true) (λ g e. e) gs ok) (start n σ) c c' l k ∙ gram-start σ c c' l k
