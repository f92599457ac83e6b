-- Completeness of a gate: Σ M†M = I over its operators, for the small matrices by trial of every kind, and so for the embedded ones.
use mathlib.Core.Path.{◌≡◌, refl, sym, ap, ap₂, ◌∙◌}
use mathlib.Core.Bool.{Bool, true, cond, ◌&&◌}
use mathlib.Core.List.{List, [], ◌∷◌, ◌++◌, map}
use Prim.Native.Nat.{ℕ, zero, suc, ◌<◌}
use native.Mathlib.Omega.{arith}
use lib.Dec.{leb}
use lib.ListN.{length, length-take}
use borrow.Author.Tests.{leb-true}
use Rattle.algebra.specs.Sum.{list_sum}
use Rattle.algebra.specs.Lists.{every}
use Rattle.algebra.proofs.Tests.{and_split}
use Rattle.algebra.proofs.Adjoint.{Star}
use Rattle.exact.specs.Exact.{exact, conj, equal}
use Rattle.exact.proofs.Equal.{equal-true}
use Rattle.exact.proofs.Exact.{exacts, conj-plus, conj-by, conj-𝟘, one-by, mul-lowest}
use Rattle.gate.specs.Gate.{Gate, arity, qubits}
use Rattle.gate.specs.Operators.{Operator, operators, one, none, same_bits}
use Rattle.gate.specs.Embedding.{adjoint, basis, product, Complete}
use Rattle.gate.specs.Inner.Entries.{valid}
use Rattle.gate.proofs.Gate.{valid-split, valid-fits, valid-distinct}
use Rattle.gate.proofs.Trials.{plain, at-gate, all_supported, at-supported}
use Rattle.gate.proofs.Bits.{Word}
use Rattle.gate.proofs.Isometry.{Isometry, embed_isometry}

abbrev pub conjugation : Star exacts
conjugation = record {
  conj = conj;
  conj_add = conj-plus;
  conj_mul = conj-by;
  conj_zero = conj-𝟘;
  one-mul = λ x y. one-by (exact.◌⊗◌ x y) (mul-lowest x y);
  one_one = refl;
}

-- ---- a test on all basis states, at one
every_append : {A : Type 0} (p : A → Bool) (xs ys : List A) → every p (xs ++ ys) ≡ true → (every p xs ≡ true) × (every p ys ≡ true)
every_append p [] ys e = (refl, e)
every_append p (x ∷ xs) ys e =
    let (h, k) = and_split (p x) (every p (xs ++ ys)) e in
    let (f, g) = every_append p xs ys k in
    (ap₂ ◌&&◌ h f, g)

every_map : {A B : Type 0} (p : B → Bool) (f : A → B) (xs : List A) → every p (map f xs) ≡ every (λ (x : A). p (f x)) xs
every_map p f [] = refl
every_map p f (x ∷ xs) = ap (λ (b : Bool). p (f x) && b) (every_map p f xs)

basis-at : (m : ℕ) (p : List ℕ → Bool) → every p (basis m) ≡ true → (y : List ℕ) → Word m y → p y ≡ true
basis-at zero p e [] w = (and_split (p []) true e).0
basis-at zero p e (y ∷ ys) w = absurd (omega (arith, w.0))
basis-at (suc m) p e [] w = absurd (omega (arith, w.0))
basis-at (suc m) p e (y ∷ ys) w =
    let h = every_append p (map (λ (x : List ℕ). 0 ∷ x) (basis m)) (map (λ (x : List ℕ). 1 ∷ x) (basis m)) e in
    go y w.1.0
    (basis-at m (λ (x : List ℕ). p (0 ∷ x)) (sym (every_map p (λ (x : List ℕ). 0 ∷ x) (basis m)) ∙ h.0) ys (omega (arith, w.0), w.1.1))
    (basis-at m (λ (x : List ℕ). p (1 ∷ x)) (sym (every_map p (λ (x : List ℕ). 1 ∷ x) (basis m)) ∙ h.1) ys (omega (arith, w.0), w.1.1))
  where
    go : (b : ℕ) → b < 2 → p (0 ∷ ys) ≡ true → p (1 ∷ ys) ≡ true → p (b ∷ ys) ≡ true
    go zero l f g = f
    go (suc zero) l f g = g
    go (suc (suc b)) l f g = absurd (omega arith)

-- ---- the small matrices: entry (y, z) of Σ M†M is 1 if y is z, else 0, for all y and z
module _ (m : ℕ) (os : List Operator) where
  abbrev entry_is : List ℕ → List ℕ → Bool
  entry_is y z = equal (list_sum exact (λ (o : Operator). product exact m (adjoint conj o.small) o.small y z) os) (cond (same_bits y z) one none)

  abbrev complete : Bool
  complete = every (λ (y : List ℕ). every (entry_is y) (basis m)) (basis m)

  isometry : complete ≡ true → Isometry exacts conjugation m (λ (o : Operator). o.small) os
  isometry e y z v w = equal-true _ _ (basis-at m (entry_is y) (basis-at m (λ (y : List ℕ). every (entry_is y) (basis m)) e y v) z w)

-- ---- of every gate
abbrev trial : ℕ → ℕ → Bool
trial kind k = complete (arity kind) (operators (plain kind k))

tried : all_supported trial ≡ true
tried = refl

module _ (n m : ℕ) (g : Gate) (ok : valid n m g ≡ true) where
  pub qubits-length : length (qubits g) ≡ arity g.kind
  qubits-length = length-take (arity g.kind) (g.a ∷ g.b ∷ g.c ∷ [])
      ∙ omega (arith, leb-true (arity g.kind) 3 (at-gate g (valid-split n m g ok).form (λ (kind k : ℕ). leb (arity kind) 3) refl))

  pub gate_isometry : Isometry exacts conjugation (length (qubits g)) (λ (o : Operator). o.small) (operators g)
  gate_isometry =
      let v = valid-split n m g ok in
      isometry (length (qubits g)) (operators g) (ap (λ (a : ℕ). complete a (operators g)) qubits-length ∙ at-supported g v.form v.support trial tried)

pub gate-complete : Complete
gate-complete n m g ok = embed_isometry exacts conjugation n (qubits g) (valid-fits n m g ok) (valid-distinct n m g ok) (λ (o : Operator). o.small) (operators g) (gate_isometry n m g ok)
