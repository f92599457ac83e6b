-- Denominators: each entry of a gate of weight w is z / √2^w with z in ℤ[ω], and so is each entry of a branch, w the weight of the circuit.
use mathlib.Core.Path.{◌≡◌, refl, sym, ap, ap₂, subst}
use mathlib.Core.Bool.{Bool, true, false, cond, ◌&&◌}
use mathlib.Core.List.{List, [], ◌∷◌}
use Prim.Native.Nat.{ℕ, zero, suc, ◌+◌, ◌*◌, ◌/◌, ◌%◌, ◌^◌, ◌≤◌}
use native.Mathlib.Omega.{arith}
use lib.Dec.{eqb}
use lib.ListN.{get_or}
use lib.IntN.{ℤ, pos, negsuc}
use Rattle.algebra.specs.Quadratic.{Pair, pair}
use Rattle.algebra.specs.Sum.{δ}
use Rattle.algebra.specs.Lists.{All, total}
use Rattle.algebra.proofs.Semi.{zero-mul}
use Rattle.algebra.proofs.Ring.{CommRing, ℤR, semi, add-zero, mul_zero}
use Rattle.algebra.proofs.Quadratic.{quad, ℤ√2i}
use Rattle.exact.specs.Exact.{Exact, exact, number, imaginary, inv_sqrt_two, power_of, omega as omegaPower}
use Rattle.exact.proofs.Exact.{exact_halving}
use Rattle.gate.specs.Gate.{Gate, elem, measure, reset, weight}
use Rattle.gate.specs.Operators.{Small, one, none, two, same_bits, controlled, hadamard, pauli_x, pauli_y, phase, root_x, swapped, no_unitary, unitaries, Operator, operator, projectors, resetters}
use Rattle.kraus.specs.Branch.{Store, start, branches}
use Rattle.kraus.proofs.Filtration.{Inside, Part as PartOf, part-zero, part-add, part-mul}
use Rattle.kraus.proofs.Weigh.{Graded, Light as LightOf, Weighs, Entries, tabulate-all, steps_entries}

-- ---- ℤ[i] inside ℤ[√2, i]: a + b√v inside (a + 0√t) + (b + 0√t)√v
module _ (𝓐 : CommRing) (t v : 𝓐.K) where
  infixl 60 ◌⊕◌
  open 𝓐 use {K, zero-add}
  open 𝓐.ops use {𝟘, ◌⊕◌}

  abbrev 𝓑 : CommRing
  𝓑 = quad 𝓐 t

  abbrev widen : Pair K → Pair (Pair K)
  widen a = pair (pair a.re 𝟘) (pair a.im 𝟘)

  pub widen-add : (a b : Pair K) → widen ((quad 𝓐 v).ops.◌⊕◌ a b) ≡ (quad 𝓑 (pair v 𝟘)).ops.◌⊕◌ (widen a) (widen b)
  widen-add a b = ap₂ pair (ap (pair (a.re ⊕ b.re)) (sym (zero-add 𝟘))) (ap (pair (a.im ⊕ b.im)) (sym (zero-add 𝟘)))

  pub widen-mul : (a b : Pair K) → widen ((quad 𝓐 v).ops.◌⊗◌ a b) ≡ (quad 𝓑 (pair v 𝟘)).ops.◌⊗◌ (widen a) (widen b)
  widen-mul a b = ap₂ pair
      (ap₂ pair (simp (zero-mul (semi 𝓐), mul_zero 𝓐, add-zero 𝓐)) (simp (zero-mul (semi 𝓐), mul_zero 𝓐, add-zero 𝓐)))
      (ap₂ pair (simp (zero-mul (semi 𝓐), mul_zero 𝓐, add-zero 𝓐)) (simp (zero-mul (semi 𝓐), mul_zero 𝓐, add-zero 𝓐)))

abbrev pub gaussian : CommRing
gaussian = quad ℤR (negsuc 0)

abbrev pub inside : Inside gaussian ℤ√2i
inside = record {
  ι = λ a. number a.re (pos 0) a.im (pos 0);
  ι-add = widen-add ℤR (pos 2) (negsuc 0);
  ι-mul = widen-mul ℤR (pos 2) (negsuc 0);
  ι-zero = refl;
  j = pair (pos 0) (pos 1);
  s = number (pos 0) (pos 1) (pos 0) (pos 0);
  β = number (pos 1) (pos 0) (pos 1) (pos 0);
  s_s = refl;
  β-β = refl;
}

-- x is z / √2^w with z in ℤ[ω]
abbrev pub graded : Graded
graded = record {
  Part = PartOf gaussian ℤ√2i inside exact_halving;
  zero = part-zero gaussian ℤ√2i inside exact_halving;
  add = part-add gaussian ℤ√2i inside exact_halving;
  mul = part-mul gaussian ℤ√2i inside exact_halving;
}

abbrev Part : ℕ → Exact → Type 0
Part = graded.Part

abbrev Light : ℕ → Small → Type 0
Light = LightOf graded

-- ---- numbers: a + b i + (c + e i) ω
abbrev zω : ℤ → ℤ → ℤ → ℤ → Pair (Pair ℤ)
zω a b c e = pair (pair a b) (pair c e)

-- 0, 1 and −1
abbrev o : ℤ
o = pos 0

abbrev i : ℤ
i = pos 1

abbrev m : ℤ
m = negsuc 0

-- 1 is also ω (1 − i) / √2
one_at : (b : Bool) → Part (cond b 1 0) one
one_at true = (zω o o i m, refl)
one_at false = (zω i o o o, refl)

none-at : (w : ℕ) → Part w none
none-at = graded.zero

powers : (k : ℕ) → Part 0 (omegaPower k)
powers k = go (k % 8)
  where
    root : Exact
    root = exact.◌⊗◌ (exact.◌⊕◌ exact.𝟙 imaginary) inv_sqrt_two

    go : (k : ℕ) → Part 0 (power_of root k)
    go zero = one_at false
    go (suc k) = graded.mul 0 0 (power_of root k) root (go k) (zω o o i o, refl)

-- ---- small matrices
module _ (w : ℕ) where
  choose : (b : Bool) (p q : Exact) → Part w p → Part w q → Part w (cond b p q)
  choose true p q h k = h
  choose false p q h k = k

  light_two : (p q r s : Exact) → Part w p → Part w q → Part w r → Part w s → Light w (two p q r s)
  light_two p q r s hp hq hr hs x y =
      choose (eqb (get_or x 0 0) 0) (cond (eqb (get_or y 0 0) 0) p q) (cond (eqb (get_or y 0 0) 0) r s)
      (choose (eqb (get_or y 0 0) 0) p q hp hq) (choose (eqb (get_or y 0 0) 0) r s hr hs)

  light_controlled : Part w one → (u : Small) → Light w u → Light w (controlled u)
  light_controlled h u k [] ys = none-at w
  light_controlled h u k (x ∷ xs) [] = none-at w
  light_controlled h u k (x ∷ xs) (y ∷ ys) =
      choose (eqb x y) (cond (eqb x 1) (u xs ys) (cond (same_bits xs ys) one none)) none
      (choose (eqb x 1) (u xs ys) (cond (same_bits xs ys) one none) (k xs ys) (choose (same_bits xs ys) one none h (none-at w))) (none-at w)

  light_swapped : Part w one → Light w swapped
  light_swapped h x y = choose (eqb (get_or x 0 0) (get_or y 1 0) && eqb (get_or x 1 0) (get_or y 0 0)) one none h (none-at w)

light_phase : (k : ℕ) → Light 0 (phase k)
light_phase k = light_two 0 one none none (omegaPower k) (one_at false) (none-at 0) (none-at 0) (powers k)

light_x : Light 0 pauli_x
light_x = light_two 0 none one one none (none-at 0) (one_at false) (one_at false) (none-at 0)

light_y : Light 0 pauli_y
light_y = light_two 0 none (exact.neg imaginary) imaginary none (none-at 0) (zω o m o o, refl) (zω o i o o, refl) (none-at 0)

light_h : Light 1 hadamard
light_h = light_two 1 _ _ _ _ (zω i o o o, refl) (zω i o o o, refl) (zω i o o o, refl) (zω m o o o, refl)

light_sx : Light 1 root_x
light_sx = light_two 1 _ _ _ _ (zω o o i o, refl) (zω o o o m, refl) (zω o o o m, refl) (zω o o i o, refl)

light_none : Light 0 no_unitary
light_none x y = none-at 0

light_c : {u : Small} → Light 0 u → Light 0 (controlled u)
light_c {u} h = light_controlled 0 (one_at false) u h

-- ---- the kinds
abbrev heavy : ℕ → Bool
heavy kind = elem kind (0 ∷ 16 ∷ 25 ∷ [])

-- the matrices of the kinds from one on, each of its own weight
infixr 5 ◌▸◌
data Table : ℕ → List Small → Type 0 where
  end : (kind : ℕ) → Table kind []
  ◌▸◌ : {kind : ℕ} {u : Small} {us : List Small} → Light (cond (heavy kind) 1 0) u → Table (suc kind) us → Table kind (u ∷ us)

light_all : (k : ℕ) → Table 0 (unitaries k)
light_all k =
    light_h ▸ light_x ▸ light_phase 4 ▸ light_phase 2 ▸ light_phase 6 ▸ light_phase 1 ▸ light_phase 7 ▸ light_phase k ▸ light_c light_x ▸ light_c (light_phase 4)
    ▸ light_c (light_c light_x) ▸ light_c (light_c (light_phase 4)) ▸ light_none ▸ light_none ▸ light_none ▸ light_y ▸ light_sx ▸ light_none ▸ light_none
    ▸ light_swapped 0 (one_at false) ▸ light_c light_y ▸ light_none ▸ light_none ▸ light_none ▸ light_none
    ▸ light_controlled 1 (one_at true) hadamard light_h ▸ light_c (light_swapped 0 (one_at false)) ▸ end 27

look : {us : List Small} {b : ℕ} → Table b us → (j : ℕ) → Light (cond (heavy (b + j)) 1 0) (get_or us j no_unitary)
look {b = b} (end c) j = λ x y. none-at (cond (heavy (b + j)) 1 0)
look {b = b} (◌▸◌ {u = u} h t) zero = let e : b ≡ b + 0 = omega arith in subst (λ (q : ℕ). Light (cond (heavy q) 1 0) u) e h
look {b = b} (◌▸◌ {us = us} h t) (suc j) =
    let e : suc b + j ≡ b + suc j = omega arith in
    subst (λ (q : ℕ). Light (cond (heavy q) 1 0) (get_or us j no_unitary)) e (look t j)

pub weighs : (g : Gate) → Weighs graded g
weighs g = go (eqb g.kind measure) (eqb g.kind reset)
  where
    w : ℕ
    w = cond (heavy g.kind) 1 0

    e : Part w one
    e = one_at (heavy g.kind)

    z : Part w none
    z = none-at w

    unitary : Light w (get_or (unitaries g.k) g.kind no_unitary)
    unitary = let f : 0 + g.kind ≡ g.kind = omega arith in
        subst (λ (q : ℕ). Light (cond (heavy q) 1 0) (get_or (unitaries g.k) g.kind no_unitary)) f (look (light_all g.k) g.kind)

    go : (a b : Bool) → All (λ (o : Operator). Light w o.small) (cond a projectors (cond b resetters (operator (get_or (unitaries g.k) g.kind no_unitary) 0 ∷ [])))
    go true b = (light_two w one none none none e z z z, (light_two w none none none one z z z e, tt))
    go false true = (light_two w one none none none e z z z, (light_two w none one none none z e z z, tt))
    go false false = (unitary, tt)

pub light : (g : Gate) → weight g ≤ 1
light g = go (heavy g.kind)
  where
    go : (b : Bool) → cond b 1 0 ≤ 1
    go true = omega arith
    go false = omega arith

pub start_parts : (n : ℕ) (σ : Store) → All (Entries graded 0) (start n σ)
start_parts n σ = (
  tabulate-all (Part 0) (2 ^ n * 2 ^ n) 0 (λ (p : ℕ). δ exact (p / 2 ^ n) (p % 2 ^ n)) none
      (λ p. choose 0 (eqb (p / 2 ^ n) (p % 2 ^ n)) one none (one_at false) (none-at 0)) (none-at 0),
  tt,
)

-- every entry of every branch
pub branch_parts : (n : ℕ) (σ : Store) (gs : List Gate) → All (Entries graded (total weight gs)) (branches n σ gs)
branch_parts n σ gs =
    let e : total weight gs + 0 ≡ total weight gs = omega arith in
    subst (λ (v : ℕ). All (Entries graded v) (branches n σ gs)) e (steps_entries graded n gs (all_weigh gs) 0 (start n σ) (start_parts n σ))
  where
    all_weigh : (gs : List Gate) → All (Weighs graded) gs
    all_weigh [] = tt
    all_weigh (g ∷ gs) = (weighs g, all_weigh gs)
