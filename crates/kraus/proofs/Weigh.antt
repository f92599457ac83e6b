-- A property of numbers that is graded by weight holds of the entries of all branches, at the weight of the gates.
use mathlib.Core.Path.{◌≡◌, subst}
use mathlib.Core.Bool.{Bool, true, false, cond}
use mathlib.Core.List.{List, [], ◌∷◌, map, foldl}
use Prim.Native.Nat.{ℕ, zero, suc, ◌+◌, ◌*◌, ◌/◌, ◌%◌, ◌^◌}
use native.Mathlib.Omega.{arith}
use lib.ListN.{get_or}
use Rattle.algebra.specs.Sum.{sum}
use Rattle.algebra.specs.Lists.{All, total}
use Rattle.algebra.proofs.Lists.{all_map, all_concat}
use Rattle.exact.specs.Exact.{Exact, exact}
use Rattle.gate.specs.Gate.{Gate, qubits, weight}
use Rattle.gate.specs.Operators.{Small, Operator, operators}
use Rattle.gate.specs.Embed.{agree, bits_of, embed}
use Rattle.kraus.specs.Dense.{tabulate, cell}
use Rattle.kraus.specs.Branch.{Branch, KrausOperator, apply, step, kraus_operator, operators_of, gate_step}

pub record Graded : Type 1 where
  pub Part : ℕ → Exact → Type 0
  pub zero : (w : ℕ) → Part w exact.𝟘
  pub add : (w : ℕ) (x y : Exact) → Part w x → Part w y → Part w (exact.◌⊕◌ x y)
  pub mul : (v w : ℕ) (x y : Exact) → Part v x → Part w y → Part (v + w) (exact.◌⊗◌ x y)

pub tabulate-all : {A : Type 0} (P : A → Type 0) (n i : ℕ) (f : ℕ → A) (z : A) → ((k : ℕ) → P (f k)) → P z → (k : ℕ) → P (get_or (tabulate n i f) k z)
tabulate-all P zero i f z h e k = e
tabulate-all P (suc n) i f z h e zero = h i
tabulate-all P (suc n) i f z h e (suc k) = tabulate-all P n (suc i) f z h e k

module _ (𝓖 : Graded) where
  open 𝓖 use {Part}

  -- all entries of a small matrix; of all operators of a gate; of a branch's matrix
  abbrev pub Light : ℕ → Small → Type 0
  Light w u = (x y : List ℕ) → Part w (u x y)

  abbrev pub Weighs : Gate → Type 0
  Weighs g = All (λ (o : Operator). Light (weight g) o.small) (operators g)

  abbrev pub Entries : ℕ → Branch → Type 0
  Entries w b = (i : ℕ) → Part w (get_or b.matrix i exact.𝟘)

  sum-part : (w m : ℕ) (f : ℕ → Exact) → ((k : ℕ) → Part w (f k)) → Part w (sum exact m f)
  sum-part w zero f h = 𝓖.zero w
  sum-part w (suc m) f h = 𝓖.add w (sum exact m f) (f m) (sum-part w m f h) (h m)

  module _ (n : ℕ) where
    pub embed-part : (w : ℕ) (qs : List ℕ) (u : Small) → Light w u → (r c : ℕ) → Part w (embed exact n qs u r c)
    embed-part w qs u h r c = go (agree n qs r c)
      where
        go : (b : Bool) → Part w (cond b (u (bits_of n qs r) (bits_of n qs c)) exact.𝟘)
        go true = h (bits_of n qs r) (bits_of n qs c)
        go false = 𝓖.zero w

    -- operators whose entries all have weight v
    abbrev pub Weighing : ℕ → List KrausOperator → Type 0
    Weighing v = All (λ (K : KrausOperator). (r c : ℕ) → Part v (K.entry r c))

    pub apply-entries : (v w : ℕ) (b : Branch) → Entries w b → (K : KrausOperator) → ((r c : ℕ) → Part v (K.entry r c)) → Entries (v + w) (apply n b K)
    apply-entries v w b e K u i =
        tabulate-all (Part (v + w)) (2 ^ n * 2 ^ n) 0 _ exact.𝟘
        (λ p. sum-part (v + w) (2 ^ n) _ (λ q. 𝓖.mul v w (K.entry (p / 2 ^ n) q) (cell exact (2 ^ n) b.matrix q (p % 2 ^ n)) (u (p / 2 ^ n) q) (e (q * 2 ^ n + p % 2 ^ n))))
        (𝓖.zero (v + w)) i

    pub step-entries : (v : ℕ) (Ks : List KrausOperator) → Weighing v Ks → (w : ℕ) (bs : List Branch) → All (Entries w) bs → All (Entries (v + w)) (step n bs Ks)
    step-entries v Ks h w bs k =
        all_concat (Entries w) (Entries (v + w)) (λ (b : Branch). map (apply n b) Ks)
        (λ b e. all_map (λ (K : KrausOperator). (r c : ℕ) → Part v (K.entry r c)) (Entries (v + w)) (apply n b) (apply-entries v w b e) Ks h) bs k

    operators_weigh : (g : Gate) → Weighs g → Weighing (weight g) (operators_of n g)
    operators_weigh g = all_map (λ (o : Operator). Light (weight g) o.small) (λ (K : KrausOperator). (r c : ℕ) → Part (weight g) (K.entry r c)) (kraus_operator n g) (λ o h. embed-part (weight g) (qubits g) o.small h) (operators g)

    pub steps_entries : (gs : List Gate) → All Weighs gs → (w : ℕ) (bs : List Branch) → All (Entries w) bs → All (Entries (total weight gs + w)) (foldl (gate_step n) bs gs)
    steps_entries [] h w bs k = let e : w ≡ 0 + w = omega arith in subst (λ (v : ℕ). All (Entries v) bs) e k
    steps_entries (g ∷ gs) h w bs k =
        let e : total weight gs + (weight g + w) ≡ weight g + total weight gs + w = omega arith in
        subst (λ (v : ℕ). All (Entries v) (foldl (gate_step n) (gate_step n bs g) gs)) e
        (steps_entries gs h.1 (weight g + w) (gate_step n bs g) (step-entries (weight g) (operators_of n g) (operators_weigh g h.0) w bs k))
