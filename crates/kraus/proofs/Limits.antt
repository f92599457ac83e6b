-- No accepted circuit gives up because a number grew too large: after every gate, all numbers are in the ranges of the scalars.
use mathlib.Core.Path.{◌≡◌, refl, ◌∙◌, subst}
use mathlib.Core.Bool.{true, ◌&&◌}
use mathlib.Core.List.{List, [], ◌∷◌, map}
use Prim.Native.Nat.{ℕ, zero, suc, ◌+◌, ◌*◌, ◌-◌, ◌/◌, ◌^◌, ◌≤◌, ◌<◌}
use native.Mathlib.Omega.{arith}
use lib.Pow.{pow_mono}
use lib.ListN.{get_or, take}
use borrow.Author.Tests.{le-leb}
use Rattle.algebra.specs.Sum.{sum}
use Rattle.algebra.specs.Lists.{All, every, total, filter_by}
use Rattle.algebra.proofs.Tests.{and_split}
use Rattle.algebra.proofs.Lists.{all_imp, all_map, all_unmap}
use Rattle.algebra.proofs.Totals.{Sub, sub_filter}
use Rattle.algebra.proofs.Perm.{gather}
use Rattle.algebra.proofs.Sum.{list_sum_map}
use Rattle.algebra.proofs.Adjoint.{dot}
use Rattle.algebra.proofs.Quadratic.{ℤ√2i}
use Rattle.algebra.proofs.Dyadic.{fits_low, fits_grow}
use Rattle.exact.specs.Exact.{Exact, exact, narrow, well_formed, max_numerator, max_exponent, narrow_numerator, narrow_exponent}
use Rattle.exact.specs.Inner.Sizes.{Within, scaled, Coords, Room, room_exponent}
use Rattle.exact.proofs.Exact.{exact_halving, exacts}
use Rattle.exact.proofs.Sizes.{of-within}
use Rattle.exact.proofs.Align.{widen, power-within, scaled-none}
use Rattle.gate.specs.Gate.{Gate, qubits, weight, max_weight}
use Rattle.gate.specs.Operators.{Operator, operators}
use Rattle.gate.specs.Embed.{embed}
use Rattle.gate.specs.Inner.Entries.{valid}
use Rattle.gate.proofs.Complete.{conjugation, gate-complete}
use Rattle.kraus.specs.Branch.{Store, Branch, branches}
use Rattle.kraus.specs.Blocks.{having, overlap, block}
use Rattle.kraus.proofs.Complete.{completeness}
use Rattle.kraus.proofs.Filtration.{Exp, exp_is}
use Rattle.kraus.proofs.Weigh.{Light, Entries, embed-part}
use Rattle.kraus.proofs.Weights.{graded, weighs, light, branch_parts}
use Rattle.kraus.proofs.Enough.{Entry, Sum, Fit, Whole, Matrix, Everywhere, Operators, entries, overlaps, effects, operator-entries}

-- ---- a circuit's branches, and a gate's operators
-- the exponent that a weight allows
abbrev pub exponent_of : ℕ → ℕ
exponent_of W = W / 2 + 1

pub part-fits : (w E : ℕ) (x : Exact) → Exp w ≤ E → graded.Part w x → Fit E x
part-fits w E x l (z, h) = fits_grow ℤ√2i exact_halving (Exp w) E x l (fits_low ℤ√2i exact_halving (Exp w) x _ h)

pub circuit_whole : (W n m : ℕ) (σ : Store) (gs : List Gate) → every (valid n m) gs ≡ true → total weight gs ≤ W → Whole n (exponent_of W) (branches n σ gs)
circuit_whole W n m σ gs ok l = record {
  complete = completeness n m σ gs ok;
  fits = all_imp (Entries graded (total weight gs)) _ (branches n σ gs) (λ b h i. part-fits (total weight gs) (exponent_of W) _ (omega (arith, exp_is (total weight gs))) (h i)) (branch_parts n σ gs);
}

-- the matrices that a gate multiplies by
abbrev pub matrix_of : ℕ → Gate → Operator → Matrix
matrix_of n g o = embed exact n (qubits g) o.small

pub gate-operators : (n m : ℕ) (g : Gate) → valid n m g ≡ true → Operators n 1 (map (matrix_of n g) (operators g))
gate-operators n m g ok = record {
  complete = λ k l hk hl. list_sum_map exacts (λ (M : Matrix). dot exacts conjugation (2 ^ n) M k l) (matrix_of n g) (operators g) ∙ gate-complete n m g ok k l hk hl;
  fits = all_map (λ (o : Operator). Light graded (weight g) o.small) (λ (M : Matrix). (r c : ℕ) → Fit 1 (M r c)) (matrix_of n g)
      (λ o h r c. part-fits (weight g) 1 (matrix_of n g o r c) (omega (arith, exp_is (weight g), light g)) (embed-part graded n (weight g) (qubits g) o.small h r c)) (operators g) (weighs g);
}

-- ---- the ranges of the scalars
-- an entry of a Kraus matrix: narrow, in lowest form, with coordinates from −1 to 1 over at most 2^e
pub record Kraus (e : ℕ) (x : Exact) : Type 0 where
  pub well_formed_lem : well_formed x ≡ true
  pub is_narrow : narrow x ≡ true
  pub coords : Coords 1 e x

-- a sum: in range, in lowest form, with room for a term over at most 2^e
pub record Fitting (e : ℕ) (x : Exact) : Type 0 where
  pub well_formed_lem : well_formed x ≡ true
  pub room : (t : ℕ) → t ≤ e → Room t x

-- the numbers that are kept: E bounds the exponents of the branches' entries
pub record Enough (E n : ℕ) (bs : List Branch) : Type 0 where
  -- the entries of the branches
  pub entries : All (λ (b : Branch). (i : ℕ) → i < 2 ^ n * 2 ^ n → Kraus E (get_or b.matrix i exact.𝟘)) bs
  -- entry (i, j) of a block, summed over any of the branches, in their order
  pub blocks : (xs : List Branch) → Sub xs bs → (i j : ℕ) → i < 2 ^ n * 2 ^ n → j < 2 ^ n * 2 ^ n → Fitting (E + E) (gather exact.◌⊕◌ (overlap i j) exact.𝟘 xs)
  -- entry (r, c) of their effect, summed over the outputs below k
  pub effects : (xs : List Branch) → Sub xs bs → (r c k : ℕ) → r < 2 ^ n → c < 2 ^ n → k ≤ 2 ^ n
      → Fitting (E + E) (sum exact k (λ (o : ℕ). gather exact.◌⊕◌ (overlap (o * 2 ^ n + r) (o * 2 ^ n + c)) exact.𝟘 xs))

-- the numbers that the ranges ask for
pub record Suits (E : ℕ) : Type 0 where
  pub narrow_exponent_lem : E ≤ narrow_exponent
  pub narrow_numerator_lem : 2 ^ E ≤ narrow_numerator
  pub exponent : E + E ≤ room_exponent
  pub numerator : 2 ^ (E + E) ≤ max_numerator

module _ (E : ℕ) (suits : Suits E) where
  kraus : (e : ℕ) (x : Exact) → e ≤ E → Entry e x → Kraus e x
  kraus e x l h = record {
    well_formed_lem = λ i. (of-within max_numerator x.num (widen (2 ^ E) max_numerator x.num wide unit) i && le-leb x.exp max_exponent (omega (arith, short)) i) && h.lowest i;
    is_narrow = λ i. of-within narrow_numerator x.num (widen (2 ^ E) narrow_numerator x.num suits.narrow_numerator_lem unit) i && le-leb x.exp narrow_exponent short i;
    coords = h.coords;
  }
    where
      low : x.exp ≤ E
      low = omega (arith, h.coords.exponent)

      short : x.exp ≤ narrow_exponent
      short = omega (arith, low, suits.narrow_exponent_lem)

      unit : Within (2 ^ E) x.num
      unit = widen (1 * 2 ^ E) (2 ^ E) x.num (omega arith) (power-within 1 x.exp E x.num low h.coords.size)

      wide : 2 ^ E ≤ max_numerator
      wide = omega (arith, suits.numerator, pow_mono {i = E} {j = E + E} (omega arith))

fitting : (e s : ℕ) (x : Exact) → e ≤ room_exponent → s ≤ max_numerator → Sum e s x → Fitting e x
fitting e s x l m h = record {
  well_formed_lem = λ i. (of-within max_numerator x.num (widen s max_numerator x.num m plain) i && le-leb x.exp max_exponent (omega (arith, h.exponent)) i) && h.lowest i;
  room = λ t k. record { exponent = omega (arith, h.exponent); size = widen s max_numerator (scaled x.num (t - x.exp)) m (h.sizes t k) };
}
  where
    plain : Within s x.num
    plain = let n : 0 - x.exp ≡ 0 = omega arith in subst (Within s) (scaled-none x.num (0 - x.exp) n) (h.sizes 0 (omega arith))

pub enough : (E n : ℕ) (bs : List Branch) → Suits E → Whole n E bs → Enough E n bs
enough E n bs suits whole = record {
  entries = all_imp (λ (b : Branch). (i : ℕ) → i < 2 ^ n * 2 ^ n → Entry E (get_or b.matrix i exact.𝟘)) _ bs (λ b h i l. kraus E suits E _ (omega arith) (h i l)) (entries n E bs whole);
  blocks = λ xs s i j k l. fitting (E + E) (2 ^ (E + E)) _ (omega (arith, suits.exponent)) (omega (arith, suits.numerator)) (overlaps n E bs whole xs s i j k l);
  effects = λ xs s r c k hr hc hk. fitting (E + E) (2 ^ (E + E)) _ (omega (arith, suits.exponent)) (omega (arith, suits.numerator)) (effects n E bs whole xs s r c k hr hc hk);
}

-- the entries of a gate's matrices
pub gate-entries : (n m : ℕ) (g : Gate) → valid n m g ≡ true → All (λ (o : Operator). Everywhere (Kraus 1) n (matrix_of n g o)) (operators g)
gate-entries n m g ok = all_unmap (Everywhere (Kraus 1) n) (matrix_of n g) (operators g)
    (all_imp (Everywhere (Entry 1) n) (Everywhere (Kraus 1) n) (map (matrix_of n g) (operators g)) (λ M h c l r k. kraus 1 suits 1 (M r c) (omega arith) (h c l r k))
    (operator-entries n 1 (map (matrix_of n g) (operators g)) (gate-operators n m g ok)))
  where
    suits : Suits 1
    suits = record { narrow_exponent_lem = omega arith; narrow_numerator_lem = omega arith; exponent = omega arith; numerator = omega arith }

-- ---- a block or an effect of some of the branches
module _ {E n : ℕ} {bs : List Branch} (e : Enough E n bs) {xs : List Branch} (s : Sub xs bs) (τ : Store) where
  pub block-fits : (i j : ℕ) → i < 2 ^ n * 2 ^ n → j < 2 ^ n * 2 ^ n → Fitting (E + E) (block xs τ i j)
  block-fits = e.blocks (filter_by (having τ) xs) (sub_filter (having τ) s)

-- ---- the first k gates of an accepted list are accepted, and weigh no more
first : (n m : ℕ) (gs : List Gate) (k : ℕ) → every (valid n m) gs ≡ true → every (valid n m) (take k gs) ≡ true
first n m gs zero ok = refl
first n m [] (suc k) ok = refl
first n m (g ∷ gs) (suc k) ok = let (h, t) = and_split (valid n m g) (every (valid n m) gs) ok in λ i. h i && first n m gs k t i

lighter : (gs : List Gate) (k : ℕ) → total weight (take k gs) ≤ total weight gs
lighter gs zero = omega arith
lighter [] (suc k) = omega arith
lighter (g ∷ gs) (suc k) = omega (arith, lighter gs k)

-- NEVER TOO LARGE: circuits of weight at most W, after every k gates
pub never_too_large : (W : ℕ) → Suits (exponent_of W) → (n m : ℕ) (σ : Store) (gs : List Gate) → every (valid n m) gs ≡ true → total weight gs ≤ W
    → (k : ℕ) → Enough (exponent_of W) n (branches n σ (take k gs))
never_too_large W suits n m σ gs ok light k =
    enough (exponent_of W) n (branches n σ (take k gs)) suits (circuit_whole W n m σ (take k gs) (first n m gs k ok) (omega (arith, lighter gs k)))

-- the exponent of a Kraus entry of a circuit whose weight is accepted
abbrev pub kraus_exponent : ℕ
kraus_exponent = exponent_of max_weight

pub suits : Suits kraus_exponent
suits = record { narrow_exponent_lem = omega arith; narrow_numerator_lem = omega arith; exponent = omega arith; numerator = omega arith }

pub circuit_enough : (n m : ℕ) (σ : Store) (gs : List Gate) → every (valid n m) gs ≡ true → total weight gs ≤ max_weight → (k : ℕ) → Enough kraus_exponent n (branches n σ (take k gs))
circuit_enough = never_too_large max_weight suits
