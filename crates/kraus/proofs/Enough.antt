-- Sizes of the numbers of a circuit: entries of its branches and operators, and sums that blocks and effects are made by.
-- All from Σ K†K = 1 and a bound E on the exponents.
use mathlib.Core.Path.{◌≡◌, ap, ◌∙◌, subst, subst₂}
use mathlib.Core.Bool.{true}
use mathlib.Core.List.{List}
use Prim.Native.Nat.{ℕ, ◌+◌, ◌*◌, ◌-◌, ◌/◌, ◌%◌, ◌^◌, ◌≤◌, ◌<◌}
use native.Mathlib.Nat as N
use native.Mathlib.Omega.{arith}
use lib.Pow.{pow_pos}
use lib.ListN.{get_or}
use lib.IntN.{ℤ, pos, nat_abs, ◌*ℤ◌}
use Rattle.algebra.specs.Sum.{sum, list_sum, δ}
use Rattle.algebra.specs.Lists.{All, total}
use Rattle.algebra.proofs.Parts.{abs-mul}
use Rattle.algebra.proofs.Perm.{gather}
use Rattle.algebra.proofs.Lists.{all_imp, all_both, all-turn}
use Rattle.algebra.proofs.Totals.{Sub, total_grow, nsum, nsum_each}
use Rattle.algebra.proofs.Adjoint.{dot, δ-same}
use Rattle.algebra.proofs.Quadratic.{ℤ√2i}
use Rattle.algebra.proofs.Dyadic.{num_at, Fits, fits_exp}
use Rattle.exact.specs.Exact.{Exact, exact, is_lowest}
use Rattle.exact.specs.Inner.Sizes.{Within, scaled, Coords}
use Rattle.exact.proofs.Exact.{exact_halving, exacts, lowest-form}
use Rattle.gate.proofs.Complete.{conjugation}
use Rattle.kraus.specs.Dense.{cell}
use Rattle.kraus.specs.Branch.{Branch}
use Rattle.kraus.specs.Blocks.{overlap}
use Rattle.kraus.proofs.Complete.{gram}
use Rattle.kraus.proofs.Size.{Bounded, norms, units, block_bounded, effect_bounded}
use Rattle.kraus.proofs.Measured.{form, size, measure}

-- a number in lowest form with coordinates from −1 to 1, over at most 2^e
pub record Entry (e : ℕ) (x : Exact) : Type 0 where
  pub lowest : is_lowest x ≡ true
  pub coords : Coords 1 e x

-- a sum in lowest form, over at most 2^e; over any power up to 2^e its numerators lie from −s to s
pub record Sum (e s : ℕ) (x : Exact) : Type 0 where
  pub lowest : is_lowest x ≡ true
  pub exponent : x.exp ≤ e
  pub sizes : (t : ℕ) → t ≤ e → Within s (scaled x.num (t - x.exp))

abbrev pub Fit : ℕ → Exact → Type 0
Fit E x = Fits ℤ√2i exact_halving E x

module _ (E : ℕ) (x : Exact) (f : Fit E x) where
  fit_lowest : is_lowest x ≡ true
  fit_lowest = ap is_lowest f ∙ lowest-form (num_at ℤ√2i exact_halving E x) E

  entry_of : ((i : ℕ) → size i x.num ≤ 2 ^ x.exp) → Entry E x
  entry_of h = record {
    lowest = fit_lowest;
    coords = record { exponent = fits_exp ℤ√2i exact_halving E x f; size = record { w0 = omega (arith, h 0); w1 = omega (arith, h 1); w2 = omega (arith, h 2); w3 = omega (arith, h 3) } };
  }

sum_of : (e s : ℕ) (x : Exact) → Bounded ℤ√2i exact_halving conjugation measure e s x → Sum e s x
sum_of e s x b = record {
  lowest = fit_lowest e x b.fits;
  exponent = fits_exp ℤ√2i exact_halving e x b.fits;
  sizes = λ t l. let k = t - x.exp in
      record { w0 = one x.num.re.re k (b.sizes 0 t l); w1 = one x.num.re.im k (b.sizes 1 t l); w2 = one x.num.im.re k (b.sizes 2 t l); w3 = one x.num.im.im k (b.sizes 3 t l) };
}
  where
    one : (a : ℤ) (k : ℕ) → nat_abs a * 2 ^ k ≤ s → nat_abs (a *ℤ pos (2 ^ k)) ≤ s
    one a k h = omega (arith, h, abs-mul a (pos (2 ^ k)))

-- ---- branches whose K†K add up to 1, over 2^E
pub record Whole (n E : ℕ) (bs : List Branch) : Type 0 where
  pub complete : (c c' : ℕ) → c < 2 ^ n → c' < 2 ^ n → gram n bs c c' ≡ δ exact c c'
  pub fits : All (λ (b : Branch). (i : ℕ) → Fit E (get_or b.matrix i exact.𝟘)) bs

module _ (n E : ℕ) (bs : List Branch) (whole : Whole n E bs) where
  abbrev d : ℕ
  d = 2 ^ n

  -- the quadratic form of an entry, over 2^E
  abbrev form_at : ℕ → ℕ → Branch → ℕ
  form_at r c b = form (num_at ℤ√2i exact_halving E (cell exact d b.matrix r c))

  fits-at : (i : ℕ) → All (λ (b : Branch). Fit E (get_or b.matrix i exact.𝟘)) bs
  fits-at i = all_imp (λ (b : Branch). (i : ℕ) → Fit E (get_or b.matrix i exact.𝟘)) (λ (b : Branch). Fit E (get_or b.matrix i exact.𝟘)) bs (λ b h. h i) whole.fits

  fits-column : (c : ℕ) → All (λ (b : Branch). (r : ℕ) → r < d → Fit E (cell exact d b.matrix r c)) bs
  fits-column c = all_imp (λ (b : Branch). (i : ℕ) → Fit E (get_or b.matrix i exact.𝟘)) _ bs (λ b h r k. h (r * d + c)) whole.fits

  -- a column's forms add up to 4^E
  column : (c : ℕ) → c < d → total (λ (b : Branch). nsum d (λ (r : ℕ). form_at r c b)) bs ≡ 2 ^ (E + E)
  column c l = norms ℤ√2i exact_halving conjugation measure E d c bs (λ (b : Branch). cell exact d b.matrix) (fits-column c) (whole.complete c c l l ∙ δ-same exact c)

  cells : All (λ (b : Branch). (c : ℕ) → c < d → (r : ℕ) → r < d → Entry E (cell exact d b.matrix r c)) bs
  cells = all-turn d (λ (c : ℕ) (b : Branch). (r : ℕ) → r < d → Entry E (cell exact d b.matrix r c)) bs (λ c l.
      all_both (λ (b : Branch). (r : ℕ) → r < d → Fit E (cell exact d b.matrix r c))
      (λ (b : Branch). (r : ℕ) → r < d → (i : ℕ) → size i (cell exact d b.matrix r c).num ≤ 2 ^ (cell exact d b.matrix r c).exp) _ bs
      (λ b f h r k. entry_of E (cell exact d b.matrix r c) (f r k) (h r k)) (fits-column c)
      (units ℤ√2i exact_halving conjugation measure E d c bs (λ (b : Branch). cell exact d b.matrix) (fits-column c) (column c l)))

  row : (i : ℕ) → i < d * d → i / d < d
  row i l = (N.div-lt_iff_lt-mul (pow_pos n)).1 l

  col : (i : ℕ) → i % d < d
  col i = N.mod-lt i (pow_pos n)

  -- ENTRIES: each entry of each branch
  pub entries : All (λ (b : Branch). (i : ℕ) → i < 2 ^ n * 2 ^ n → Entry E (get_or b.matrix i exact.𝟘)) bs
  entries = all_imp (λ (b : Branch). (c : ℕ) → c < d → (r : ℕ) → r < d → Entry E (cell exact d b.matrix r c)) _ bs
      (λ b k i l. subst (λ (j : ℕ). Entry E (get_or b.matrix j exact.𝟘)) (N.div-add-mod' i d) (k (i % d) (col i) (i / d) (row i l))) cells

  one_cell : (r c : ℕ) → r < d → c < d → total (form_at r c) bs ≤ 2 ^ (E + E)
  one_cell r c k l = omega (arith, column c l, total_grow (form_at r c) (λ (b : Branch). nsum d (λ (r : ℕ). form_at r c b)) (λ b. nsum_each d (λ (r : ℕ). form_at r c b) r k) bs)

  -- SUMS: an entry of a block, over any part of the branches, as a loop makes it
  overlaps-at : (xs : List Branch) → Sub xs bs → (r c r' c' : ℕ) → r < d → c < d → r' < d → c' < d
      → Sum (E + E) (2 ^ (E + E)) (gather exact.◌⊕◌ (overlap (r * d + c) (r' * d + c')) exact.𝟘 xs)
  overlaps-at xs s r c r' c' k l k' l' = sum_of (E + E) (2 ^ (E + E)) _
      (block_bounded ℤ√2i exact_halving conjugation measure E (λ (b : Branch). cell exact d b.matrix r c) (λ (b : Branch). cell exact d b.matrix r' c') (2 ^ (E + E)) xs bs s
      (fits-at (r * d + c)) (fits-at (r' * d + c')) (one_cell r c k l) (one_cell r' c' k' l'))

  pub overlaps : (xs : List Branch) → Sub xs bs → (i j : ℕ) → i < 2 ^ n * 2 ^ n → j < 2 ^ n * 2 ^ n
      → Sum (E + E) (2 ^ (E + E)) (gather exact.◌⊕◌ (overlap i j) exact.𝟘 xs)
  overlaps xs s i j k l =
      subst₂ (λ (i j : ℕ). Sum (E + E) (2 ^ (E + E)) (gather exact.◌⊕◌ (overlap i j) exact.𝟘 xs)) (N.div-add-mod' i d) (N.div-add-mod' j d)
      (overlaps-at xs s (i / d) (i % d) (j / d) (j % d) (row i k) (col i) (row j l) (col j))

  -- EFFECTS: entry (r, c) of the effect of any part of the branches, over the outputs below k
  pub effects : (xs : List Branch) → Sub xs bs → (r c k : ℕ) → r < 2 ^ n → c < 2 ^ n → k ≤ 2 ^ n
      → Sum (E + E) (2 ^ (E + E)) (sum exact k (λ (o : ℕ). gather exact.◌⊕◌ (overlap (o * 2 ^ n + r) (o * 2 ^ n + c)) exact.𝟘 xs))
  effects xs s r c k hr hc hk = sum_of (E + E) (2 ^ (E + E)) _
      (effect_bounded ℤ√2i exact_halving conjugation measure E d k (2 ^ (E + E)) (λ (o : ℕ) (b : Branch). cell exact d b.matrix o r) (λ (o : ℕ) (b : Branch). cell exact d b.matrix o c) xs bs s hk
      (λ o l. fits-at (o * d + r)) (λ o l. fits-at (o * d + c)) (omega (arith, column r hr)) (omega (arith, column c hc)))

-- ---- operators whose M†M add up to 1, over 2^e
abbrev pub Matrix : Type 0
Matrix = ℕ → ℕ → Exact

-- what holds of every entry of a matrix
abbrev pub Everywhere : (Exact → Type 0) → ℕ → Matrix → Type 0
Everywhere P n M = (c : ℕ) → c < 2 ^ n → (r : ℕ) → r < 2 ^ n → P (M r c)

pub record Operators (n e : ℕ) (os : List Matrix) : Type 0 where
  pub complete : (k l : ℕ) → k < 2 ^ n → l < 2 ^ n → list_sum exact (λ (M : Matrix). dot exacts conjugation (2 ^ n) M k l) os ≡ δ exact k l
  pub fits : All (λ (M : Matrix). (r c : ℕ) → Fit e (M r c)) os

module _ (n e : ℕ) (os : List Matrix) (op : Operators n e os) where
  abbrev forms : Matrix → ℕ → ℕ → ℕ
  forms M r c = form (num_at ℤ√2i exact_halving e (M r c))

  op_fits : (c : ℕ) → All (λ (M : Matrix). (r : ℕ) → r < 2 ^ n → Fit e (M r c)) os
  op_fits c = all_imp (λ (M : Matrix). (r c : ℕ) → Fit e (M r c)) _ os (λ M h r k. h r c) op.fits

  op-column : (c : ℕ) → c < 2 ^ n → total (λ (M : Matrix). nsum (2 ^ n) (λ (r : ℕ). forms M r c)) os ≡ 2 ^ (e + e)
  op-column c l = norms ℤ√2i exact_halving conjugation measure e (2 ^ n) c os (λ (M : Matrix). M) (op_fits c) (op.complete c c l l ∙ δ-same exact c)

  -- each entry of each operator
  pub operator-entries : All (Everywhere (Entry e) n) os
  operator-entries = all-turn (2 ^ n) (λ (c : ℕ) (M : Matrix). (r : ℕ) → r < 2 ^ n → Entry e (M r c)) os (λ c l.
      all_both (λ (M : Matrix). (r : ℕ) → r < 2 ^ n → Fit e (M r c)) (λ (M : Matrix). (r : ℕ) → r < 2 ^ n → (i : ℕ) → size i (M r c).num ≤ 2 ^ (M r c).exp) _ os
      (λ M f h r k. entry_of e (M r c) (f r k) (h r k)) (op_fits c)
      (units ℤ√2i exact_halving conjugation measure e (2 ^ n) c os (λ (M : Matrix). M) (op_fits c) (op-column c l)))
