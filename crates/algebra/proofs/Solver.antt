-- The ring solver: `solve 𝓚 ρ l r tt` proves that two expressions have one value, by a computed test of their normal forms.
-- A normal form is a sparse polynomial, its terms sorted by their monomials.
use mathlib.Core.Path.{◌≡◌, refl, sym, ◌∙◌, ap}
use mathlib.Core.Bool.{Bool, true, false}
use mathlib.Core.List.{List, [], ◌∷◌}
use Prim.Native.Nat.{ℕ, zero, suc, ◌+◌, ◌*◌, ◌^◌, compare, Ordering}
use lib.Dec.{T, leb, eqb, eqb→eq}
use lib.IntN.{ℤ, pos, negsuc, neg_ℤ, ◌+ℤ◌, ◌*ℤ◌}
use Rattle.algebra.specs.Ops.{Ops}
use Rattle.algebra.proofs.Semi.{Semi, add-mul, add_left, mul_left, mul-four, zero-mul}
use Rattle.algebra.proofs.Ring.{CommRing, semi, add-zero, mul-one, mul_zero, neg_zero, neg_mul, neg_add, sub-zero}

infixl 20 ◌⊞◌
infixl 30 ◌⊠◌
infixr 40 ◌▹◌
pub data Expr : Type 0 where
  con : ℤ → Expr
  var : ℕ → Expr
  -- a variable too; `Machine.antt` says how the two differ
  held : ℕ → Expr
  ◌⊞◌ : Expr → Expr → Expr
  ◌⊠◌ : Expr → Expr → Expr
  ⊟ : Expr → Expr

-- a product of variables, by their numbers in order
pub data Mono : Type 0 where
  unit : Mono
  ◌▹◌ : ℕ → Mono → Mono

-- a sum of terms, each a coefficient, a key and a monomial. The keys only sort: a product's key is the sum of the factors', and two monomials are taken for one
-- where the keys are equal and the monomials are too
pub data Poly : Type 0 where
  nil : Poly
  term : ℤ → ℕ → Mono → Poly → Poly

abbrev pub mins : ℕ → Mono → Mono
mins i unit = i ▹ unit
mins i (j ▹ n) = elim (leb i j) [ true ↦ i ▹ (j ▹ n) | false ↦ j ▹ mins i n ]

abbrev pub mmul : Mono → Mono → Mono
mmul unit n = n
mmul (i ▹ m) n = mins i (mmul m n)

abbrev pub same : Mono → Mono → Bool
same unit unit = true
same unit (j ▹ n) = false
same (i ▹ m) unit = false
same (i ▹ m) (j ▹ n) = elim (eqb i j) [ true ↦ same m n | false ↦ false ]

-- a term in front, unless its coefficient is 0
abbrev pub front : ℤ → ℕ → Mono → Poly → Poly
front (pos zero) k m p = p
front (pos (suc a)) k m p = term (pos (suc a)) k m p
front (negsuc a) k m p = term (negsuc a) k m p

-- a term put into a sum, whose later terms `f` adds
abbrev pub into : ℤ → ℕ → Mono → (Poly → Poly) → Poly → Poly
into c k m f nil = term c k m (f nil)
into c k m f (term d l n q) =
    elim (compare k l) [
      | Ordering.lt ↦ term c k m (f (term d l n q))
      | Ordering.eq ↦ elim (same m n) [ true ↦ front (c +ℤ d) k m (f q) | false ↦ term c k m (f (term d l n q)) ]
      | Ordering.gt ↦ term d l n (into c k m f q)
    ]

abbrev pub padd : Poly → Poly → Poly
padd nil q = q
padd (term c k m p) q = into c k m (padd p) q

abbrev pub pscale : ℤ → ℕ → Mono → Poly → Poly
pscale c k m nil = nil
pscale c k m (term d l n q) = term (c *ℤ d) (k + l) (mmul m n) (pscale c k m q)

abbrev pub pmul : Poly → Poly → Poly
pmul nil q = nil
pmul (term c k m p) q = padd (pscale c k m q) (pmul p q)

abbrev pub pneg : Poly → Poly
pneg nil = nil
pneg (term c k m p) = term (neg_ℤ c) k m (pneg p)

abbrev pub norm : Expr → Poly
norm (con c) = front c 0 unit nil
norm (var i) = term (pos 1) (2 ^ (16 * i)) (i ▹ unit) nil
norm (held i) = term (pos 1) (2 ^ (16 * i)) (i ▹ unit) nil
norm (a ⊞ b) = padd (norm a) (norm b)
norm (a ⊠ b) = pmul (norm a) (norm b)
norm (⊟ a) = pneg (norm a)

abbrev pub is_nil : Poly → Bool
is_nil nil = true
is_nil (term c k m p) = false

-- the test that an identity is proved by
abbrev pub holds : Expr → Expr → Bool
holds l r = is_nil (norm (l ⊞ ⊟ r))

-- a variable's value; 0 for a number past the list
abbrev pub look {ℓ} : {A : Type ℓ} → A → List A → ℕ → A
look z [] n = z
look z (a ∷ l) zero = a
look z (a ∷ l) (suc n) = look z l n

module _ (𝓚 : CommRing) (ρ : ℕ → 𝓚.K) where
  open 𝓚 use {K, add_assoc, add_comm, zero-add, mul_assoc, mul_comm, one-mul, mul-add, int_zero, int_one, int_add, int_mul, int_neg}
  open 𝓚.ops use {𝟘, 𝟙, ◌⊕◌ as add, ◌⊗◌ as mul, neg, int}

  abbrev 𝓢 : Semi
  𝓢 = semi 𝓚

  abbrev pub ⟦◌⟧ : Expr → K
  ⟦◌⟧ (con c) = int c
  ⟦◌⟧ (var i) = ρ i
  ⟦◌⟧ (held i) = ρ i
  ⟦◌⟧ (a ⊞ b) = add (⟦◌⟧ a) (⟦◌⟧ b)
  ⟦◌⟧ (a ⊠ b) = mul (⟦◌⟧ a) (⟦◌⟧ b)
  ⟦◌⟧ (⊟ a) = neg (⟦◌⟧ a)

  mval : Mono → K
  mval unit = 𝟙
  mval (i ▹ m) = mul (ρ i) (mval m)

  pval : Poly → K
  pval nil = 𝟘
  pval (term c k m p) = add (mul (int c) (mval m)) (pval p)

  mins_is : (i : ℕ) (n : Mono) → mval (mins i n) ≡ mul (ρ i) (mval n)
  unfolding mval
  mins_is i unit = refl
  mins_is i (j ▹ n) = go (leb i j) (mins_is i n)
    where
      go : (b : Bool) → mval (mins i n) ≡ mul (ρ i) (mval n) → mval (elim b [ true ↦ i ▹ (j ▹ n) | false ↦ j ▹ mins i n ]) ≡ mul (ρ i) (mul (ρ j) (mval n))
      go true h = refl
      go false h = ap (λ (x : K). mul (ρ j) x) h ∙ mul_left 𝓢 (ρ j) (ρ i) (mval n)

  mmul_is : (m n : Mono) → mval (mmul m n) ≡ mul (mval m) (mval n)
  unfolding mval
  mmul_is unit n = sym (one-mul (mval n))
  mmul_is (i ▹ m) n = mins_is i (mmul m n) ∙ ap (λ (x : K). mul (ρ i) x) (mmul_is m n) ∙ sym (mul_assoc (ρ i) (mval m) (mval n))

  front_is : (c : ℤ) (k : ℕ) (m : Mono) (p : Poly) → pval (front c k m p) ≡ add (mul (int c) (mval m)) (pval p)
  unfolding pval
  front_is (pos zero) k m p = sym (ap (λ (x : K). add (mul x (mval m)) (pval p)) int_zero ∙ ap (λ (x : K). add x (pval p)) (zero-mul 𝓢 (mval m)) ∙ zero-add (pval p))
  front_is (pos (suc a)) k m p = refl
  front_is (negsuc a) k m p = refl

  same_eq : (m n : Mono) → T (same m n) → mval m ≡ mval n
  unfolding mval
  same_eq unit unit t = refl
  same_eq unit (j ▹ n) t = absurd t
  same_eq (i ▹ m) unit t = absurd t
  same_eq (i ▹ m) (j ▹ n) t = go (eqb i j) (eqb→eq i j) (same_eq m n) t
    where
      go : (o : Bool) → (T o → i ≡ j) → (T (same m n) → mval m ≡ mval n) → T (elim o [ true ↦ same m n | false ↦ false ]) → mul (ρ i) (mval m) ≡ mul (ρ j) (mval n)
      go true e ih t = ap (λ (x : ℕ). mul (ρ x) (mval m)) (e tt) ∙ ap (λ (x : K). mul (ρ j) x) (ih t)
      go false e ih t = absurd t

  into_is : (c : ℤ) (k : ℕ) (m : Mono) (f : Poly → Poly) (F : K) → ((q : Poly) → pval (f q) ≡ add F (pval q)) → (q : Poly) → pval (into c k m f q) ≡ add (mul (int c) (mval m)) (add F (pval q))
  unfolding pval
  into_is c k m f F h nil = ap (λ (x : K). add (mul (int c) (mval m)) x) (h nil)
  into_is c k m f F h (term d l n q) = go (compare k l) (same m n) (same_eq m n) (into_is c k m f F h q)
    where
      go : (o : Ordering) (s : Bool) → (T s → mval m ≡ mval n) → pval (into c k m f q) ≡ add (mul (int c) (mval m)) (add F (pval q))
          → pval (elim o [ Ordering.lt ↦ term c k m (f (term d l n q)) | Ordering.eq ↦ elim s [ true ↦ front (c +ℤ d) k m (f q) | false ↦ term c k m (f (term d l n q)) ] | Ordering.gt ↦ term d l n (into c k m f q) ])
          ≡ add (mul (int c) (mval m)) (add F (add (mul (int d) (mval n)) (pval q)))
      go Ordering.lt s e ih = ap (λ (x : K). add (mul (int c) (mval m)) x) (h (term d l n q))
      go Ordering.eq true e ih =
          front_is (c +ℤ d) k m (f q)
          ∙ ap (λ (x : K). add (mul x (mval m)) (pval (f q))) (int_add c d)
          ∙ ap (λ (x : K). add x (pval (f q))) (add-mul 𝓢 (int c) (int d) (mval m))
          ∙ add_assoc (mul (int c) (mval m)) (mul (int d) (mval m)) (pval (f q))
          ∙ ap (λ (x : K). add (mul (int c) (mval m)) x)
          (ap (λ (x : K). add (mul (int d) (mval m)) x) (h q)
          ∙ add_left 𝓢 (mul (int d) (mval m)) F (pval q)
          ∙ ap (λ (x : K). add F (add (mul (int d) x) (pval q))) (e tt))
      go Ordering.eq false e ih = ap (λ (x : K). add (mul (int c) (mval m)) x) (h (term d l n q))
      go Ordering.gt s e ih =
          ap (λ (x : K). add (mul (int d) (mval n)) x) ih
          ∙ add_left 𝓢 (mul (int d) (mval n)) (mul (int c) (mval m)) (add F (pval q))
          ∙ ap (λ (x : K). add (mul (int c) (mval m)) x) (add_left 𝓢 (mul (int d) (mval n)) F (pval q))

  padd_is : (p q : Poly) → pval (padd p q) ≡ add (pval p) (pval q)
  unfolding pval
  padd_is nil q = sym (zero-add (pval q))
  padd_is (term c k m p) q = into_is c k m (padd p) (pval p) (padd_is p) q ∙ sym (add_assoc (mul (int c) (mval m)) (pval p) (pval q))

  pscale_is : (c : ℤ) (k : ℕ) (m : Mono) (q : Poly) → pval (pscale c k m q) ≡ mul (mul (int c) (mval m)) (pval q)
  unfolding pval
  pscale_is c k m nil = sym (mul_zero 𝓚 (mul (int c) (mval m)))
  pscale_is c k m (term d l n q) =
      ap (λ (x : K). add (mul x (mval (mmul m n))) (pval (pscale c k m q))) (int_mul c d)
      ∙ ap (λ (x : K). add (mul (mul (int c) (int d)) x) (pval (pscale c k m q))) (mmul_is m n)
      ∙ ap (λ (x : K). add x (pval (pscale c k m q))) (mul-four 𝓢 (int c) (int d) (mval m) (mval n))
      ∙ ap (λ (x : K). add (mul (mul (int c) (mval m)) (mul (int d) (mval n))) x) (pscale_is c k m q)
      ∙ sym (mul-add (mul (int c) (mval m)) (mul (int d) (mval n)) (pval q))

  pmul_is : (p q : Poly) → pval (pmul p q) ≡ mul (pval p) (pval q)
  unfolding pval
  pmul_is nil q = sym (zero-mul 𝓢 (pval q))
  pmul_is (term c k m p) q =
      padd_is (pscale c k m q) (pmul p q)
      ∙ ap (λ (x : K). add x (pval (pmul p q))) (pscale_is c k m q)
      ∙ ap (λ (x : K). add (mul (mul (int c) (mval m)) (pval q)) x) (pmul_is p q)
      ∙ sym (add-mul 𝓢 (mul (int c) (mval m)) (pval p) (pval q))

  pneg_is : (p : Poly) → pval (pneg p) ≡ neg (pval p)
  unfolding pval
  pneg_is nil = sym (neg_zero 𝓚)
  pneg_is (term c k m p) =
      ap (λ (x : K). add (mul x (mval m)) (pval (pneg p))) (int_neg c)
      ∙ ap (λ (x : K). add x (pval (pneg p))) (neg_mul 𝓚 (int c) (mval m))
      ∙ ap (λ (x : K). add (neg (mul (int c) (mval m))) x) (pneg_is p)
      ∙ sym (neg_add 𝓚 (mul (int c) (mval m)) (pval p))

  norm_is : (e : Expr) → pval (norm e) ≡ ⟦◌⟧ e
  unfolding pval mval
  norm_is (con c) = front_is c 0 unit nil ∙ add-zero 𝓚 (mul (int c) 𝟙) ∙ mul-one 𝓚 (int c)
  norm_is (var i) = add-zero 𝓚 (mul (int (pos 1)) (mul (ρ i) 𝟙)) ∙ ap (λ (x : K). mul x (mul (ρ i) 𝟙)) int_one ∙ one-mul (mul (ρ i) 𝟙) ∙ mul-one 𝓚 (ρ i)
  norm_is (held i) = add-zero 𝓚 (mul (int (pos 1)) (mul (ρ i) 𝟙)) ∙ ap (λ (x : K). mul x (mul (ρ i) 𝟙)) int_one ∙ one-mul (mul (ρ i) 𝟙) ∙ mul-one 𝓚 (ρ i)
  norm_is (a ⊞ b) = padd_is (norm a) (norm b) ∙ ap (λ (x : K). add x (pval (norm b))) (norm_is a) ∙ ap (λ (x : K). add (⟦◌⟧ a) x) (norm_is b)
  norm_is (a ⊠ b) = pmul_is (norm a) (norm b) ∙ ap (λ (x : K). mul x (pval (norm b))) (norm_is a) ∙ ap (λ (x : K). mul (⟦◌⟧ a) x) (norm_is b)
  norm_is (⊟ a) = pneg_is (norm a) ∙ ap neg (norm_is a)

  nil_is : (p : Poly) → T (is_nil p) → pval p ≡ 𝟘
  unfolding pval
  nil_is nil t = refl
  nil_is (term c k m p) t = absurd t

  -- two expressions have one value: the last argument is `tt`
  pub solve : (l r : Expr) → T (holds l r) → ⟦◌⟧ l ≡ ⟦◌⟧ r
  solve l r t = sub-zero 𝓚 (⟦◌⟧ l) (⟦◌⟧ r) (sym (norm_is (l ⊞ ⊟ r)) ∙ nil_is (norm (l ⊞ ⊟ r)) t)

-- the operations on expressions: a formula over any operations, at these, is its own expression
abbrev pub expr_ops : Ops Expr
expr_ops = record { 𝟘 = con (pos 0); 𝟙 = con (pos 1); ◌⊕◌ = ◌⊞◌; ◌⊗◌ = ◌⊠◌; neg = ⊟; int = con }

-- the solver at a list of values
pub eqn : (𝓚 : CommRing) (xs : List 𝓚.K) (l r : Expr) → T (holds l r) → ⟦◌⟧ 𝓚 (look 𝓚.ops.𝟘 xs) l ≡ ⟦◌⟧ 𝓚 (look 𝓚.ops.𝟘 xs) r
eqn 𝓚 xs l r t = solve 𝓚 (look 𝓚.ops.𝟘 xs) l r t
