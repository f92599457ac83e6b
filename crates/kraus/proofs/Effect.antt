-- Probabilities: the effects of a circuit's stores add up to the identity, in the judge's form and in the textbook's.
use mathlib.Core.Path.{◌≡◌, refl, sym, ap, ap₂, ◌∙◌}
use mathlib.Core.Bool.{Bool, true, false, cond, not, ◌||◌, true≢false}
use mathlib.Core.List.{List, [], ◌∷◌}
use Prim.Native.Nat.{ℕ, zero, suc, ◌+◌, ◌*◌, ◌^◌, ◌<◌}
use lib.ListN.{get_or}
use Rattle.algebra.specs.Sum.{sum, list_sum, δ}
use Rattle.algebra.specs.Lists.{All, every, some, filter_by}
use Rattle.algebra.proofs.Tests.{and_split, or_right}
use Rattle.algebra.proofs.Semi.{Semi, zero-zero}
use Rattle.algebra.proofs.Sum.{sum_same, sum-zero, list_sum-all, list_sum-same, sum-list_sum, foldl_list_sum, list_sum_filter, list_sum-swap}
use Rattle.algebra.proofs.Perm.{Perm, gather, gather-of}
use Rattle.algebra.proofs.Adjoint.{δ-turn}
use Rattle.algebra.proofs.Quadratic.{ℤ√2i}
use Rattle.algebra.proofs.Ring.{mul_zero}
use Rattle.algebra.proofs.Dyadic.{low-zero}
use Rattle.exact.specs.Exact.{Exact, exact, conj, Number, numbers, lowest, is_zero}
use Rattle.exact.proofs.Exact.{exact_halving, exacts}
use Rattle.exact.proofs.IsZero.{zero_is}
use Rattle.gate.specs.Operators.{same_bits}
use Rattle.gate.proofs.Bits.{same_true, same_refl}
use Rattle.kraus.specs.Branch.{Store, Branch}
use Rattle.kraus.specs.Blocks.{alive, survivors, having, overlap, block, squared, povm, stores}
use Rattle.kraus.proofs.Stores.{Distinct, stores-distinct, stores_some}
use Rattle.kraus.proofs.Complete.{gram}

-- ---- store by store
module _ (𝓡 : Semi) where
  infixl 60 ◌⊕◌
  open 𝓡 use {R, ops, add_comm}
  open 𝓡.ops use {𝟘, ◌⊕◌}

  -- a store stands once in a list of different stores
  once : (ts : List Store) (s : Store) (a : R) → 𝟘 ⊕ a ≡ a → Distinct ts → some (same_bits s) ts ≡ true → list_sum ops (λ (t : Store). cond (same_bits t s) a 𝟘) ts ≡ a
  once [] s a h d e = absurd (true≢false (sym e))
  once (t ∷ ts) s a h d e = go (same_bits t s) refl (once ts s a h d.1)
    where
      rest : R
      rest = list_sum ops (λ (t : Store). cond (same_bits t s) a 𝟘) ts

      gone : (us : List Store) → All (λ (y : Store). same_bits t y ≡ false) us → t ≡ s → list_sum ops (λ (t : Store). cond (same_bits t s) a 𝟘) us ≡ 𝟘
      gone [] k f = refl
      gone (u ∷ us) k f = ap₂ ◌⊕◌ (at (same_bits u s) refl) (gone us k.1 f) ∙ zero-zero 𝓡
        where
          at : (b : Bool) → same_bits u s ≡ b → cond b a 𝟘 ≡ 𝟘
          at true g = absurd (true≢false (sym (ap (same_bits t) (same_true u s g ∙ sym f) ∙ same_refl t) ∙ k.0))
          at false g = refl

      go : (b : Bool) → same_bits t s ≡ b → (some (same_bits s) ts ≡ true → rest ≡ a) → cond b a 𝟘 ⊕ rest ≡ a
      go true f r = ap (λ (y : R). a ⊕ y) (gone ts d.0 (same_true t s f)) ∙ add_comm a 𝟘 ∙ h
      go false f r = ap (λ (y : R). 𝟘 ⊕ y) (r (other (same_bits s t) refl e)) ∙ h
        where
          other : (c : Bool) → same_bits s t ≡ c → c || some (same_bits s) ts ≡ true → some (same_bits s) ts ≡ true
          other true g k = absurd (true≢false (sym (ap (same_bits t) (same_true s t g) ∙ same_refl t) ∙ f))
          other false g k = k

  has-store : (cs bs : List Branch) → ((τ : Store) → some (having τ) cs ≡ true → some (having τ) bs ≡ true) → All (λ (b : Branch). some (having b.store) bs ≡ true) cs
  has-store [] bs h = tt
  has-store (c ∷ cs) bs h =
      (h c.store (ap (λ (b : Bool). b || some (having c.store) cs) (same_refl c.store)), has-store cs bs (λ τ e. h τ (or_right (having τ c) (some (having τ) cs) e)))

  by-stores : (φ : Branch → R) (bs : List Branch) → ((b : Branch) → 𝟘 ⊕ φ b ≡ φ b) → list_sum ops (λ (τ : Store). list_sum ops φ (filter_by (having τ) bs)) (stores bs) ≡ list_sum ops φ bs
  by-stores φ bs normal =
      list_sum-same 𝓡 _ _ (stores bs) (λ τ. list_sum_filter 𝓡 φ (having τ) bs)
      ∙ list_sum-swap 𝓡 (λ (τ : Store) (b : Branch). cond (having τ b) (φ b) 𝟘) (stores bs) bs
      ∙ list_sum-all 𝓡 _ φ bs (go bs (has-store bs bs (λ τ e. e)))
    where
      go : (cs : List Branch) → All (λ (b : Branch). some (having b.store) bs ≡ true) cs
          → All (λ (b : Branch). list_sum ops (λ (τ : Store). cond (having τ b) (φ b) 𝟘) (stores bs) ≡ φ b) cs
      go [] h = tt
      go (c ∷ cs) h = (once (stores bs) c.store (φ c) (normal c) (stores-distinct bs) (stores_some bs c.store ∙ h.0), go cs h.1)

-- ---- a branch that does not survive adds nothing
dead_entry : (xs : List Exact) (i : ℕ) → every (λ (x : Exact). is_zero x.num) xs ≡ true → (get_or xs i exact.𝟘).num ≡ numbers.𝟘
dead_entry [] i e = refl
dead_entry (x ∷ xs) zero e = zero_is x.num (and_split (is_zero x.num) (every (λ (x : Exact). is_zero x.num) xs) e).0
dead_entry (x ∷ xs) (suc i) e = dead_entry xs i (and_split (is_zero x.num) (every (λ (x : Exact). is_zero x.num) xs) e).1

dead_overlap : (b : Branch) → alive b ≡ false → (i j : ℕ) → overlap i j b ≡ exact.𝟘
dead_overlap b e i j =
    let x = get_or b.matrix i exact.𝟘 in
    let y = get_or b.matrix j exact.𝟘 in
    ap (λ (z : Number). lowest (numbers.◌⊗◌ x.num (conj (record { num = z; exp = 0 })).num) (x.exp + y.exp)) (dead_entry b.matrix j (no (every (λ (x : Exact). is_zero x.num) b.matrix) e))
    ∙ ap (λ (z : Number). lowest z (x.exp + y.exp)) (mul_zero ℤ√2i x.num)
    ∙ low-zero ℤ√2i exact_halving (x.exp + y.exp)
  where
    no : (a : Bool) → not a ≡ false → a ≡ true
    no true f = refl
    no false f = absurd (true≢false f)

-- ---- effects
module _ (d : ℕ) where
  -- entry (r, c) of a store's effect: the rows and columns of its block count output·d + input
  abbrev pub effect : List Branch → Store → ℕ → ℕ → Exact
  effect bs τ r c = sum exact d (λ (o : ℕ). block bs τ (o * d + r) (o * d + c))

  one-branch : ℕ → ℕ → Branch → Exact
  one-branch r c b = sum exact d (λ (o : ℕ). overlap (o * d + r) (o * d + c) b)

  turned : (r c : ℕ) (b : Branch) → one-branch r c b ≡ squared d c r b
  unfolding one-branch
  turned r c b = sum_same exacts d _ _ (λ o l. exacts.mul_comm (get_or b.matrix (o * d + r) exact.𝟘) (conj (get_or b.matrix (o * d + c) exact.𝟘)))

  -- a store's effect, summed over the outputs of its block, is its POVM element, transposed
  pub effect-povm : (bs : List Branch) (τ : Store) (r c : ℕ) → effect bs τ r c ≡ povm d bs τ c r
  unfolding one-branch
  effect-povm bs τ r c =
      sum_same exacts d _ _ (λ o h. foldl_list_sum exacts (overlap (o * d + r) (o * d + c)) (filter_by (having τ) bs))
      ∙ sum-list_sum exacts d (λ (o : ℕ) (b : Branch). overlap (o * d + r) (o * d + c) b) (filter_by (having τ) bs)
      ∙ list_sum-same exacts _ _ (filter_by (having τ) bs) (turned r c)
      ∙ sym (foldl_list_sum exacts (squared d c r) (filter_by (having τ) bs))

-- branches whose K†K add up to the identity
module _ (n : ℕ) (all : List Branch) (complete : (c c' : ℕ) → c < 2 ^ n → c' < 2 ^ n → gram n all c c' ≡ δ exact c c') where
  abbrev d : ℕ
  d = 2 ^ n

  abbrev bs : List Branch
  bs = survivors all

  alive-all : (r c : ℕ) → list_sum exact (one-branch d r c) bs ≡ list_sum exact (one-branch d r c) all
  unfolding one-branch
  alive-all r c = list_sum_filter exacts (one-branch d r c) alive all ∙ list_sum-same exacts _ (one-branch d r c) all (λ b. go b (alive b) refl)
    where
      go : (b : Branch) (a : Bool) → alive b ≡ a → cond a (one-branch d r c b) exact.𝟘 ≡ one-branch d r c b
      go b true e = refl
      go b false e = sym (sum-zero exacts d _ (λ o l. dead_overlap b e (o * d + r) (o * d + c)))

  in_order_lem : (r c : ℕ) → r < d → c < d → list_sum exact (λ (τ : Store). effect d bs τ r c) (stores bs) ≡ δ exact r c
  unfolding one-branch
  in_order_lem r c k l =
      sym (sum-list_sum exacts d (λ (o : ℕ) (τ : Store). block bs τ (o * d + r) (o * d + c)) (stores bs))
      ∙ sum_same exacts d _ _ (λ o j. list_sum-same exacts _ _ (stores bs) (λ τ. foldl_list_sum exacts (overlap (o * d + r) (o * d + c)) (filter_by (having τ) bs))
      ∙ by-stores exacts (overlap (o * d + r) (o * d + c)) bs (λ b. exacts.zero-add (get_or b.matrix (o * d + r) exact.𝟘) (conj (get_or b.matrix (o * d + c) exact.𝟘))))
      ∙ sum-list_sum exacts d (λ (o : ℕ) (b : Branch). overlap (o * d + r) (o * d + c) b) bs
      ∙ alive-all r c
      ∙ list_sum-same exacts _ _ all (turned d r c)
      ∙ complete c r l k ∙ δ-turn exact c r

  -- the effects of their stores, in any order, add up to the identity
  pub effects-whole : (ts : List Store) → Perm ts (stores (survivors all)) → (r c : ℕ) → r < 2 ^ n → c < 2 ^ n
      → gather exact.◌⊕◌ (λ (τ : Store). effect (2 ^ n) (survivors all) τ r c) exact.𝟘 ts ≡ δ exact r c
  effects-whole ts p r c k l =
      gather-of exact.◌⊕◌ exacts.add_assoc exacts.add_comm (λ (τ : Store). effect d bs τ r c) p exact.𝟘
      ∙ foldl_list_sum exacts (λ (τ : Store). effect d bs τ r c) (stores bs) ∙ in_order_lem r c k l
