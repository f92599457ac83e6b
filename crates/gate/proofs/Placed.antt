-- Entries of matrices placed on qubits: which rows and columns agree, under a control, of a swap, and of two-by-two matrices as arrays.
use mathlib.Core.Path.{◌≡◌, refl, sym, ap, ap₂, ◌∙◌, subst}
use mathlib.Core.Bool.{Bool, true, false, cond, ◌&&◌, ◌||◌, true≢false}
use mathlib.Core.List.{List, [], ◌∷◌}
use Prim.Native.Nat.{ℕ, zero, suc, ◌-◌, ◌*◌, ◌/◌, ◌%◌, ◌^◌, ◌<◌}
use native.Mathlib.Nat.{mod-lt}
use native.Mathlib.Omega.{arith}
use lib.Dec.{eqb}
use borrow.Author.Tests.{eqb-true, eq-eqb}
use Rattle.exact.specs.Exact.{Exact, exact}
use Rattle.gate.specs.Gate.{elem}
use Rattle.gate.specs.Operators.{Small, one, none, same_bits, controlled, swapped, identity as same}
use Rattle.gate.specs.Embed.{bit, bits_of, agree, embed}
use Rattle.gate.specs.Inner.Entries.{table_of, small_of}
use Rattle.gate.proofs.Bits.{low}
use Rattle.gate.proofs.Bits
use Rattle.gate.proofs.Embed.{agree_at, agree-by, agree-clear}

-- r with the bit of weight 2^w cleared, and with qubit q cleared
abbrev pub clear : ℕ → ℕ → ℕ
clear w r = r - r / 2 ^ w % 2 * 2 ^ w

abbrev pub cleared : ℕ → ℕ → ℕ → ℕ
cleared n q r = clear (n - 1 - q) r

-- ---- one qubit
pub agree-one : (n q r c : ℕ) → q < n → r < 2 ^ n → c < 2 ^ n → agree n (q ∷ []) r c ≡ eqb (cleared n q r) (cleared n q c)
unfolding Bits.cleared low
agree-one n q r c l hr hc = agree-clear n (q ∷ []) r c hr hc (l, tt)

-- ---- a control
and_from : (a b c : Bool) → (a ≡ true → (b ≡ true) × (c ≡ true)) → (b ≡ true → c ≡ true → a ≡ true) → a ≡ b && c
and_from true b c f g = let (p, q) = f refl in sym (λ i. p i && q i)
and_from false true true f g = g refl refl
and_from false true false f g = refl
and_from false false c f g = refl

module _ (n q : ℕ) (qs : List ℕ) (r c : ℕ) (l : q < n) (other : elem q qs ≡ false) where
  agree-more : agree n qs r c ≡ agree n (q ∷ qs) r c && eqb (bit n q r) (bit n q c)
  agree-more = and_from (agree n qs r c) (agree n (q ∷ qs) r c) (eqb (bit n q r) (bit n q c))
      (λ e. (agree-by n (q ∷ qs) r c (λ p k h. agree_at n qs r c e p k (behind (eqb p q) (elem p qs) h)), eq-eqb (bit n q r) (bit n q c) (agree_at n qs r c e q l other)))
      (λ e f. agree-by n qs r c (λ p k h. go e f p k h (eqb p q) refl))
    where
      behind : (a b : Bool) → (a || b) ≡ false → b ≡ false
      behind true b h = absurd (true≢false h)
      behind false b h = h

      go : agree n (q ∷ qs) r c ≡ true → eqb (bit n q r) (bit n q c) ≡ true → (p : ℕ) → p < n → elem p qs ≡ false → (t : Bool) → eqb p q ≡ t → bit n p r ≡ bit n p c
      go e f p k h true g = subst (λ (p : ℕ). bit n p r ≡ bit n p c) (sym (eqb-true p q g)) (eqb-true (bit n q r) (bit n q c) f)
      go e f p k h false g = agree_at n (q ∷ qs) r c e p k (ap₂ ◌||◌ g h)

  pub embed-controlled : (u : Small) → embed exact n (q ∷ qs) (controlled u) r c ≡ cond (eqb (bit n q r) 1) (embed exact n qs u r c) (embed exact n qs same r c)
  embed-controlled u =
      joined (agree n (q ∷ qs) r c) (eqb (bit n q r) (bit n q c)) (eqb (bit n q r) 1) (u (bits_of n qs r) (bits_of n qs c)) (same (bits_of n qs r) (bits_of n qs c))
      ∙ ap (λ (t : Bool). cond (eqb (bit n q r) 1) (cond t (u (bits_of n qs r) (bits_of n qs c)) none) (cond t (same (bits_of n qs r) (bits_of n qs c)) none)) (sym agree-more)
    where
      joined : (a b t : Bool) (x y : Exact) → cond a (cond b (cond t x y) none) none ≡ cond t (cond (a && b) x none) (cond (a && b) y none)
      joined true true true x y = refl
      joined true true false x y = refl
      joined true false true x y = refl
      joined true false false x y = refl
      joined false b true x y = refl
      joined false b false x y = refl

-- ---- a swap
pub embed-swap : (n a b r c : ℕ) → a < n → b < n → r < 2 ^ n → c < 2 ^ n → embed exact n (a ∷ b ∷ []) swapped r c
    ≡ cond (eqb (cleared n a (cleared n b r)) (cleared n a (cleared n b c)) && (eqb (bit n a r) (bit n b c) && eqb (bit n b r) (bit n a c))) one none
unfolding Bits.cleared low
embed-swap n a b r c ha hb hr hc =
    ap (λ (t : Bool). cond t (swapped (bits_of n (a ∷ b ∷ []) r) (bits_of n (a ∷ b ∷ []) c)) none) (agree-clear n (a ∷ b ∷ []) r c hr hc (ha, (hb, tt)))
    ∙ go (eqb (cleared n a (cleared n b r)) (cleared n a (cleared n b c))) (eqb (bit n a r) (bit n b c) && eqb (bit n b r) (bit n a c))
  where
    go : (s t : Bool) → cond s (cond t one none) none ≡ cond (s && t) one none
    go true t = refl
    go false t = refl

-- ---- matrices that are the same on the bits of r and c
pub embed-same : (n : ℕ) (qs : List ℕ) (u v : Small) (r c : ℕ) → u (bits_of n qs r) (bits_of n qs c) ≡ v (bits_of n qs r) (bits_of n qs c) → embed exact n qs u r c ≡ embed exact n qs v r c
embed-same n qs u v r c e = ap (λ (x : Exact). cond (agree n qs r c) x none) e

-- ---- matrices as arrays
bits_below : (n q r : ℕ) → bit n q r < 2
bits_below n q r = mod-lt (r / 2 ^ (n - 1 - q)) (omega arith)

table_is : (u : Small) (x y : ℕ) → x < 2 → y < 2 → small_of (table_of u) (x ∷ []) (y ∷ []) ≡ u (x ∷ []) (y ∷ [])
table_is u zero zero h k = refl
table_is u zero (suc zero) h k = refl
table_is u (suc zero) zero h k = refl
table_is u (suc zero) (suc zero) h k = refl
table_is u zero (suc (suc y)) h k = absurd (omega arith)
table_is u (suc zero) (suc (suc y)) h k = absurd (omega arith)
table_is u (suc (suc x)) y h k = absurd (omega arith)

pub one_table : (u : Small) (n q r c : ℕ) → embed exact n (q ∷ []) (small_of (table_of u)) r c ≡ embed exact n (q ∷ []) u r c
one_table u n q r c = embed-same n (q ∷ []) (small_of (table_of u)) u r c (table_is u (bit n q r) (bit n q c) (bits_below n q r) (bits_below n q c))

inside : (u v : Small) (x z : ℕ) (xs zs : List ℕ) → u xs zs ≡ v xs zs → controlled u (x ∷ xs) (z ∷ zs) ≡ controlled v (x ∷ xs) (z ∷ zs)
inside u v x z xs zs e = ap (λ (w : Exact). cond (eqb x z) (cond (eqb x 1) w (cond (same_bits xs zs) one none)) none) e

pub two-table : (u : Small) (n a b r c : ℕ) → embed exact n (a ∷ b ∷ []) (controlled (small_of (table_of u))) r c ≡ embed exact n (a ∷ b ∷ []) (controlled u) r c
two-table u n a b r c = embed-same n (a ∷ b ∷ []) (controlled (small_of (table_of u))) (controlled u) r c
    (inside (small_of (table_of u)) u (bit n a r) (bit n a c) (bit n b r ∷ []) (bit n b c ∷ []) (table_is u (bit n b r) (bit n b c) (bits_below n b r) (bits_below n b c)))

pub three-table : (u : Small) (n a b d r c : ℕ) → embed exact n (a ∷ b ∷ d ∷ []) (controlled (controlled (small_of (table_of u)))) r c ≡ embed exact n (a ∷ b ∷ d ∷ []) (controlled (controlled u)) r c
three-table u n a b d r c = embed-same n (a ∷ b ∷ d ∷ []) (controlled (controlled (small_of (table_of u)))) (controlled (controlled u)) r c
    (inside (controlled (small_of (table_of u))) (controlled u) (bit n a r) (bit n a c) (bit n b r ∷ bit n d r ∷ []) (bit n b c ∷ bit n d c ∷ [])
    (inside (small_of (table_of u)) u (bit n b r) (bit n b c) (bit n d r ∷ []) (bit n d c ∷ []) (table_is u (bit n d r) (bit n d c) (bits_below n d r) (bits_below n d c))))
