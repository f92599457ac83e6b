-- Blocks in rising order of their stores: those along a chain, and what is found in them.
use mathlib.Core.Path.{◌≡◌, refl, sym, ap, ◌∙◌, subst}
use mathlib.Core.Bool.{Bool, true, false, not, cond, ◌&&◌, ◌||◌}
use mathlib.Core.List.{List, [], ◌∷◌, map}
use Prim.Native.Nat.{ℕ, zero, suc, ◌+◌, ◌-◌, ◌^◌, ◌<◌, ◌≤◌}
use native.Mathlib.Nat.{lt_of_lt_of_le}
use native.Mathlib.Omega.{arith}
use lib.Dec.{eqb}
use lib.Pow.{pow_mono}
use lib.IntN.{ℤ, nat_abs}
use borrow.Author.Tests.{ne_eqb, eqb-false, ltb-true}
use Rattle.algebra.specs.Words.{up_to}
use Rattle.algebra.proofs.Tests.{and_split}
use Rattle.exact.specs.Exact.{exact}
use Rattle.store.specs.Store.{max_word, before}
use Rattle.channel.specs.Layout.{Block, Form, channels, word, store_at, dim_at, bits_at, count_at, chain, read_back_in, read_back}
use Rattle.channel.specs.WellFormed.{store_ok, rises, block_ok, chain_ok, well_formed_in, well_formed}
use Rattle.channel.specs.Claims.{look}
use Rattle.store.proofs.Order.{before_trans, before-total, before_apart}
use Rattle.channel.proofs.Judging.{in_channel, formed_in, chain_record, chain-rest}

-- s comes before each store
abbrev pub Above : ℕ → List ℕ → Type 0
Above s [] = Unit {0}
Above s (x ∷ xs) = (before s x ≡ true) × Above s xs

abbrev pub Sorted : List ℕ → Type 0
Sorted [] = Unit {0}
Sorted (x ∷ xs) = (x < 2 ^ 64) × (Above x xs × Sorted xs)

pub above_trans : (s t : ℕ) (xs : List ℕ) → before s t ≡ true → Above t xs → Above s xs
above_trans s t [] e a = tt
above_trans s t (x ∷ xs) e a = (before_trans s t x e a.0, above_trans s t xs e a.1)

-- the right store comes first, where the left one neither is it nor comes first
pub other : (x y : ℕ) → x < 2 ^ 64 → y < 2 ^ 64 → eqb x y ≡ false → before x y ≡ false → before y x ≡ true
other x y h k e f = before-total y x k h (ne_eqb y x (λ q. eqb-false x y e (sym q))) ∙ ap not f

abbrev pub keys : List Block → List ℕ
keys bs = map (λ (b : Block). b.store) bs

-- a store that comes before all of them is not found
pub look_above : (bs : List Block) (s k : ℕ) → Above s (keys bs) → look bs s k ≡ exact.𝟘
look_above [] s k a = refl
look_above (b ∷ bs) s k a = ap (λ (t : Bool). cond t (b.entry k) (look bs s k)) (before_apart s b.store a.0) ∙ look_above bs s k a.1

-- ---- along the chain of a well-formed channel
module _ (F : Form) (l : List ℤ) (m count : ℕ) (few : m ≤ 64) where
  chain-sorted : (n : ℕ) (z : ℤ) (first : Bool) (prev : ℕ) → chain_ok F l m count n z first prev ≡ true
      → Sorted (keys (chain F l n (nat_abs z))) × (first ≡ false → Above prev (keys (chain F l n (nat_abs z))))
  chain-sorted zero z first prev e = (tt, λ f. tt)
  chain-sorted (suc n) z first prev e =
      go (chain-sorted n (word l (nat_abs z)) false (store_at l (nat_abs z)) (subst Rest less (chain-rest F l m count (suc n) z first prev (omega arith) e)))
    where
      Rest : ℕ → Type 0
      Rest k = chain_ok F l m count k (word l (nat_abs z)) false (store_at l (nat_abs z)) ≡ true

      less : suc n - 1 ≡ n
      less = omega arith

      s : ℕ
      s = store_at l (nat_abs z)

      tail : List ℕ
      tail = keys (chain F l n (nat_abs (word l (nat_abs z))))

      tests : (store_ok l (nat_abs z) m ≡ true) × ((rises first prev s && block_ok F l (nat_abs z)) ≡ true)
      tests = and_split (store_ok l (nat_abs z) m) _ (chain_record F l m count (suc n) z first prev (omega arith) e)

      small : s < 2 ^ 64
      small = lt_of_lt_of_le (ltb-true s (2 ^ m) (and_split (up_to max_word (word l (nat_abs z + 1)) && up_to max_word (word l (nat_abs z + 2))) _ tests.0).1) (pow_mono few)

      rise : first ≡ false → before prev s ≡ true
      rise f = sym (ap (λ (b : Bool). b || before prev s) f) ∙ (and_split (rises first prev s) _ tests.1).0

      go : Sorted tail × (false ≡ false → Above s tail) → Sorted (s ∷ tail) × (first ≡ false → Above prev (s ∷ tail))
      go ih = ((small, (ih.1 refl, ih.0)), λ f. (rise f, above_trans prev s tail (rise f) (ih.1 refl)))

pub sorted_in : (F : Form) (l : List ℤ) → well_formed_in F l ≡ true → Sorted (keys (read_back_in F l))
sorted_in F l e = let f = formed_in F l e in (chain-sorted F l (bits_at l) (count_at l) f.0.few (count_at l) (word l 3) true 0 f.1).0

pub sorted : (l : List ℤ) → well_formed l ≡ true → Sorted (keys (read_back l))
sorted l e = sorted_in (channels (dim_at l)) l (sym (in_channel l) ∙ e)
