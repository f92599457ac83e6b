-- A matrix is its own adjoint exactly where the test says so, and a mask form where its own test does.
use mathlib.Core.Path.{◌≡◌, sym, ap, ◌∙◌}
use mathlib.Core.Bool.{true}
use Prim.Native.Nat.{ℕ, ◌+◌, ◌*◌, ◌/◌, ◌%◌, ◌^◌, ◌≤◌, ◌<◌}
use native.Mathlib.Decide.{ℕ_discrete}
use native.Mathlib.Omega.{arith}
use lib.Bits.{bit_and, bit_xor, xor_zero_l, and_zero_r}
use lib.Pow.{pow_pos}
use borrow.Author.Tests.{eqb-true, eq-eqb}
use Rattle.algebra.specs.Lists.{all_below}
use Rattle.algebra.proofs.Tests.{all-at, all-by}
use Rattle.exact.specs.Exact.{conj, equal}
use Rattle.exact.proofs.Equal.{equal-true, equal_of}
use Rattle.exact.proofs.Exact.{conj-𝟘}
use Rattle.pauli_nodes.specs.Inner.Masks.{Mask, parity, mask_matrix, is_hermitian}
use Rattle.pauli_nodes.specs.Claims.{SelfAdjoint, HermitianTest}
use Rattle.pauli_nodes.specs.Inner.Laws.{InRange, HermitianMasks}
use Rattle.pauli_nodes.proofs.Turns.{same4, even, turned_same, turned-conj, turned_tells}
use Rattle.pauli_nodes.proofs.Computed.{small, xor_back, parity-column}
use Rattle.pauli_nodes.proofs.Products.{mask-own, mask-other}

pub hermitian_test : HermitianTest
hermitian_test n M = (asked, told_of)
  where
    asked : SelfAdjoint n M → all_below (2 ^ n) (λ (r : ℕ). all_below (2 ^ n) (λ (c : ℕ). equal (conj (M c r)) (M r c))) ≡ true
    asked h = all-by (2 ^ n) (λ (r : ℕ). all_below (2 ^ n) (λ (c : ℕ). equal (conj (M c r)) (M r c)))
        (λ r hr. all-by (2 ^ n) (λ (c : ℕ). equal (conj (M c r)) (M r c)) (λ c hc. equal_of (conj (M c r)) (M r c) (h r c hr hc)))

    told_of : all_below (2 ^ n) (λ (r : ℕ). all_below (2 ^ n) (λ (c : ℕ). equal (conj (M c r)) (M r c))) ≡ true → SelfAdjoint n M
    told_of e r c hr hc = equal-true (conj (M c r)) (M r c)
        (all-at (2 ^ n) (λ (c : ℕ). equal (conj (M c r)) (M r c)) (all-at (2 ^ n) (λ (r : ℕ). all_below (2 ^ n) (λ (c : ℕ). equal (conj (M c r)) (M r c))) e r hr) c hc)

-- the powers of i of an entry and of the conjugate of its mirror image
mirrored : (t u v p : ℕ) → p ≡ (u + v) % 2 → (t + v) % 2 ≡ 0 → 3 * (t + 2 * p) % 4 ≡ (t + 2 * u) % 4
mirrored t u v p e h = same4 (3 * (t + 2 * p)) (t + 2 * u) (3 * ((u + v) / 2)) ((t + v) / 2 + u + v) (omega arith)

told : (t v w : ℕ) → w ≡ 0 → 3 * (t + 2 * v) % 4 ≡ (t + 2 * w) % 4 → (t + v) % 2 ≡ 0
told t v w z e = even (t + v) ((t + 2 * w) / 4 + v) (3 * (t + 2 * v) / 4) (omega arith)

module _ (n : ℕ) (few : n ≤ 5) (m : Mask) (range : InRange n m) where
  x-small : m.x < 32
  x-small = small few m.x range.x_in

  -- the mirror image of an entry
  back : (r c : ℕ) → c < 2 ^ n → r ≡ bit_xor c m.x → c ≡ bit_xor r m.x
  back r c hc e = sym (ap (λ (y : ℕ). bit_xor y m.x) e ∙ xor_back m.x c x-small (small few c hc))

  passed : is_hermitian m ≡ true → SelfAdjoint n (mask_matrix m)
  passed h r c hr hc = go (ℕ_discrete r (bit_xor c m.x))
    where
      go : Dec (r ≡ bit_xor c m.x) → conj (mask_matrix m c r) ≡ mask_matrix m r c
      go (yes e) =
          ap conj (mask-own m c r (back r c hc e)) ∙ turned-conj (m.turns + 2 * parity (bit_and m.z r))
          ∙ turned_same _ _ (mirrored m.turns (parity (bit_and m.z c)) (parity (bit_and m.z m.x)) (parity (bit_and m.z r))
          (ap (λ (y : ℕ). parity (bit_and m.z y)) e ∙ parity-column m.z c m.x (small few m.z range.z_in) (small few c hc) x-small)
          (eqb-true ((m.turns + parity (bit_and m.z m.x)) % 2) 0 h))
          ∙ sym (mask-own m r c e)
      go (no e) = ap conj (mask-other m c r (λ f. e (back c r hr f))) ∙ conj-𝟘 ∙ sym (mask-other m r c e)

  -- column 0 tells
  only : SelfAdjoint n (mask_matrix m) → is_hermitian m ≡ true
  only h = eq-eqb ((m.turns + parity (bit_and m.z m.x)) % 2) 0
      (told m.turns (parity (bit_and m.z m.x)) (parity (bit_and m.z 0)) (ap parity (and_zero_r m.z))
      (turned_tells (3 * (m.turns + 2 * parity (bit_and m.z m.x))) (m.turns + 2 * parity (bit_and m.z 0))
      (sym (turned-conj (m.turns + 2 * parity (bit_and m.z m.x))) ∙ sym (ap conj (mask-own m 0 m.x (back m.x 0 (pow_pos n) own)))
      ∙ h m.x 0 range.x_in (pow_pos n) ∙ mask-own m m.x 0 own)))
    where
      own : m.x ≡ bit_xor 0 m.x
      own = sym (xor_zero_l m.x)

pub hermitian_masks : HermitianMasks
hermitian_masks n few m range = (only n few m range, passed n few m range)
