-- The product of two mask forms stands for the product of their matrices: each column of the second has one entry.
use mathlib.Core.Path.{◌≡◌, refl, ap, ◌∙◌}
use mathlib.Core.Logic.{◌≢◌}
use mathlib.Core.Bool.{Bool, true, false, cond}
use Prim.Native.Nat.{ℕ, ◌+◌, ◌*◌, ◌/◌, ◌%◌, ◌^◌}
use native.Mathlib.Omega.{arith}
use lib.Bits.{bit_and, bit_xor, xor_lt}
use lib.Dec.{eqb}
use borrow.Author.Tests.{eq-eqb, ne_eqb}
use Rattle.algebra.proofs.Semi.{zero-mul}
use Rattle.algebra.proofs.Sum.{sum_one}
use Rattle.exact.specs.Exact.{exact}
use Rattle.exact.proofs.Exact.{exacts}
use Rattle.gate.specs.Operators.{none}
use Rattle.pauli_nodes.specs.Nodes.{turned}
use Rattle.pauli_nodes.specs.Inner.Masks.{Mask, parity, mask_matrix, times_mask}
use Rattle.pauli_nodes.specs.Inner.Laws.{ProductsOfMasks}
use Rattle.pauli_nodes.proofs.Turns.{same4, turned_same, turned-mul}
use Rattle.pauli_nodes.proofs.Computed.{small, xor_through, parity-column, parity-mask}

pub mask-own : (m : Mask) (r c : ℕ) → r ≡ bit_xor c m.x → mask_matrix m r c ≡ turned (m.turns + 2 * parity (bit_and m.z c))
mask-own m r c e = ap (λ (t : Bool). cond t (turned (m.turns + 2 * parity (bit_and m.z c))) none) (eq-eqb r (bit_xor c m.x) e)

pub mask-other : (m : Mask) (r c : ℕ) → r ≢ bit_xor c m.x → mask_matrix m r c ≡ none
mask-other m r c e = ap (λ (t : Bool). cond t (turned (m.turns + 2 * parity (bit_and m.z c))) none) (ne_eqb r (bit_xor c m.x) e)

-- the powers of i of the two factors and of the product
powers : (s t u v w p q : ℕ) → p ≡ (u + v) % 2 → q ≡ (u + w) % 2 → (s + 2 * p + (t + 2 * w)) % 4 ≡ ((s + t + 2 * v) % 4 + 2 * q) % 4
powers s t u v w p q e f = same4 (s + 2 * p + (t + 2 * w)) ((s + t + 2 * v) % 4 + 2 * q) ((u + v) / 2) ((s + t + 2 * v) / 4 + (u + w) / 2) (omega arith)

pub products-of_masks : ProductsOfMasks
products-of_masks n few a b ha hb r c hr hc =
    sum_one exacts (2 ^ n) k (mask_matrix a r) (λ (j : ℕ). mask_matrix b j c) (xor_lt n c b.x hc hb.x_in)
    (λ j l e. ap (exact.◌⊗◌ (mask_matrix a r j)) (mask-other b j c e) ∙ exacts.mul_zero (mask_matrix a r j))
    ∙ ap (exact.◌⊗◌ (mask_matrix a r k)) (mask-own b k c refl)
    ∙ ap (λ (y : ℕ). exact.◌⊗◌ (cond (eqb r y) (turned (a.turns + 2 * parity (bit_and a.z k))) none) (turned (b.turns + 2 * parity (bit_and b.z c))))
    (xor_through a.x b.x c (small few a.x ha.x_in) (small few b.x hb.x_in) (small few c hc))
    ∙ go (eqb r (bit_xor c (bit_xor a.x b.x)))
  where
    k : ℕ
    k = bit_xor c b.x

    go : (t : Bool) → exact.◌⊗◌ (cond t (turned (a.turns + 2 * parity (bit_and a.z k))) none) (turned (b.turns + 2 * parity (bit_and b.z c)))
        ≡ cond t (turned ((times_mask a b).turns + 2 * parity (bit_and (bit_xor a.z b.z) c))) none
    go true =
        turned-mul (a.turns + 2 * parity (bit_and a.z k)) (b.turns + 2 * parity (bit_and b.z c))
        ∙ turned_same _ _ (powers a.turns b.turns (parity (bit_and a.z c)) (parity (bit_and a.z b.x)) (parity (bit_and b.z c)) (parity (bit_and a.z k)) (parity (bit_and (bit_xor a.z b.z) c))
        (parity-column a.z c b.x (small few a.z ha.z_in) (small few c hc) (small few b.x hb.x_in))
        (parity-mask a.z b.z c (small few a.z ha.z_in) (small few b.z hb.z_in) (small few c hc)))
    go false = zero-mul exacts (turned (b.turns + 2 * parity (bit_and b.z c)))
