-- Masks of five bits: what exclusive or does to masks and to parities, computed at every number below 32.
use mathlib.Core.Path.{◌≡◌}
use Prim.Native.Nat.{ℕ, ◌+◌, ◌%◌, ◌^◌, ◌≤◌, ◌<◌}
use native.Mathlib.Omega.{arith}
use lib.Bits.{bit_and, bit_xor}
use lib.Dec.{T, eqb}
use lib.Pow.{pow_mono}
use Rattle.algebra.specs.Lists.{all_below}
use Rattle.algebra.proofs.Tests.{exhaust, equal2}
use Rattle.pauli_nodes.specs.Inner.Masks.{parity}

pub small : {n : ℕ} → n ≤ 5 → (r : ℕ) → r < 2 ^ n → r < 32
small few r h = omega (arith, pow_mono {i = _} {j = 5} few)

-- two functions of three numbers agree below the bounds
pub equal3 : (f g : ℕ → ℕ → ℕ → ℕ) (l m n : ℕ) → T (all_below l (λ (a : ℕ). all_below m (λ (b : ℕ). all_below n (λ (c : ℕ). eqb (f a b c) (g a b c)))))
    → (a b c : ℕ) → a < l → b < m → c < n → f a b c ≡ g a b c
equal3 f g l m n t a b c ha hb hc =
    equal2 (f a) (g a) m n (exhaust (λ (a : ℕ). all_below m (λ (b : ℕ). all_below n (λ (c : ℕ). eqb (f a b c) (g a b c)))) l t a ha) b c hb hc

pub xor_through : (a b c : ℕ) → a < 32 → b < 32 → c < 32 → bit_xor (bit_xor c b) a ≡ bit_xor c (bit_xor a b)
xor_through = equal3 (λ (a b c : ℕ). bit_xor (bit_xor c b) a) (λ (a b c : ℕ). bit_xor c (bit_xor a b)) 32 32 32 tt

pub xor_back : (a c : ℕ) → a < 32 → c < 32 → bit_xor (bit_xor c a) a ≡ c
xor_back = equal2 (λ (a c : ℕ). bit_xor (bit_xor c a) a) (λ (a c : ℕ). c) 32 32 tt

pub parity-column : (z a b : ℕ) → z < 32 → a < 32 → b < 32 → parity (bit_and z (bit_xor a b)) ≡ (parity (bit_and z a) + parity (bit_and z b)) % 2
parity-column = equal3 (λ (z a b : ℕ). parity (bit_and z (bit_xor a b))) (λ (z a b : ℕ). (parity (bit_and z a) + parity (bit_and z b)) % 2) 32 32 32 tt

pub parity-mask : (y z c : ℕ) → y < 32 → z < 32 → c < 32 → parity (bit_and (bit_xor y z) c) ≡ (parity (bit_and y c) + parity (bit_and z c)) % 2
parity-mask = equal3 (λ (y z c : ℕ). parity (bit_and (bit_xor y z) c)) (λ (y z c : ℕ). (parity (bit_and y c) + parity (bit_and z c)) % 2) 32 32 32 tt
