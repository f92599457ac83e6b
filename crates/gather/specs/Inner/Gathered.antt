-- What is gathered from words.
use Rattle.std.specs.Prelude.{List, ℕ, zero, suc, ◌+◌, ◌*◌, get_or, ℤ, pos, negsuc}
use Rattle.std.specs.Int.Bits.{bit_or, bit_xor}

-- the bits that some of f 0, .., f (n − 1) has
abbrev pub gather : ℕ → (ℕ → ℕ) → ℕ
gather zero f = 0
gather (suc n) f = bit_or (gather n f) (f n)

-- x ^ (x << 1), without end: bit k is set where bits k and k − 1 of x differ
abbrev pub edge : ℤ → ℕ
edge (pos n) = bit_xor n (n * 2)
edge (negsuc n) = bit_xor n (n * 2 + 1)

abbrev pub edges : List ℤ → ℕ → ℕ → ℕ
edges l at n = gather n (λ (i : ℕ). edge (get_or l (at + i) (pos 0)))
