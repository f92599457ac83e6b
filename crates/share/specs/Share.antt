-- Numbers in words, four numerators each, and the shared form of what they are over a power of two.
use Rattle.std.specs.Prelude.{List, ℕ, zero, suc, ◌+◌, ◌*◌, ℤ}
use Rattle.std.specs.Int.Bits.{bit_or}
use Rattle.std.specs.Int.{w64}
use Rattle.std.proofs.Common.{of_z}
use Rattle.algebra.specs.Words.{blocks}
use Rattle.exact.specs.Exact.{Number, number, list_of, lowest}
use Rattle.channel.specs.Shared.{Shared, shared}
use Rattle.channel.specs.Layout.{word}

-- the four numerators at `at`
abbrev pub number_in : List ℤ → ℕ → Number
number_in l at = number (word l at) (word l (at + 1)) (word l (at + 2)) (word l (at + 3))

-- n numbers written from `at` on
abbrev pub with_numerators : List ℤ → ℕ → ℕ → (ℕ → Number) → List ℤ
with_numerators l at n z = blocks 4 l at n (λ (k : ℕ). list_of (z k))

-- the shared form of n numbers over 2^e
abbrev pub shared_from : List ℤ → ℕ → ℕ → ℕ → Shared
shared_from l at n e = shared n (λ (k : ℕ). lowest (number_in l (at + k * 4)) e)

-- the bits that g has or some of n words
abbrev pub or_words : ℕ → List ℤ → ℕ → ℕ → ℕ
or_words g l at zero = g
or_words g l at (suc n) = bit_or (or_words g l at n) (of_z w64 (word l (at + n)))
