-- How many bits of a number below 32 are 1, modulo 2: each such number computed.
use mathlib.Core.Path.{◌≡◌}
use Prim.Native.Nat.{ℕ, ◌%◌, ◌<◌}
use native.Mathlib.Omega.{arith}
use lib.Bits.{bit_and, and_le_l}
use lib.Count.{ones}
use lib.Dec.{eqb, eqb→eq}
use Rattle.algebra.proofs.Tests.{exhaust}
use Rattle.pauli_nodes.specs.Inner.Masks.{parity}

pub ones_parity : (m : ℕ) → m < 32 → ones m % 2 ≡ parity m
unfolding ones
ones_parity m h = eqb→eq (ones m % 2) (parity m) (exhaust (λ (i : ℕ). eqb (ones i % 2) (parity i)) 32 tt m h)

pub ones_masked : (z c : ℕ) → z < 32 → ones (bit_and z c) % 2 ≡ parity (bit_and z c)
ones_masked z c h = ones_parity (bit_and z c) (omega (arith, and_le_l z c, h))
