-- Masks are added bit by bit.
use native.Mathlib.Omega.{arith}
use lib.Bits.{xor_lt}
use Rattle.pauli_words.proofs.masks.Mask.times.Goals as goal

pub invariant_of-result : goal.invariant_of-result
invariant_of-result c =
    let a = c.self.inside in
    let b = c.other.inside in
    (xor_lt 5 a.x b.x (omega arith) (omega arith), xor_lt 5 a.z b.z (omega arith) (omega arith), omega arith)
