-- Computed at each power.
use mathlib.Core.Path.{◌≡◌}
use Prim.Native.Nat.{ℕ, ◌-◌, ◌*◌, ◌%◌, ◌^◌, ◌<◌}
use native.Mathlib.Omega.{arith}
use lib.Pow.{pow-lt}
use Rattle.algebra.proofs.Tests.{equal1}
use Rattle.pauli_words.proofs.nodes.weight_of.Goals as goal

shifted : (k : ℕ) → k < 5 → 1 * 2 ^ k % 256 ≡ 2 ^ k
shifted k l = equal1 (λ (k : ℕ). 1 * 2 ^ k % 256) (λ (k : ℕ). 2 ^ k) 5 tt k l

pub returns : goal.returns
returns c =
    let e = shifted (c.args.n - 1 - c.args.q) (omega arith) in
    let l : 2 ^ (c.args.n - 1 - c.args.q) < 2 ^ 5 = pow-lt {i = c.args.n - 1 - c.args.q} {j = 5} (omega arith) in
    (e, omega (arith, e, l))
