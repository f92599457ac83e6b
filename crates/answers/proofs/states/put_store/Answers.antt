-- `states::put_store` meets its contract.
use Rattle.text.proofs.Put.{text, left_less, left-none, left_is}
use Rattle.answers.proofs.Bits.{bit_bytes, bits_none, bits-some, bits-more, bits-end}
use native.Mathlib.Omega.{arith}
use mathlib.Core.Path.{◌≡◌, ap}
use Prim.Native.Nat.{ℕ, ◌-◌, ◌+◌, ◌/◌}
use Rattle.answers.proofs.states.put_store.Goals as goal

pub returns-then-m-eq0 : goal.returns-then-m-eq0
returns-then-m-eq0 c = text (bits_none c.args.m c.args.store c.if-m-eq0.true) c.put.ensures

pub loop-preserved : goal.loop-preserved
loop-preserved c =
    let e : c.args.m - c.loop.counter - 1 ≡ c.args.m - (c.loop.counter + 1) = omega arith in
    left_is (ap (λ (k : ℕ). bit_bytes k (c.loop.rest / 2)) e)
    (left_less (left_is (bits-more (c.args.m - c.loop.counter) c.loop.rest (omega arith)) c.loop.invariant) c.put-in-loop.ensures)

pub returns : goal.returns
returns c =
    text (bits-some c.args.m c.args.store c.if-m-eq0.false) (left-none (left_is (bits-end (c.args.m - c.loop.counter) c.loop.rest (omega arith)) c.loop.invariant))
