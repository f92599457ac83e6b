-- `judge_effects` meets its contract.
use mathlib.Core.Path.{ap}
use Prim.Native.Nat.{ℕ, ◌+◌, ◌*◌, ◌≤◌}
use native.Mathlib.Nat.{le_trans}
use native.Mathlib.Omega.{arith}
use lib.ListN.{length}
use Rattle.channel.specs.Layout.{header_size}
use Rattle.effects.proofs.Records.{shorter}
use Rattle.effects.proofs.Answers.{records}
use Rattle.effects.proofs.judge_effects.Goals as goal
use Rattle.effects.proofs.judge_effects.Goals.{After-record_size-size}

-- the effects have no more words than the channel
fewer : (c : After-record_size-size) → header_size + c.in_ok-h.h.count * c.record_size-size.result ≤ length c.args.channel.now
fewer c =
    let r = records c.args.channel.now c.args.res.now c.in_ok-h.ensures in
    omega (arith, le_trans (shorter r.dim c.in_ok-h.h.count) r.inside, ap (λ (k : ℕ). c.in_ok-h.h.count * k) c.record_size-size.ensures)

pub record_size-size-requires : goal.record_size-size-requires
record_size-size-requires c = omega (arith, (records c.args.channel.now c.args.res.now c.in_ok-h.ensures).dim.small)

pub overflow_mul-h : goal.overflow_mul-h
overflow_mul-h c = let q = fewer c.before in omega arith

pub overflow_add-h : goal.overflow_add-h
overflow_add-h c = let q = fewer c.before in omega arith

pub sums_fit-requires : goal.sums_fit-requires
sums_fit-requires c = records c.args.channel.now c.args.res.now c.in_ok-h.ensures
