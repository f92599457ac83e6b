-- `Finished::write_entries` meets its contract.
use Prim.Native.Nat.{ℕ, ◌*◌}
use Rattle.algebra.proofs.Blocks.{Writing}
use Rattle.exact.specs.Exact.{list_of}
use Rattle.channel.specs.Shared.{scaled}
use Rattle.effects.specs.Inner.Strides.{strided_at}
use Rattle.effects.proofs.Finished.write_entries.Given as goal

abbrev pub invariant-loop-i : goal.invariant-loop-i
invariant-loop-i l =
    let b = l.self.sums.block in
    Writing 4 l.initial.res l.out (b.d * b.d) (λ (k : ℕ). list_of (scaled l.e (strided_at l.self.strides.rows l.self.strides.cols b.words.now b.at b.d k))) l.res l.i
