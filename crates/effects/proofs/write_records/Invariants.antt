-- `write_records` meets its contract.
use Prim.Native.Nat.{ℕ}
use Rattle.algebra.proofs.Blocks.{Writing}
use Rattle.channel.specs.Layout.{channels, effects, header_size, record_size, record_at}
use Rattle.effects.specs.Effects.{effect_record}
use Rattle.effects.specs.Inner.Strides.{strided_at}
use Rattle.effects.proofs.write_records.Given as goal

abbrev pub invariant-loop-j : goal.invariant-loop-j
invariant-loop-j l =
    Writing (record_size (effects l.h.dim)) l.initial.res header_size l.h.count (λ (k : ℕ). effect_record (strided_at l.strides.rows l.strides.cols) l.s l.h.dim (record_at (channels l.h.dim) k)) l.res l.j
