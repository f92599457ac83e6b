-- `copy_records` meets its contract.
use Prim.Native.Nat.{ℕ}
use Rattle.algebra.proofs.Blocks.{Writing}
use Rattle.channel.specs.Layout.{header_size, record_size, record_at, form_of}
use Rattle.channel.specs.Recast.{recast_record}
use Rattle.recast.proofs.copy_records.Given as goal

abbrev pub invariant-loop-j : goal.invariant-loop-j
invariant-loop-j l =
    let G = form_of l.from.side l.to in
    Writing (record_size G) l.initial.res header_size l.n (λ (k : ℕ). recast_record l.from G l.s (record_at l.from k)) l.res l.j
