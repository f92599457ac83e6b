-- `copy_row` meets its contract.
use Prim.Native.Nat.{ℕ, ◌+◌, ◌*◌, ◌-◌}
use Rattle.algebra.proofs.Blocks.{Writing}
use Rattle.channel.specs.Layout.{from, entry_size, entry_words, numbers_at}
use Rattle.recast.proofs.copy_row.Given as goal

abbrev pub invariant-loop-j : goal.invariant-loop-j
invariant-loop-j l =
    let m = l.b in
    Writing (entry_size l.fn.to.plain) l.initial.res l.out (m.form.side - from l.fn.to l.r) (λ (k : ℕ). entry_words l.fn.to.plain (numbers_at m.form m.words.now 0 (l.r * m.form.side + (from l.fn.to l.r + k)))) l.res l.j
