-- `copy_block` meets its contract.
use Rattle.channel.specs.Layout.{numbers_at}
use Rattle.recast.proofs.Rows.{Rows}
use Rattle.recast.proofs.copy_block.Given as goal

abbrev pub invariant-loop-r : goal.invariant-loop-r
invariant-loop-r l = Rows l.form (numbers_at l.b.form l.b.words.now 0) l.initial.res l.out l.res l.r
