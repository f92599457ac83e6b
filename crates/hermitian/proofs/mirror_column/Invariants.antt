-- `mirror_column` meets its contract.
use Rattle.hermitian.proofs.Mirrored.{Mirroring}
use Rattle.hermitian.proofs.mirror_column.Given as goal

abbrev pub invariant-loop-c : goal.invariant-loop-c
invariant-loop-c l = Mirroring l.initial.s l.out l.w l.r l.s l.c
