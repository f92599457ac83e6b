-- `project_rows` meets its contract.
use Rattle.branches.specs.Inner.Project.{projection}
use Rattle.branches.proofs.Applied.{Applied}
use Rattle.branches.proofs.project.project_rows.Given as goal

abbrev pub invariant-loop-r : goal.invariant-loop-r
invariant-loop-r l = Applied l.initial.work l.m (projection l.m l.high l.moved) l.old l.new l.d l.work l.r
