-- `serve_all` meets its contract.
use mathlib.Core.Path.{◌≡◌}
use Rattle.work_list.specs.Serving.{lent}
use Rattle.compare_list.proofs.Along.{Along}
use Rattle.compare_list.proofs.serve_all.Given as goal

abbrev pub invariant-loop-i : goal.invariant-loop-i
invariant-loop-i l = record {
  along : Along l.list.words.now l.list.stores.now (lent l.limits l.initial.left l.initial.right l.initial.work l.allowance) l.list.count l.initial.answers l.initial.scalars l.i l.place.at l.place.from l.spent l.answers l.scalars;
  left_stays : l.left ≡ l.initial.left;
  right_stays : l.right ≡ l.initial.right;
  work_stays : l.work ≡ l.initial.work;
}
