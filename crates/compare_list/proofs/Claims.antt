-- The claims on a call of compare_list.
use Rattle.std.specs.Prelude.{Ok, Err, IfOk}
use Rattle.std.specs.Result.{result_and}
use mathlib.Core.Path.{◌≡◌, ap}
use Prim.Native.Nat.{◌≤◌}
use lib.ListN.{length}
use Rattle.algebra.specs.Lists.{total}
use Rattle.verdict.specs.Questions.{Verdict}
use Rattle.pair_list.specs.Pairs.{pairs_of}
use Rattle.work_list.specs.Serving.{charge, Lent, lent, answers_to}
use Rattle.work_list.proofs.Claims.{within-allowance}
use Rattle.compare_list.specs.Call.{list_verdict, verdict_of, answers_of}
use Rattle.compare_list.specs.Claims.{NeverAbove, ByLengths}

pub never_above : NeverAbove
never_above count ws bs l n r s w o z = go (verdict_of count ws bs l n r s w o z)
  where
    go : (v : Verdict) → IfOk (result_and v (Ok (total charge (answers_of count ws bs l n r s w o z)))) (λ spent. spent ≤ n)
    go (Ok x) = within-allowance (lent l r s w n) (pairs_of ws bs count)
    go (Err r) = tt

pub by_lengths : ByLengths
by_lengths count ws bs l n r s w r' s' w' o o' z z' h =
    let t : lent l r s w n ≡ lent l r' s' w' n = λ i. record { limits = l; left = h.left i; right = h.right i; work = h.work i; allowance = n } in
    let v : list_verdict count ws bs (length o) (length z) ≡ list_verdict count ws bs (length o') (length z') = λ i. list_verdict count ws bs (h.answers i) (h.scalars i) in
    let a : answers_to (lent l r s w n) (pairs_of ws bs count) ≡ answers_to (lent l r' s' w' n) (pairs_of ws bs count) = ap (λ (t : Lent). answers_to t (pairs_of ws bs count)) t in
    ((λ i. result_and (v i) (Ok (total charge (a i)))), a)
