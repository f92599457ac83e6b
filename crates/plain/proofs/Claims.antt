-- What the profile means, from its questions and the entries of its circuits.
use Rattle.std.specs.Prelude.{is_ok}
use mathlib.Core.Path.{◌≡◌, refl, sym, ap, ◌∙◌}
use mathlib.Core.Bool.{Bool, true, false, cond, ◌&&◌}
use mathlib.Core.List.{List}
use Prim.Native.Nat.{ℕ}
use lib.ListN.{length}
use lib.IntN.{ℤ}
use Rattle.algebra.specs.Lists.{every}
use Rattle.algebra.proofs.Tests.{and_split}
use Rattle.verdict.specs.Questions.{Verdict}
use Rattle.gate.specs.Gate.{gates_of}
use Rattle.circuit.specs.declared.limits.Limits.{Limits}
use Rattle.judge.specs.Call.{verdict_of, accepts, result_after, work_after}
use Rattle.plain.specs.Profile.{in_profile}
use Rattle.plain.specs.Call.{plain_verdict_of, plain_accepts, plain_result, plain_work}
use Rattle.plain.specs.Claims.{PlainCalls}
use Rattle.plain.proofs.Asked.{plain-accepts, plain-same}
use Rattle.plain.proofs.Entries.{plain-block}

twice : (b : Bool) (x r : List ℤ) → cond b (cond b x r) r ≡ cond b x r
twice true x r = refl
twice false x r = refl

-- where the verdict is that of circuit_channel, so are the words
module _ (n m : ℕ) (σ : List ℕ) (l : Limits) (ws : List ℕ) (r w : List ℤ) (e : plain_verdict_of n m σ l ws r w ≡ verdict_of n m σ l ws r w) where
  pub same_result : plain_result n m σ l ws r w ≡ result_after n m σ l ws r w
  same_result = ap (λ (v : Verdict). cond (is_ok v) (result_after n m σ l ws r w) r) e ∙ twice (accepts n m σ l ws r w) _ r

  pub same_work : plain_work n m σ l ws r w ≡ work_after n m σ l ws r w
  same_work = ap (λ (v : Verdict). cond (is_ok v) (work_after n m σ l ws r w) w) e ∙ twice (accepts n m σ l ws r w) _ w

pub plain_calls : PlainCalls
plain_calls n m σ l ws r w = record {
  acceptance = acceptance;
  verdict = same;
  result = λ e. same_result n m σ l ws r w (same e);
  work = λ e. same_work n m σ l ws r w (same e);
  blocks = λ e. plain-block n σ (gates_of ws) (and_split (every in_profile (gates_of ws)) (accepts n m σ l ws r w) (sym acceptance ∙ e)).0;
}
  where
    acceptance : plain_accepts n m σ l ws r w ≡ every in_profile (gates_of ws) && accepts n m σ l ws r w
    acceptance = plain-accepts n m l ws σ (length r) (length w)

    same : every in_profile (gates_of ws) ≡ true → plain_verdict_of n m σ l ws r w ≡ verdict_of n m σ l ws r w
    same = plain-same n m l ws σ (length r) (length w)
