-- `tokens::run` meets its contract.
use Rattle.std.proofs.Common.{length, rules}
use mathlib.Core.Path.{sym, ap, ◌∙◌}
use mathlib.Core.Bool.{not}
use native.Mathlib.Omega.{arith}
use lib.ListN.{get_or}
use Rattle.qasm.proofs.Scanning.{run_is, pass_more}
use Rattle.qasm.proofs.tokens.run.Goals as goal

pub returns-then-not-test : goal.returns-then-not-test
returns-then-not-test g c =
    let t = c.args.text.now in
    let i = c.loop-i.i in
    record {
      value = λ p gives.
          let here = gives (get_or t i 0) c.test.result (search rules) c.test.ensures in
          run_is p t i (omega arith) (λ k h. ap not (c.loop-i.invariant p gives k h)) (λ h. ap not (sym here ∙ c.if-not-test.true));
      most = omega arith;
    }

pub loop-i-preserved : goal.loop-i-preserved
loop-i-preserved g c p gives =
    let here = gives (get_or c.args.text.now c.loop-i.i 0) c.test.result (search rules) c.test.ensures in
    pass_more p c.args.text.now c.loop-i.i (c.loop-i.invariant p gives) (sym here ∙ search rules)

pub returns : goal.returns
returns g c =
    let n = length c.args.text.now in
    record { value = λ p gives. run_is p c.args.text.now n (omega arith) (λ k h. ap not (c.loop-i.invariant p gives k (omega arith))) (λ h. absurd (omega arith)); most = omega arith }
