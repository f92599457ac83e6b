-- `same_rows` meets its contract: each row is the same, or one that differs decides.
use mathlib.Core.Path.{◌≡◌, sym, ap, ◌∙◌}
use mathlib.Core.Bool.{true}
use Prim.Native.Nat.{ℕ, ◌+◌, ◌*◌, ◌-◌, ◌/◌}
use native.Mathlib.Nat.{zero-add}
use native.Mathlib.Omega.{arith}
use lib.ListN.{length}
use Rattle.gather.specs.Words.{same_words}
use Rattle.gather.proofs.Laws.{row_is, row_no, same-cut}
use Rattle.gather.proofs.same_rows.Goals as goal

pub returns-then-not-same_words : goal.returns-then-not-same_words
returns-then-not-same_words c =
    let s = c.args.s.now in
    let t = c.args.t.now in
    let k = c.loop-r.r * 64 in
    let part = (λ j. same_words s (zero-add k j) t (zero-add k j) 64) ∙ sym (same-cut s k t k 64 (k + 64 - k) (k + 64 - k) (omega arith) (omega arith) (omega arith) (omega arith)) ∙ sym c.same_words.ensures ∙ c.if-not-same_words.true in
    sym (row_no s 0 t 0 k 64 (length s) (omega arith) part)

pub loop-r-preserved : goal.loop-r-preserved
loop-r-preserved c =
    let s = c.args.s.now in
    let t = c.args.t.now in
    let k = c.loop-r.r * 64 in
    let e : (c.loop-r.r + 1) * 64 ≡ k + 64 = omega arith in
    let part = (λ j. same_words s (zero-add k j) t (zero-add k j) 64) ∙ sym (same-cut s k t k 64 (k + 64 - k) (k + 64 - k) (omega arith) (omega arith) (omega arith) (omega arith)) ∙ sym c.same_words.ensures ∙ c.if-not-same_words.false in
    ap (same_words s 0 t 0) e ∙ row_is s 0 t 0 k 64 true c.loop-r.invariant part

pub returns : goal.returns
returns c =
    let s = c.args.s.now in
    let t = c.args.t.now in
    let all : c.loop-r.r ≡ length s / 64 = omega arith in
    let k = length s / 64 * 64 in
    let n = length s - k in
    let e : k + n ≡ length s = omega arith in
    let part = (λ j. same_words s (zero-add k j) t (zero-add k j) n) ∙ sym (same-cut s k t k n (length s - k) (length t - k) (omega arith) (omega arith) (omega arith) (omega arith)) ∙ sym c.same_words-2.ensures in
    sym (ap (same_words s 0 t 0) (sym e) ∙ row_is s 0 t 0 k n _ (ap (λ (m : ℕ). same_words s 0 t 0 (m * 64)) (sym all) ∙ c.loop-r.invariant) part)
