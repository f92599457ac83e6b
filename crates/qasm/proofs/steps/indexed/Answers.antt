-- `steps::indexed` meets its contract.
use Rattle.std.proofs.Common.{◌≡◌, refl, sym, ap, ◌∙◌, Bool, true, cond, ℕ, ◌+◌, ◌-◌, ◌<◌, ◌≤◌, set, arith}
use borrow.Author.Tests.{leb-true, ltb-true}
use lib.Dec.{ltb, leb}
use Rattle.algebra.proofs.Tests.{and_split}
use Rattle.text.specs.Decimal.{value}
use Rattle.qasm.specs.Forms.{index}
use Rattle.qasm.specs.Inner.Progress.{opened_for}
use Rattle.qasm.proofs.Took.{took}
use Rattle.qasm.proofs.steps.indexed.Goals as goal

-- the words of a gate stand in front, and the word is one of them
inside : (n w : ℕ) → opened_for n (index w) ≡ true → (5 ≤ n) × (w < 5)
inside n w e = let (a, b) = and_split (ltb w 5) (leb 5 n) e in (leb-true 5 n b, ltb-true w 5 a)

pub overflow_sub-s : goal.overflow_sub-s
overflow_sub-s c = (inside c.args.s.words c.args.word c.requires).0

pub overflow_add-s : goal.overflow_add-s
overflow_add-s c = let q = inside c.args.s.words c.args.word c.requires in let n = c.ranges.s in omega (arith, q.0, q.1, n)

pub returns : goal.returns
returns c =
    let q = c.put_index in
    let g = c.args.gates.now in
    let w = c.args.word in
    took c.args.s refl refl (λ ws. refl) q.result refl c.then_some.ensures q.ensures.is_one
    (q.ensures.written ∙ ap (λ (one : Bool). cond one (set g (c.args.s.words - 5 + w) (value c.args.token.bytes.now)) g) (sym q.ensures.is_one))
