-- `Source::write_shared` meets its contract.
use mathlib.Core.Path.{◌≡◌, sym, ap, ◌∙◌, subst}
use mathlib.Core.List.{List}
use Prim.Native.Nat.{ℕ, ◌+◌, ◌*◌}
use native.Mathlib.Nat.{le_refl}
use native.Mathlib.Omega.{arith}
use lib.IntN.{ℤ}
use Rattle.algebra.proofs.Blocks.{blocks-same}
use Rattle.exact.specs.Exact.{list_of}
use Rattle.share.specs.Share.{with_numerators}
use Rattle.hermitian.specs.Inner.Upper.{mirrored_from}
use Rattle.repeats.specs.Inner.Repeats.{products_shared, Narrow}
use Rattle.collect.specs.Inner.Bank.{largest, summed}
use Rattle.collect.proofs.Numerators.{largest-small}
use Rattle.collect.proofs.Summing.{Summed}
use Rattle.collect.proofs.Sharing.{alike, numerators_are}
use Rattle.collect.proofs.Sparse.{half_asks}
use Rattle.collect.proofs.Alone.{narrow_entries, products-alike}
use Rattle.collect.proofs.blocks.Source.write_shared.Goals as goal

-- ---- one branch with few different entries
pub invariant_of-repeats : goal.invariant_of-repeats
invariant_of-repeats c =
    let s = c.args.self in
    let b = s.branch in
    record {
      narrow = subst (λ (k : ℕ). Narrow b.work.now k (b.bank.d * b.bank.d)) (sym c.branch-k.ensures) (narrow_entries s.held s.inside);
      repeat = c.find_firsts.ensures c.if-find_firsts.true;
    }

pub returns-then-find_firsts-clause-exponent : goal.returns-then-find_firsts-clause-exponent
returns-then-find_firsts-clause-exponent c =
    let s = c.args.self in
    let b = s.branch in
    let w = b.bank.d * b.bank.d in
    let e = c.largest_exponent-e.ensures in
    c.write.ensures.exponent ∙ (λ i. (products_shared b.work.now (c.branch-k.ensures i) w (e i + e i)).exp) ∙ (products-alike s.held s.inside c.if-bank-eq1.true c.requires.first).exp

pub returns-then-find_firsts-clause-numerators : goal.returns-then-find_firsts-clause-numerators
returns-then-find_firsts-clause-numerators c =
    let s = c.args.self in
    let b = s.branch in
    let w = b.bank.d * b.bank.d in
    let e = c.largest_exponent-e.ensures in
    let form = products-alike s.held s.inside c.if-bank-eq1.true c.requires.first in
    c.write.ensures.numerators
    ∙ (λ i. with_numerators c.args.res.now c.args.out (w * w) (products_shared b.work.now (c.branch-k.ensures i) w (e i + e i)).num)
    ∙ blocks-same 4 c.args.res.now c.args.out (w * w) _ _ (λ k h. ap list_of (form.num k h))

-- ---- any
-- the sums over the power of two of the bank's largest exponent
summed_of : {m : List ℤ} {out : ℕ} {l : List ℤ} {at d e b : ℕ} {q : List ℤ} {n : ℕ} → e ≡ largest l at d n → q ≡ with_numerators m out (d * d * (d * d)) (summed m out l at d e b n) → Summed m out l at d (largest l at d n) b q n
summed_of {m} {out} {l} {at} {d} {b = b} {n = n} p f = record { is = f ∙ ap (λ (e : ℕ). with_numerators m out (d * d * (d * d)) (summed m out l at d e b n)) p }

pub overflow_add-e-2 : goal.overflow_add-e-2
overflow_add-e-2 c = let s = c.args.self in record { fits = omega (arith, c.largest_exponent-e.ensures, largest-small s.held s.branch.bank.count (le_refl _)) }

pub share_block-requires : goal.share_block-requires
share_block-requires c =
    let s = c.args.self in
    let e = c.largest_exponent-e.ensures in
    (half_asks s.held s.inside c.requires.first c.requires.room (summed_of e c.sum_block.ensures), omega (arith, e, largest-small s.held s.branch.bank.count (le_refl _)))

pub returns-clause-exponent : goal.returns-clause-exponent
returns-clause-exponent c =
    let s = c.args in
    let w = s.self.branch.bank.d * s.self.branch.bank.d in
    let big = c.largest_exponent-e.ensures in
    c.share_block.ensures.exponent ∙ ap (λ (e : ℕ). (mirrored_from c.sum_block.new.res s.out w (e + e)).exp) big ∙ (alike s.self.held c.requires.room (summed_of big c.sum_block.ensures)).exp

pub returns-clause-numerators : goal.returns-clause-numerators
returns-clause-numerators c =
    let s = c.args in
    let w = s.self.branch.bank.d * s.self.branch.bank.d in
    let big = c.largest_exponent-e.ensures in
    let q = c.sum_block.new.res in
    numerators_are s.self.held c.requires.room (summed_of big c.sum_block.ensures) (c.share_block.ensures.numerators ∙ ap (λ (e : ℕ). with_numerators q s.out (w * w) (mirrored_from q s.out w (e + e)).num) big)
