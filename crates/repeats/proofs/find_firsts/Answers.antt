-- `find_firsts` meets its contract.
use mathlib.Core.Path.{◌≡◌, refl, sym, subst, subst₂}
use mathlib.Core.List.{List}
use Prim.Native.Nat.{ℕ, ◌+◌, ◌≤◌, ◌<◌}
use native.Mathlib.Omega.{arith}
use lib.IntN.{ℤ}
use Rattle.repeats.specs.Inner.Repeats.{Firsts}
use Rattle.repeats.proofs.Finding.{Finding, none_found, again_found, new_found}
use Rattle.repeats.proofs.find_firsts.Goals as goal
use Rattle.repeats.proofs.find_firsts.Goals.{in-Some, in_default+else-n-eq-DIFFERENT}

-- what the branch leaves
found : {f g p q : List ℕ} {n a : ℕ} {m : List ℤ} {k r : ℕ} → g ≡ f → q ≡ p → a ≡ n → Finding f p n m k r → Finding g q a m k r
found {g = g} {q = q} {n = n} {m = m} {k = k} {r = r} e h u w = subst (λ (a : ℕ). Finding g q a m k r) (sym u) (subst₂ (λ (f p : List ℕ). Finding f p n m k r) (sym e) (sym h) w)

pub loop-r-init : goal.loop-r-init
loop-r-init c = (none_found c.args.firsts.now _ c.args.work.now c.args.k (c.told-firsts, refl), omega arith)

pub find_same-requires : goal.find_same-requires
find_same-requires c =
    let w = c.loop-r.invariant.0 in
    record { few = w.few; before = λ i h. (w.places i h).0; room = omega (arith, c.requires.1) }

pub bounds-places-i : goal.bounds-places-i
bounds-places-i c = omega (arith, (c.find_same.ensures c.in-Some.i c.in-Some.is).0, c.loop-r.invariant.0.few)

pub bounds-places-n : goal.bounds-places-n
bounds-places-n c = omega (arith, c.loop-r.invariant.0.few, c.if-n-eq-DIFFERENT.false)

pub overflow_add-n : goal.overflow_add-n
overflow_add-n c = record { fits = omega (arith, c.loop-r.invariant.0.few) }

pub loop-r-preserved : goal.loop-r-preserved
loop-r-preserved c =
    let v = c.loop-r.invariant.0 in
    let small : c.loop-r.r < 256 = omega (arith, c.loop-r-test.true, c.requires.0) in
    let next : c.loop-r.r + 1 ≤ c.args.w = omega (arith, c.loop-r-test.true) in
    elim c.match-find_same.branch [
      | in-Some w ↦
          let e = c.find_same.ensures w.in-Some.i w.in-Some.is in
          (found w.firsts-is w.places-is w.n-is (again_found v small w.in-Some.i e.0 e.1), next)
      | in_default+else-n-eq-DIFFERENT w ↦ (found w.firsts-is w.places-is w.n-is (new_found v small (omega (arith, v.few, w.if-n-eq-DIFFERENT.false))), next)
    ]

pub returns : goal.returns
returns c = λ e.
    let all : c.loop-r.r ≡ c.args.w = omega (arith, c.loop-r.invariant.1, c.loop-r-test.false) in
    subst (λ (r : ℕ). Firsts c.loop-r.firsts c.args.work.now c.args.k r) all c.loop-r.invariant.0.firsts
