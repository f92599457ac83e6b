-- The walk along the chain: where it stops, and what it says of every block.
use Rattle.std.specs.Prelude.{Option, Some, None}
use Rattle.std.specs.Option.{option_map}
use mathlib.Core.Path.{◌≡◌, refl, sym, ap, ◌∙◌, subst}
use mathlib.Core.Bool.{Bool, true, false, cond}
use mathlib.Core.List.{List, [], ◌∷◌}
use Prim.Native.Nat.{ℕ, zero, suc, ◌+◌, ◌-◌, ◌/◌, ◌<◌}
use native.Mathlib.Nat.{zero-add, not-suc-le-zero}
use native.Mathlib.Omega.{arith}
use lib.Dec.{eqb}
use lib.IntN.{ℤ, nat_abs}
use borrow.Author.Tests.{eqb-true}
use Rattle.algebra.specs.Lists.{All}
use Rattle.channel.specs.Layout.{Form, header_size, record_size, record_at, word, count_at, numbers_at}
use Rattle.channel.specs.WellFormed.{well_formed_in}
use Rattle.channel.specs.Claims.{places, visits}
use Rattle.channel.specs.Forms.{restores}
use Rattle.channel.specs.Inner.Shapes.{OnwardIn}
use Rattle.channel.proofs.Chain.{begin_in, on-start, on-next}
use Rattle.channel.proofs.Visits.{visits_each}
use Rattle.recast.proofs.Ready.{place_of}
use Rattle.form_judge.specs.Faults.{fault_from, fault_of}
use Rattle.form_judge.proofs.Faults.{fault-here, fault-on, fault-end}

less : (n : ℕ) → suc n - 1 ≡ n
less n = omega arith

none_before : (o : Option ℕ) → option_map suc o ≡ None → o ≡ None
none_before None e = refl
none_before (Some i) e = absurd (cc)

some_none : {i : ℕ} → ◌≡◌ {A = Option ℕ} (Some i) None → ⊥
some_none e = cc

some_same : {i j : ℕ} → ◌≡◌ {A = Option ℕ} (Some i) (Some j) → i ≡ j
some_same e = cc

-- what holds at each of some places holds at one that is visited
visited : (Q : ℕ → Type 0) (j : ℕ) (ps : List ℕ) → visits j ps ≡ 1 → All Q ps → Q j
visited Q j [] e a = absurd (omega arith)
visited Q j (p ∷ ps) e a = go (eqb p j) refl (λ u. visited Q j ps u a.1)
  where
    go : (b : Bool) → eqb p j ≡ b → (visits j ps ≡ 1 → Q j) → Q j
    go true t ih = subst Q (eqb-true p j t) a.0
    go false t ih = ih (sym (zero-add (visits j ps)) ∙ ap (λ (b : Bool). cond b 1 0 + visits j ps) (sym t) ∙ e)

module _ (F G : Form) (l : List ℤ) where
  abbrev fits : ℕ → Bool
  fits at = restores G (numbers_at F l at)

  -- one record further
  step : (n at : ℕ) → fits at ≡ true → fault_from F G l (suc n) at ≡ option_map suc (fault_from F G l n (nat_abs (word l at)))
  step n at t = fault-on F G l (suc n) at (omega arith) t ∙ ap (λ (k : ℕ). option_map suc (fault_from F G l k (nat_abs (word l at)))) (less n)

  onward : (n at : ℕ) → OnwardIn F l (suc n) at → OnwardIn F l n (nat_abs (word l at))
  onward n at o = subst (λ (k : ℕ). OnwardIn F l k (nat_abs (word l at))) (less n) (on-next o (omega arith))

  -- ---- every block, or none at fault
  all_fit : (n at : ℕ) → OnwardIn F l n at → fault_from F G l n at ≡ None → All (λ (p : ℕ). fits (record_at F p) ≡ true) (places F l n at)
  all_fit zero at o e = tt
  all_fit (suc n) at o e = go (fits at) refl (all_fit n (nat_abs (word l at)) (onward n at o))
    where
      here : record_at F ((at - header_size) / record_size F) ≡ at
      here = let s = on-start o (omega arith) in ap (λ (a : ℕ). record_at F ((a - header_size) / record_size F)) s.is ∙ ap (record_at F) (place_of F s.place) ∙ sym s.is

      go : (b : Bool) → fits at ≡ b → (fault_from F G l n (nat_abs (word l at)) ≡ None → All (λ (p : ℕ). fits (record_at F p) ≡ true) (places F l n (nat_abs (word l at)))) → All (λ (p : ℕ). fits (record_at F p) ≡ true) (places F l (suc n) at)
      go true t ih = (ap fits here ∙ t, ih (none_before (fault_from F G l n (nat_abs (word l at))) (sym (step n at t) ∙ e)))
      go false t ih = absurd (some_none (sym (fault-here F G l (suc n) at (omega arith) t) ∙ e))

  none : ((j : ℕ) → j < count_at l → fits (record_at F j) ≡ true) → (n at : ℕ) → OnwardIn F l n at → fault_from F G l n at ≡ None
  none h zero at o = fault-end F G l 0 at (omega arith)
  none h (suc n) at o = let s = on-start o (omega arith) in step n at (ap fits s.is ∙ h s.place s.below) ∙ ap (option_map suc) (none h n (nat_abs (word l at)) (onward n at o))

  module _ (ok : well_formed_in F l ≡ true) where
    pub each_fits : fault_of F G l ≡ None → (j : ℕ) → j < count_at l → fits (record_at F j) ≡ true
    each_fits e j h = visited (λ (p : ℕ). fits (record_at F p) ≡ true) j (places F l (count_at l) (nat_abs (word l 3))) (visits_each F l ok j h) (all_fit (count_at l) (nat_abs (word l 3)) (begin_in F l ok) e)

    pub no_fault : ((j : ℕ) → j < count_at l → fits (record_at F j) ≡ true) → fault_of F G l ≡ None
    no_fault h = none h (count_at l) (nat_abs (word l 3)) (begin_in F l ok)

  -- ---- the first block at fault
  abbrev pub after : ℕ → ℕ → ℕ
  after at zero = at
  after at (suc i) = nat_abs (word l (after at i))

  shift : (at i : ℕ) → after (nat_abs (word l at)) i ≡ after at (suc i)
  shift at zero = refl
  shift at (suc i) = ap (λ (a : ℕ). nat_abs (word l a)) (shift at i)

  pub record First (at i : ℕ) : Type 0 where
    pub unfit : fits (after at i) ≡ false
    pub fit : (j : ℕ) → j < i → fits (after at j) ≡ true

  later : (at i : ℕ) → fits at ≡ true → First (nat_abs (word l at)) i → First at (suc i)
  later at i t r = record { unfit = ap fits (sym (shift at i)) ∙ r.unfit; fit = before }
    where
      before : (j : ℕ) → j < suc i → fits (after at j) ≡ true
      before zero h = t
      before (suc j) h = ap fits (sym (shift at j)) ∙ r.fit j (omega arith)

  sooner : (at i : ℕ) → First at (suc i) → First (nat_abs (word l at)) i
  sooner at i r = record { unfit = ap fits (shift at i) ∙ r.unfit; fit = λ j h. ap fits (shift at j) ∙ r.fit (suc j) (omega arith) }

  pub fault-first : (n at i : ℕ) → fault_from F G l n at ≡ Some i → (i < n) × First at i
  fault-first zero at i e = absurd (some_none (sym e ∙ fault-end F G l 0 at (omega arith)))
  fault-first (suc n) at i e = go (fits at) refl (fault-first n (nat_abs (word l at)))
    where
      further : (o : Option ℕ) → option_map suc o ≡ Some i → ((k : ℕ) → o ≡ Some k → (k < n) × First (nat_abs (word l at)) k) → fits at ≡ true → (i < suc n) × First at i
      further None q h t = absurd (some_none (sym q))
      further (Some k) q h t =
          let r = h k refl in
          let e : suc k ≡ i = some_same q in
          (omega arith, subst (First at) e (later at k t r.1))

      go : (b : Bool) → fits at ≡ b → ((k : ℕ) → fault_from F G l n (nat_abs (word l at)) ≡ Some k → (k < n) × First (nat_abs (word l at)) k) → (i < suc n) × First at i
      go true t ih = further (fault_from F G l n (nat_abs (word l at))) (sym (step n at t) ∙ e) ih t
      go false t ih =
          let q : 0 ≡ i = some_same (sym (fault-here F G l (suc n) at (omega arith) t) ∙ e) in
          (omega arith, subst (First at) q (record { unfit = t; fit = λ j u. absurd (not-suc-le-zero u) }))

  pub first-fault : (n at i : ℕ) → First at i → i < n → fault_from F G l n at ≡ Some i
  first-fault zero at i r h = absurd (not-suc-le-zero h)
  first-fault (suc n) at zero r h = fault-here F G l (suc n) at (omega arith) r.unfit
  first-fault (suc n) at (suc i) r h = step n at (r.fit 0 (omega arith)) ∙ ap (option_map suc) (first-fault n (nat_abs (word l at)) i (sooner at i r) (omega arith))
