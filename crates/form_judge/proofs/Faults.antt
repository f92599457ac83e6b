-- One step of the walk to the first block that a form does not restore.
use Rattle.std.specs.Prelude.{Option, Some, None}
use Rattle.std.specs.Option.{option_map, option_or}
use mathlib.Core.Path.{◌≡◌, refl, sym, ap, ◌∙◌}
use mathlib.Core.Bool.{Bool, true, false, cond}
use mathlib.Core.List.{List}
use Prim.Native.Nat.{ℕ, suc, ◌+◌, ◌-◌, ◌<◌, ◌≤◌}
use native.Mathlib.Nat.{add-zero}
use native.Mathlib.Omega.{arith}
use lib.ListN.{drop}
use lib.IntN.{ℤ, nat_abs}
use Rattle.channel.specs.declared.forms.Parts.{Parts}
use Rattle.channel.specs.Layout.{Form, word, numbers_at, form_of}
use Rattle.channel.proofs.Suffix.{numbers-from}
use Rattle.channel.specs.Forms.{restores}
use Rattle.form_judge.specs.Faults.{fault_from}

-- whether a form restores a block, read from its record's first word on
pub restored-from : (to : Parts) (F : Form) (l : List ℤ) {v : List ℤ} (at : ℕ) → v ≡ drop at l → restores (form_of F.side to) (numbers_at F v 0) ≡ restores (form_of F.side to) (numbers_at F l at)
restored-from to F l at e = (λ i. restores (form_of F.side to) (numbers_at F (e i) 0)) ∙ ap (restores (form_of F.side to)) (numbers-from F l at)

module _ (F G : Form) (l : List ℤ) (n at : ℕ) where
  step : 0 < n → fault_from F G l n at ≡ cond (restores G (numbers_at F l at)) (option_map suc (fault_from F G l (n - 1) (nat_abs (word l at)))) (Some 0)
  unfolding fault_from
  step h = let e : n ≡ suc (n - 1) = omega arith in ap (λ (k : ℕ). fault_from F G l k at) e

  pub fault-here : 0 < n → restores G (numbers_at F l at) ≡ false → fault_from F G l n at ≡ Some 0
  fault-here h e = step h ∙ ap (λ (b : Bool). cond b (option_map suc (fault_from F G l (n - 1) (nat_abs (word l at)))) (Some 0)) e

  pub fault-on : 0 < n → restores G (numbers_at F l at) ≡ true → fault_from F G l n at ≡ option_map suc (fault_from F G l (n - 1) (nat_abs (word l at)))
  fault-on h e = step h ∙ ap (λ (b : Bool). cond b (option_map suc (fault_from F G l (n - 1) (nat_abs (word l at)))) (Some 0)) e

  pub fault-end : n ≤ 0 → fault_from F G l n at ≡ None
  unfolding fault_from
  fault-end h = let e : n ≡ 0 = omega arith in ap (λ (k : ℕ). fault_from F G l k at) e

-- places counted from further back
one_further : (i : ℕ) (o : Option ℕ) → option_map (λ (j : ℕ). i + j) (option_map suc o) ≡ option_map (λ (j : ℕ). i + 1 + j) o
one_further i None = refl
one_further i (Some j) = let e : i + suc j ≡ i + 1 + j = omega arith in ap Some e

-- the first fault, where f is that before block i, of which n are left from index `at` on
module _ (F G : Form) (l : List ℤ) (i : ℕ) where
  abbrev pub faults : Option ℕ → ℕ → ℕ → Option ℕ
  faults f n at = option_or f (option_map (λ (j : ℕ). i + j) (fault_from F G l n at))

  pub faults-end : (f : Option ℕ) (n at : ℕ) → n ≤ 0 → faults f n at ≡ f
  faults-end f n at h = ap (λ (o : Option ℕ). option_or f (option_map (λ (j : ℕ). i + j) o)) (fault-end F G l n at h) ∙ alone f
    where
      alone : (f : Option ℕ) → option_or f None ≡ f
      alone None = refl
      alone (Some k) = refl

  -- one block further
  pub faults-on : (f : Option ℕ) (n at : ℕ) → 0 < n → (b : Bool) → b ≡ restores G (numbers_at F l at)
      → faults f n at ≡ option_or (option_or f (cond b None (Some i))) (option_map (λ (j : ℕ). i + 1 + j) (fault_from F G l (n - 1) (nat_abs (word l at))))
  faults-on (Some k) n at h b e = refl
  faults-on None n at h true e =
      ap (option_map (λ (j : ℕ). i + j)) (fault-on F G l n at h (sym e)) ∙ one_further i (fault_from F G l (n - 1) (nat_abs (word l at)))
  faults-on None n at h false e =
      ap (option_map (λ (j : ℕ). i + j)) (fault-here F G l n at h (sym e)) ∙ ap Some (add-zero i)
