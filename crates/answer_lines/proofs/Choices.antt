-- A text that is written or left out, by a number that is 0 or not.
use mathlib.Core.Path.{◌≡◌, sym, ap}
use mathlib.Core.Bool.{Bool, cond}
use mathlib.Core.List.{List}
use Prim.Native.Nat.{ℕ}
use lib.Dec.{eqb}
use borrow.Author.Tests.{eq-eqb, ne_eqb}
use Rattle.text.specs.declared.page.Writer.{Writer}
use Rattle.text.specs.Inner.Puts.{Puts}
use Rattle.text.proofs.Put.{text}

module _ {p q : Writer} (n : ℕ) where
  pub if_zero : {xs : List ℕ} (ys : List ℕ) → n ≡ 0 → Puts p xs q → Puts p (cond (eqb n 0) xs ys) q
  if_zero {xs} ys e w = text (ap (λ (b : Bool). cond b xs ys) (sym (eq-eqb n 0 e))) w

  pub if_some : (xs : List ℕ) {ys : List ℕ} → (n ≡ 0 → ⊥) → Puts p ys q → Puts p (cond (eqb n 0) xs ys) q
  if_some xs {ys} e w = text (ap (λ (b : Bool). cond b xs ys) (sym (ne_eqb n 0 e))) w
