-- `is_store` meets its contract.
use mathlib.Core.Path.{◌≡◌, refl, sym, ap, ◌∙◌}
use mathlib.Core.Bool.{Bool, ◌&&◌}
use mathlib.Core.List.{List, [], ◌∷◌}
use Prim.Native.Nat.{ℕ}
use lib.Dec.{leb}
use lib.ListN.{length}
use borrow.Author.Tests.{eq-eqb}
use Rattle.std.proofs.Common.{rules}
use Rattle.std.specs.List.{list_all}
use Rattle.std.proofs.lemmas.Iterator.{YieldsList-from_slice}
use Rattle.std.proofs.lemmas.Iterator.Search.{all_from_yields_List}
use Rattle.algebra.specs.Lists.{every}
use Rattle.store.proofs.is_store.Goals as goal

abbrev good : ℕ → Bool
good b = leb b 1

every_is : (l : List ℕ) → list_all good l ≡ every good l
every_is [] = refl
every_is (b ∷ l) = ap (λ (t : Bool). good b && t) (every_is l)

pub returns-then-store-bits : goal.returns-then-store-bits
returns-then-store-bits c =
    let l = c.args.store.now in
    all_from_yields_List good _ _ _ c.all.ensures.ran (YieldsList-from_slice l cc) (λ x b q k. search rules)
    ∙ every_is l
    ∙ sym (ap (λ (t : Bool). t && every good l) (eq-eqb (length l) c.args.bits c.if-store-bits.true))
