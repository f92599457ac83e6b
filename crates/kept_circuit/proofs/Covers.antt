-- The test that the counts cover a gate, by its parts.
use mathlib.Core.Path.{◌≡◌, refl, sym, ap, ◌∙◌}
use mathlib.Core.Bool.{Bool, true, false, cond, ◌&&◌}
use mathlib.Core.List.{List, [], ◌∷◌}
use Prim.Native.Nat.{ℕ}
use lib.Dec.{eqb, leb}
use lib.IntN.{ℤ}
use Rattle.algebra.specs.Lists.{every}
use Rattle.algebra.proofs.Tests.{and_split}
use Rattle.gate.specs.Gate.{Gate, measure, bits, weight, splits}
use Rattle.kept_circuit.specs.Kept.{weight_place, splits_place, count_at}
use Rattle.kept_circuit.specs.Edits.{covers_bit, covers}

and-true : (a : Bool) → a ≡ (a && true)
and-true true = refl
and-true false = refl

-- a test of the bits of a gate
module _ (p : ℕ → Bool) (g : Gate) where
  pub every-bit : eqb g.kind measure ≡ true → p g.b ≡ every p (bits g)
  every-bit e = and-true (p g.b) ∙ ap (λ (c : Bool). every p (cond c (g.b ∷ []) [])) (sym e)

  pub every-none : eqb g.kind measure ≡ false → true ≡ every p (bits g)
  every-none e = ap (λ (c : Bool). every p (cond c (g.b ∷ []) [])) (sym e)

module _ (l : List ℤ) (g : Gate) where
  -- weight, measures and resets
  abbrev pub both : Bool
  both = leb (weight g) (count_at l weight_place) && leb (splits g) (count_at l splits_place)

  pub covers-yes : {t : Bool} → both ≡ true → t ≡ every (covers_bit l) (bits g) → t ≡ covers l g
  covers-yes e f =
      let (p, q) = and_split (leb (weight g) (count_at l weight_place)) (leb (splits g) (count_at l splits_place)) e in
      λ i. sym p i && (sym q i && f i)
