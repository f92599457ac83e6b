-- Words copied into a part of others.
use mathlib.Core.Path.{◌≡◌, sym, ap, ◌∙◌}
use mathlib.Core.List.{List, ◌++◌}
use Rattle.std.proofs.Common.{append_assoc}
use Prim.Native.Nat.{ℕ, ◌+◌, ◌-◌, ◌≤◌}
use native.Mathlib.Omega.{arith}
use lib.ListN.{length, take, drop}
use lib.Seq.{sets, sets-eq}
use borrow.Rule.Slice.PartMut.{put_mid, Post-is}

pub copied_here : {A : Type 0} (xs ys vs : List A) (a e : ℕ) → ys ≡ vs → e ≡ a + length vs → e ≤ length xs → put_mid a (e - a) xs ys ≡ sets xs a vs
copied_here {A = A} xs ys vs a e p q h =
    ap (λ (z : List A). take a xs ++ (ys ++ z)) (Post-is a e xs (omega arith))
    ∙ (λ i. take a xs ++ (p i ++ drop (q i) xs)) ∙ sym (append_assoc (take a xs) vs (drop (a + length vs) xs)) ∙ sym (sets-eq vs xs a (omega arith))
