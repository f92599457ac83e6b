-- Indices that match those of another form.
use mathlib.Core.Path.{◌≡◌, sym, ap, subst}
use Prim.Native.Nat.{◌≤◌}
use lib.Dec.{T, lit<}
use lib.IntN.{ℤ, pos, nat_abs}
use lib.Signed.{non_neg}
use mir.Syntax.{w64}
use mir.Val.{SFits, of_z}
use Rattle.algebra.proofs.Signed.{word_inj}
use Rattle.channel.specs.Layout.{Form, header_size}
use Rattle.recast.specs.Inner.Records.{Linked}

pub zero_word : (z : ℤ) → SFits w64 z → of_z w64 z ≡ 0 → z ≡ pos 0
zero_word z f e = word_inj z (pos 0) f (record { sfits = lit< tt }) e

pub link_start : {F G : Form} {z : ℤ} → Linked F G z → (of_z w64 z ≡ 0 → ⊥) → T (non_neg z) × (header_size ≤ nat_abs z)
link_start {z = z} k n = (subst (λ (y : ℤ). T (non_neg y)) (sym k.index) tt, k.start (λ e. n (ap (of_z w64) e)))
