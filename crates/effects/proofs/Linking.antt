-- Indices of the effects' records that match those of the channel's chain.
use mathlib.Core.Path.{◌≡◌, sym, ap, subst}
use mathlib.Core.Bool.{Bool, cond}
use Prim.Native.Nat.{ℕ, ◌+◌, ◌*◌, ◌-◌, ◌/◌, ◌≤◌}
use native.Mathlib.Nat.{mul-le-mul, le_refl, div-add-mod'}
use native.Mathlib.Omega.{arith}
use lib.IntN.{ℤ, pos, nat_abs}
use lib.Dec.{T}
use lib.Signed.{non_neg}
use mir.Syntax.{w64}
use mir.Val.{SFits, of_z}
use borrow.Author.Tests.{ne_eqb}
use Rattle.channel.specs.Layout.{channels, effects, header_size, record_size, record_at}
use Rattle.channel.specs.Recast.{relink}
use Rattle.effects.specs.Inner.Readable.{Dim, Linked}

pub link_start : (d : ℕ) (z : ℤ) → SFits w64 z → Linked d z → (of_z w64 z ≡ 0 → ⊥) → T (non_neg z) × (header_size ≤ nat_abs z)
link_start d z f k n = (subst (λ (y : ℤ). T (non_neg y)) (sym k.index) tt, k.from (λ e. n (ap (of_z w64) e)))

pub relink-at : (d : ℕ) (z : ℤ) → header_size ≤ nat_abs z → relink (channels d) (effects d) z ≡ pos (record_at (effects d) ((nat_abs z - header_size) / record_size (channels d)))
relink-at d z h = ap (λ (b : Bool). pos (cond b 0 (record_at (effects d) ((nat_abs z - header_size) / record_size (channels d))))) (ne_eqb (nat_abs z) 0 (λ e. omega arith))

-- an effect's record is no longer than the block's
pub record_less : {d : ℕ} → Dim d → record_size (effects d) ≤ record_size (channels d)
record_less {d} m = let p : d ≤ d * d = by d m.some in let q = mul-le-mul p p in omega arith
  where
    by : (d : ℕ) → 1 ≤ d → d ≤ d * d
    by d h = let q : 1 * d ≤ d * d = mul-le-mul h (le_refl d) in omega arith

-- the index of an effect's record is no greater than the one that it matches
pub link_less : (a s t : ℕ) → t ≤ s → header_size ≤ a → header_size + (a - header_size) / s * t ≤ a
link_less a s t h k = let p = mul-le-mul (le_refl ((a - header_size) / s)) h in let q = div-add-mod' (a - header_size) s in omega arith
