-- `relinked` meets its contract.
use mathlib.Core.Path.{sym, ◌∙◌, subst}
use Prim.Native.Nat.{ℕ, ◌+◌, ◌*◌, ◌-◌, ◌/◌, ◌^◌, ◌≤◌, ◌<◌}
use native.Mathlib.Nat.{lt_of_le_of_lt}
use native.Mathlib.Omega.{arith}
use lib.Dec.{T}
use lib.IntN.{ℤ, pos, negsuc, nat_abs}
use lib.Signed.{non_neg}
use mir.Syntax.{w64}
use mir.Val.{SFits, to_z, of_z}
use mir.Facts.{to_z-of_z, to_z_pos}
use Rattle.channel.specs.Layout.{channels, effects, header_size, record_size}
use Rattle.effects.proofs.Linking.{link_start, relink-at, record_less, link_less}
use Rattle.effects.proofs.relinked.Goals as goal
use Rattle.effects.proofs.relinked.Goals.{Else-z-eq0, After-record_size}

starts : (c : Else-z-eq0) → T (non_neg c.args.z) × (header_size ≤ nat_abs c.args.z)
starts c = link_start c.args.d c.args.z c.ranges.z c.requires c.if-z-eq0.false

-- the matching index is no greater
less : (c : After-record_size) → header_size + (nat_abs (to_z w64 (of_z w64 c.args.z)) - header_size) / c.record_size-size.result * c.record_size.result < 2 ^ 63
less c =
    let d = c.args.d in
    let bound : nat_abs c.args.z < 2 ^ 63 = small c.args.z c.ranges.z (starts c.before.before).0 in
    subst (λ (n : ℕ). n < 2 ^ 63) (sym (λ i. header_size + (nat_abs (to_z-of_z c.ranges.z i) - header_size) / c.record_size-size.ensures i * c.record_size.ensures i))
    (lt_of_le_of_lt (link_less (nat_abs c.args.z) (record_size (channels d)) (record_size (effects d)) (record_less c.requires.dim) (starts c.before.before).1) bound)
  where
    small : (z : ℤ) → SFits w64 z → T (non_neg z) → nat_abs z < 2 ^ 63
    small (pos a) f t = f.sfits
    small (negsuc a) f t = absurd t

pub overflow_mul-to : goal.overflow_mul-to
overflow_mul-to c = let q = less c in omega arith

pub overflow_add-to : goal.overflow_add-to
overflow_add-to c = let q = less c in omega arith

pub overflow_cast-result : goal.overflow_cast-result
overflow_cast-result c = record { sfits = less c }

pub returns : goal.returns
returns c =
    to_z_pos w64 (less c)
    ∙ (λ i. pos (header_size + (nat_abs (to_z-of_z c.ranges.z i) - header_size) / c.record_size-size.ensures i * c.record_size.ensures i))
    ∙ sym (relink-at c.args.d c.args.z (starts c.before.before).1)
