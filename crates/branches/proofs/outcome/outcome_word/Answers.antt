-- `outcome_word` meets its contract.
use mathlib.Core.Path.{◌≡◌, sym, ap, ◌∙◌}
use mathlib.Core.Bool.{true}
use Prim.Native.Nat.{ℕ, ◌-◌, ◌≤◌, ◌<◌, ◌^◌}
use native.Mathlib.Omega.{arith}
use lib.IntN.{ℤ, pos, nat_abs}
use mir.Syntax.{w64}
use mir.Val.{to_z, of_z}
use mir.Facts.{to_z_pos}
use Rattle.std.specs.Prelude.{Option, unwrap_or}
use Rattle.algebra.specs.Words.{up_to}
use Rattle.algebra.proofs.Signed.{back, word_is}
use Rattle.store.specs.Store.{max_word}
use Rattle.branches.specs.Inner.Store.{no_bit, with_bit, outcome_word}
use Rattle.branches.proofs.Stores.{outcome_in, with_bit_below}
use Rattle.branches.proofs.outcome.outcome_word.Goals as goal

-- the word is a number below 2^32
module _ (w : ℤ) (h : up_to max_word w ≡ true) where
  same : to_z w64 (of_z w64 w) ≡ w
  same = back w (omega (arith, (word_is max_word w h).1))

  wide : (k v : ℕ) {x : ℕ} → x ≡ with_bit (nat_abs (to_z w64 (of_z w64 w))) k v → k ≤ 31 → v ≤ 1 → x < 2 ^ 33
  wide k v e small bit = omega (arith, e, with_bit_below (nat_abs (to_z w64 (of_z w64 w))) k v (omega (arith, ap nat_abs same, (word_is max_word w h).1)) (omega arith) bit)

pub overflow_cast-result : goal.overflow_cast-result
overflow_cast-result c = omega (arith, wide c.args.w c.requires.0 (c.in-Some.b - c.args.first) c.args.v c.with_bit-x.ensures c.if-k-gt31.false c.requires.1.0)

pub returns : goal.returns
returns c =
    let a = c.args in
    let b = c.in-Some.b in
    to_z_pos w64 (omega (arith, wide a.w c.requires.0 (b - a.first) a.v c.with_bit-x.ensures c.if-k-gt31.false c.requires.1.0)) ∙ ap pos c.with_bit-x.ensures
    ∙ ap (λ (z : ℤ). pos (with_bit (nat_abs z) (b - a.first) a.v)) (same a.w c.requires.0)
    ∙ sym (outcome_in a.first b a.v a.w c.if-b-first.false c.if-k-gt31.false)
    ∙ ap (λ (o : Option ℕ). outcome_word a.first (unwrap_or o no_bit) a.v a.w) (sym c.in-Some.is)
