-- The side of a block is small, and a record has words.
use Rattle.std.proofs.Common.{◌<◌, ◌+◌, ℕ, sym, ◌∙◌, arith}
use mathlib.Core.Path.{subst}
use mathlib.Core.Path.{◌≡◌}
use mathlib.Core.Bool.{true}
use lib.IntN.{ℤ, nat_abs}
use Rattle.algebra.specs.Words.{up_to}
use mir.Syntax.{w64}
use mir.Val.{to_z, of_z}
use Rattle.algebra.proofs.Tests.{and_split}
use Rattle.algebra.proofs.Signed.{word_is, cast_ok}
use Rattle.channel.specs.Layout.{record_head, word}
use Rattle.channel.proofs.Words.{dim_range, square_small}
use Rattle.channel.proofs.well_formed.header.Goals as goal

abbrev first : goal.Else-not-is_dim-up_to → ℤ
first c = to_z w64 (of_z w64 (word c.args.s.now 0))

dims : (c : goal.Else-not-is_dim-up_to) → up_to 16 (first c) ≡ true
dims c = (dim_range (first c) (sym c.is_dim.ensures ∙ (and_split c.is_dim.result c.up_to.result c.if-not-is_dim-up_to.false).0)).0

pub overflow_cast-d : goal.overflow_cast-d
overflow_cast-d c = cast_ok 16 (first c) (dims c) (record { fits = omega arith })

pub new-requires : goal.new-requires
new-requires c = square_small (nat_abs (first c)) (word_is 16 (first c) (dims c)).1

pub overflow_mul-d : goal.overflow_mul-d
overflow_mul-d c = let h = square_small (nat_abs (first c)) (word_is 16 (first c) (dims c)).1 in record { fits = omega arith }

pub overflow_cast-result : goal.overflow_cast-result
overflow_cast-result c = cast_ok 64 (to_z w64 (of_z w64 (word c.args.s.now 1))) (sym c.up_to.ensures ∙ (and_split c.is_dim.result c.up_to.result c.if-not-is_dim-up_to.false).1) (record { fits = omega arith })

more : (n : ℕ) → 0 < record_head + n
more n = omega arith

pub nonzero_div-most : goal.nonzero_div-most
nonzero_div-most c = subst (λ (n : ℕ). 0 < n) (sym c.record_size.ensures) (more _)
