-- `read_number` meets its contract.
use mathlib.Core.Path.{sym, ap, ◌∙◌, subst}
use Prim.Native.Nat.{ℕ, ◌<◌}
use Rattle.algebra.specs.Quadratic.{conjugate}
use Rattle.exact.specs.Exact.{Number, root2, number_of, list_of, max_numerator}
use Rattle.exact.specs.Inner.Sizes.{Within}
use Rattle.exact.proofs.Align.{roomy}
use Rattle.channel.proofs.Kept.{mirrored, in_range_lem}
use Rattle.recast.proofs.read_number.Goals as goal

pub conj4-requires : goal.conj4-requires
conj4-requires c =
    let m = c.args.b.now in
    roomy _ (subst (Within max_numerator) (sym (ap number_of c.kept.ensures)) (in_range_lem m.form m.words.now 0 c.args.b.now.right c.args.c c.args.r c.requires.1 c.requires.0))

pub returns-then-c-first_column : goal.returns-then-c-first_column
returns-then-c-first_column c =
    let m = c.args.b.now in
    c.conj4.ensures ∙ ap (λ (z : Number). list_of (conjugate root2 z)) (ap number_of c.kept.ensures)
    ∙ ap list_of (mirrored m.form m.words.now 0 c.args.r c.args.c c.requires.0 c.requires.1 (subst (λ (k : ℕ). c.args.c < k) c.first_column.ensures c.if-c-first_column.true))
