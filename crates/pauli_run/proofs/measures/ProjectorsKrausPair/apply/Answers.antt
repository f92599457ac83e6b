-- `Projectors::apply` meets its contract.
use mathlib.Core.Path.{◌≡◌, sym, ap, ◌∙◌, subst}
use Prim.Native.Nat.{ℕ, ◌*◌, ◌/◌, ◌%◌}
use native.Mathlib.Omega.{arith}
use lib.Seq.{sets}
use Rattle.std.proofs.Common.{rules}
use Rattle.gate.specs.Inner.Rows.{Form, entry_in}
use Rattle.rows.specs.Inner.Rows.{held_words}
use Rattle.branches.specs.Inner.Step.{Applying, operator_in, row_sum}
use Rattle.branches.proofs.Numerators.{exponent_read}
use Rattle.branches.proofs.Applied.{applied_shared}
use Rattle.pauli_steps.specs.Inner.Rows.{rows_of}
use Rattle.pauli_run.proofs.measures.ProjectorsKrausPair.apply.Goals as goal
use Rattle.pauli_run.proofs.measures.ProjectorsKrausPair.apply.Goals.{then-v-eq0, else-v-eq0}

pub apply_rows-requires : goal.apply_rows-requires
apply_rows-requires c =
    let a = c.args in
    let p = a.self.now in
    let e : rows_of c.if-v-eq0.rows.now ≡ operator_in (rows_of p.first) (rows_of p.second) a.v = elim c.if-v-eq0.branch [ then-v-eq0 t ↦ search rules | else-v-eq0 t ↦ search rules ] in
    subst (λ (R : Form). Applying a.work.now p.flips R a.old a.new a.d) (sym e) c.requires

pub returns : goal.returns
returns c =
    let a = c.args in
    let p = a.self.now in
    let e : rows_of c.if-v-eq0.rows.now ≡ operator_in (rows_of p.first) (rows_of p.second) a.v = elim c.if-v-eq0.branch [ then-v-eq0 t ↦ search rules | else-v-eq0 t ↦ search rules ] in
    applied_shared a.work.now p.flips (rows_of c.if-v-eq0.rows.now) a.old a.new a.d (omega (arith, c.requires.new_room)) c.apply_rows.ensures (exponent_read c.requires.turning.factors) c.share_matrix.ensures
    ∙ ap (λ (R : Form). sets a.work.now a.new (held_words (a.d * a.d) (λ (i : ℕ). row_sum a.work.now p.flips (entry_in R) a.old a.d (i / a.d) (i % a.d)))) e
