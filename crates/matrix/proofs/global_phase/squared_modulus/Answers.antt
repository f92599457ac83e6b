-- `matrix::global_phase::squared_modulus` meets its contract.
use Rattle.std.specs.Prelude.{IsOk}
use mathlib.Core.Path.{refl, sym, ap, ◌∙◌, subst}
use Rattle.scalar.specs.declared.Scalar.{Scalar}
use Rattle.scalar.specs.Calls.{Answer, value, scalar_of}
use Rattle.matrix.specs.Phase.{◌·◌}
use Rattle.matrix.specs.Inner.Operands.{Operand}
use Rattle.matrix.proofs.Operands.{conj_operand, conj_value, conj_is}
use Rattle.matrix.proofs.global_phase.squared_modulus.Goals as goal

pub unwrap-requires : goal.unwrap-requires
unwrap-requires c = subst (λ (r : Answer). IsOk r) (sym (c.conj.ensures ∙ conj_value c.requires)) refl

pub times-requires : goal.times-requires
times-requires c = (c.requires, subst (λ (y : Scalar). Operand (value y)) (sym (conj_is c.args.x c.requires c.conj.ensures c.unwrap.ensures)) (conj_operand c.requires))

pub returns : goal.returns
returns c = c.times.ensures ∙ ap (λ (y : Scalar). scalar_of (value c.args.x · value y)) (conj_is c.args.x c.requires c.conj.ensures c.unwrap.ensures)
