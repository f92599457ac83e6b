-- By the kind of the operation.
use Rattle.std.specs.Prelude.{Option, Some, None, unwrap_or, option_to_list}
use mathlib.Core.Path.{◌≡◌, refl, sym, ap, ◌∙◌, subst, fun_ext}
use Prim.Native.Nat.{ℕ, ◌%◌}
use native.Mathlib.Nat.{div-one}
use native.Mathlib.Omega.{arith}
use lib.ListN.{get_or}
use Rattle.branches.specs.Inner.Store.{no_bit}
use Rattle.branches.proofs.Steps.{bit_is}
use Rattle.pauli_nodes.specs.Inner.Masks.{ref_mask}
use Rattle.pauli_words.specs.Inner.Code.{operation_in}
use Rattle.pauli_program.specs.Claims.{Eighths}
use Rattle.pauli_run.specs.Inner.Operators.{chosen}
use Rattle.pauli_run.proofs.Forms.{operating_in_place, operating_splits, operating_done}
use Rattle.pauli_run.proofs.run.step_operation.Goals as goal

pub turn-requires : goal.turn-requires
turn-requires c =
    let m = c.from-axis.ensures ∙ c.referred.ensures ∙ ap (ref_mask c.args.masks.now) c.axis.ensures in
    let is = ap operation_in c.in-Rotate.is in
    record {
      eighths = subst Eighths is c.requires.fits.eighths;
      shift = tt;
      step = operating_in_place c.requires m is (λ v. refl);
    }

pub returns-in-Rotate-clause-words : goal.returns-in-Rotate-clause-words
returns-in-Rotate-clause-words c =
    let m = c.from-axis.ensures ∙ c.referred.ensures ∙ ap (ref_mask c.args.masks.now) c.axis.ensures in
    operating_done c.requires m (ap operation_in c.in-Rotate.is) (λ v. refl) refl (omega arith) refl (bit_is 0) refl c.turn.ensures

pub turn-requires-in-RotateIf : goal.turn-requires-in-RotateIf
turn-requires-in-RotateIf c =
    let m = c.from-axis.ensures ∙ c.referred.ensures ∙ ap (ref_mask c.args.masks.now) c.axis.ensures in
    let is = ap operation_in c.in-RotateIf.is in
    record {
      eighths = subst Eighths is c.requires.fits.eighths;
      shift = omega (arith, c.requires.fits.few);
      step = operating_in_place c.requires m is (λ v. refl);
    }

pub returns-in-RotateIf-clause-words : goal.returns-in-RotateIf-clause-words
returns-in-RotateIf-clause-words c =
    let m = c.from-axis.ensures ∙ c.referred.ensures ∙ ap (ref_mask c.args.masks.now) c.axis.ensures in
    operating_done c.requires m (ap operation_in c.in-RotateIf.is) (λ v. refl) refl (omega arith) refl (bit_is _) refl c.turn-in-RotateIf.ensures

pub measure-requires : goal.measure-requires
measure-requires c =
    let m = c.from-axis.ensures ∙ c.referred.ensures ∙ ap (ref_mask c.args.masks.now) c.axis.ensures in
    operating_splits c.requires m (ap operation_in c.in-Measure.is) (λ v. refl) refl

last_bit : (λ (j : ℕ). j % 2) ≡ chosen 0
last_bit = fun_ext (λ j. ap (λ (k : ℕ). k % 2) (sym (div-one j)))

bit_told : (b : Option ℕ) → unwrap_or b no_bit ≡ get_or (option_to_list b) 0 no_bit
bit_told None = refl
bit_told (Some b) = refl

pub returns-in-Measure-clause-words : goal.returns-in-Measure-clause-words
returns-in-Measure-clause-words c =
    let m = c.from-axis.ensures ∙ c.referred.ensures ∙ ap (ref_mask c.args.masks.now) c.axis.ensures in
    operating_done c.requires m (ap operation_in c.in-Measure.is) (λ v. refl) refl refl refl last_bit (bit_told c.in-Measure.bit) c.measure.ensures.words
