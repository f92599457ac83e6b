-- `forms::Form::row_start` meets its contract.
use mathlib.Core.Path.{◌≡◌, sym, ap, ◌∙◌, subst}
use mathlib.Core.Bool.{Bool, cond}
use Prim.Native.Nat.{◌+◌, ◌*◌, ◌-◌, ◌/◌, ◌≤◌}
use native.Mathlib.Omega.{arith}
use Rattle.channel.specs.Layout.{Form, half_rows, row_start}
use Rattle.channel.proofs.Places.{half_is}
use Rattle.channel.proofs.forms.Form.row_start.Goals as goal

pub returns-then-self-clause-is : goal.returns-then-self-clause-is
returns-then-self-clause-is c =
    let w = c.self.inside.side in
    let r = c.args.r in
    let h : r ≤ w = omega (arith, ap (λ (F : Form). F.side) c.self.view_is) in
    subst (λ (F : Form). r * (2 * w + 1 - r) / 2 ≡ row_start F r) c.self.view_is (half_is w r h ∙ sym (ap (λ (b : Bool). cond b (half_rows w r) (r * w)) c.if-self.true))
