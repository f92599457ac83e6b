-- `scale_by` meets its contract.
use mathlib.Core.Path.{◌≡◌}
use Rattle.std.proofs.Common.{rules}
use Rattle.exact.specs.Exact.{numbers, number_of}
use Rattle.rows.proofs.Rows.{times_one}
use Rattle.rows.proofs.scale_by.Goals as goal

pub returns-in-1 : goal.returns-in-1
returns-in-1 c =
    let a = c.args in
    let one : number_of a.x ≡ numbers.𝟙 = search rules in
    times_one a.buf.now (number_of a.x) a.p a.d one
