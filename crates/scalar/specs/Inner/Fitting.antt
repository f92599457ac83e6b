-- What `checked` answers.
use Rattle.std.specs.Prelude.{cond, Ok, Err}
use Rattle.verdict.specs.declared.Refusal.TheVariants.{TooLarge}
use Rattle.exact.specs.Exact.{in_range}
use Rattle.scalar.specs.declared.Scalar.{Scalar}
use Rattle.scalar.specs.Calls.{Answer, value}

-- 9, unless the struct's number is in range
abbrev pub fitting_scalar : Scalar → Answer
fitting_scalar s = cond (in_range (value s)) (Ok s) (Err TooLarge)
