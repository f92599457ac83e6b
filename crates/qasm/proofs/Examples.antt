-- All examples hold, by computation.
use mathlib.Core.Path.{refl}
use Rattle.text.specs.Decimal.{value, is_number, digits}
use Rattle.qasm.specs.Tokens.{run, tokens}
use Rattle.qasm.specs.Examples.{Examples}

pub examples : Examples
unfolding value is_number digits run tokens
examples = refl
