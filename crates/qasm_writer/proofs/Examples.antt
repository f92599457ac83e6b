-- All examples hold, by computation.
use mathlib.Core.Path.{refl}
use Rattle.text.specs.Decimal.{digits}
use Rattle.qasm_writer.specs.Examples.{Examples}

pub examples : Examples
unfolding digits
examples = refl
