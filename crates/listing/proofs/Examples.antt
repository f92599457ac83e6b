-- All examples hold, by computation.
use mathlib.Core.Path.{refl}
use Rattle.algebra.specs.Words.{blocks, joined}
use Rattle.store.specs.Store.{before}
use Rattle.channel.specs.WellFormed.{well_formed, well_formed_in, chain_ok}
use Rattle.answers.specs.States.{store_bits}
use Rattle.listing.specs.Listing.{entry_lines}
use Rattle.text.specs.Decimal.{value, is_number, digits}
use Rattle.circuit_text.specs.Text.{body_length, pieces}
use Rattle.circuit_text.specs.Input.{is_input, is_input_text}
use Rattle.listing.specs.Examples.{Examples}

pub examples : Examples
unfolding blocks joined before well_formed well_formed_in chain_ok digits store_bits entry_lines body_length pieces value is_number is_input is_input_text
examples = refl
