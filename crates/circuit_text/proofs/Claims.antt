-- Which texts are an input, by computation.
use mathlib.Core.Path.{refl}
use Rattle.text.specs.Decimal.{value, is_number}
use Rattle.circuit_text.specs.Text.{body_length, pieces}
use Rattle.circuit_text.specs.Input.{is_input, is_input_text}
use Rattle.circuit_text.specs.Claims.{Answers}

pub answers : Answers
unfolding body_length pieces value is_number is_input is_input_text
answers = (refl, (refl, (refl, (refl, (refl, (refl, (refl, (refl, (refl, (refl, (refl, (refl, (refl, (refl, (refl, (refl, (refl, (refl, tt))))))))))))))))))
