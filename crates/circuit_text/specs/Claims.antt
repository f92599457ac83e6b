-- Texts that are an input, and texts that are none.
use Rattle.std.specs.Prelude.{◌≡◌, List, [], ◌∷◌, ℕ, Option, Some, None}
use Rattle.algebra.specs.Lists.{All}
use Rattle.circuit_text.specs.declared.input.Circuit.{Circuit}
use Rattle.text.specs.Ascii.{ascii}
use Rattle.circuit_text.specs.Input.{input_of}

pub record Row : Type 0 where
  pub text : List ℕ
  pub answer : Option Circuit

abbrev pub given : List ℕ → ℕ → ℕ → ℕ → Row
given t n m g = record { text = t; answer = Some (record { qubits = n; bits = m; gates = g }) }

abbrev pub refused : List ℕ → Row
refused t = record { text = t; answer = None }

abbrev pub rows : List Row
rows =
    given (ascii "1 1 0 2 0 0 0 0 0 12 0 0 0 0") 1 1 2
    ∷ given (ascii "0 0 0") 0 0 0
    ∷ given (ascii "0\n0\n0\n") 0 0 0
    ∷ given (ascii "4294967295 1 255 0") 4294967295 1 0
    ∷ given (ascii "0000000001 0 0") 1 0 0
    ∷ refused []
    ∷ refused (ascii "\n")
    ∷ refused (ascii "0 0")
    ∷ refused (ascii "0 0 0 0")
    ∷ refused (ascii "0 0 0\n\n")
    ∷ refused (ascii "0 0 0 ")
    ∷ refused (ascii " 0 0 0")
    ∷ refused (ascii "0  0 0")
    ∷ refused (ascii "0\t0 0")
    ∷ refused (ascii "-1 0 0")
    ∷ refused (ascii "00000000001 0 0")
    ∷ refused (ascii "4294967296 0 0")
    ∷ refused (ascii "0 1 256 0")
    ∷ []

abbrev pub Answers : Type 0
Answers = All (λ (r : Row). input_of r.text ≡ r.answer) rows
