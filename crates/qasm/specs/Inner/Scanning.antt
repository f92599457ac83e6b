-- A text read from the left, from a position on.
use Rattle.std.specs.Prelude.{cond, List, [], ◌∷◌, ℕ, suc, drop, Option, Some, None}
use Rattle.qasm.specs.declared.tokens.Part.{Part}
use Rattle.qasm.specs.declared.tokens.Part.TheVariants.{Gap, Bytes}
use Rattle.qasm.specs.Tokens.{is_gap, more, Token, tokens}

abbrev pub from : List ℕ → ℕ → List Token
from t at = tokens at 0 (drop at t)

-- the gap or the token at the front, and how many bytes it has
abbrev pub first_part : List ℕ → Option Part
first_part [] = None
first_part (b ∷ bs) = Some (cond (is_gap b bs) (Gap (suc (more b bs))) (Bytes (suc (more b bs))))
