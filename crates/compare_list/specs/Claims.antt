-- What is claimed of a call of compare_list.
use Rattle.std.specs.Prelude.{◌≡◌, List, ℕ, ◌≤◌, length, ℤ, IfOk}
use Rattle.circuit.specs.declared.limits.Limits.{Limits}
use Rattle.compare_list.specs.Call.{reply_of, answers_of}

-- no more is spent than is allowed
abbrev pub NeverAbove : Type 0
NeverAbove = (count : ℕ) (ws bs : List ℕ) (l : Limits) (n : ℕ) (r s w : List ℤ) (o : List ℕ) (z : List ℤ) → IfOk (reply_of count ws bs l n r s w o z) (λ spent. spent ≤ n)

-- what the buffers held changes neither the reply nor an answer: their lengths alone count
pub record SameLengths (r s w r' s' w' : List ℤ) (o o' : List ℕ) (z z' : List ℤ) : Type 0 where
  pub left : length r ≡ length r'
  pub right : length s ≡ length s'
  pub work : length w ≡ length w'
  pub answers : length o ≡ length o'
  pub scalars : length z ≡ length z'

abbrev pub ByLengths : Type 0
ByLengths = (count : ℕ) (ws bs : List ℕ) (l : Limits) (n : ℕ) (r s w r' s' w' : List ℤ) (o o' : List ℕ) (z z' : List ℤ) → SameLengths r s w r' s' w' o o' z z'
    → (reply_of count ws bs l n r s w o z ≡ reply_of count ws bs l n r' s' w' o' z') × (answers_of count ws bs l n r s w o z ≡ answers_of count ws bs l n r' s' w' o' z')
