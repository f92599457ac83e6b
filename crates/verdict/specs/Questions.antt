-- Questions in order: the first that is answered by no decides.
use Rattle.std.specs.Prelude.{Bool, cond, List, [], ◌∷◌, ℕ, Result, Ok, Err, ⊤}
use Rattle.verdict.specs.declared.Refusal.{Refusal}

-- the answer of a call that hands nothing back
abbrev pub Verdict : Type 0
Verdict = Result ⊤ Refusal

pub record Question : Type 0 where
  -- document 01's number of it
  pub number : ℕ
  pub answer : Bool
  -- the refusal where the answer is no
  pub refusal : Refusal

abbrev pub question : ℕ → Bool → Refusal → Question
question k b r = record { number = k; answer = b; refusal = r }

-- what f says of the first question that is answered by no, and z where every answer is yes
abbrev pub first_by : {A : Type 0} → (Question → A) → A → List Question → A
first_by f z [] = z
first_by f z (q ∷ qs) = cond q.answer (first_by f z qs) (f q)

-- x where every answer is yes, else the refusal of the first no
abbrev pub granted : {A : Type 0} → A → List Question → Result A Refusal
granted x = first_by (λ (q : Question). Err q.refusal) (Ok x)

abbrev pub first_no : List Question → Verdict
first_no = granted tt

-- its number
abbrev pub decided_by : List Question → ℕ
decided_by = first_by (λ (q : Question). q.number) 0
