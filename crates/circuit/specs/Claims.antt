-- Examples of circuits, with document 01's verdicts on them.
use Rattle.std.specs.Prelude.{Bool, ◌&&◌, List, [], ◌∷◌, ◌++◌, ℕ, zero, suc, ◌^◌, eqb, replicate}
use Rattle.verdict.specs.Questions.{Verdict}
use Rattle.circuit.specs.Limits.{ceilings}
use Rattle.verdict.specs.Verdict.{verdict_number, verdict_index}
use Rattle.circuit.specs.Questions.{channel_verdict}

-- the words of k gates of one kind, with words a and b
abbrev pub gates : ℕ → ℕ → ℕ → ℕ → List ℕ
gates zero kind a b = []
gates (suc k) kind a b = kind ∷ a ∷ b ∷ 0 ∷ 0 ∷ gates k kind a b

pub record Row : Type 0 where
  pub qubits : ℕ
  pub bits : ℕ
  pub words : List ℕ
  -- the verdict's number; each index here is 0
  pub number : ℕ

abbrev pub row : ℕ → ℕ → List ℕ → ℕ → Row
row n m ws number = record { qubits = n; bits = m; words = ws; number = number }

-- with a zero store, the defaults and long buffers
abbrev pub judged : Row → Verdict
judged r = channel_verdict r.qubits r.bits (replicate r.bits 0) ceilings r.words (2 ^ 30) (2 ^ 30)

abbrev pub rows : List Row
rows =
    row 5 0 [] 1  -- 5 qubits, no gates
    ∷ row 4 2 (gates 1 12 0 0 ++ gates 1 12 1 1) 1  -- two measures into two bits
    ∷ row 4 1 (gates 1 12 0 0 ++ gates 1 12 1 0) 0  -- into one bit
    ∷ row 4 1 (gates 6 12 0 0 ++ gates 5 1 0 0) 0  -- six measures into one bit and five x
    ∷ row 4 1 (gates 6 12 0 0 ++ gates 6 1 0 0) 1  -- and six x
    ∷ row 1 0 (gates 56 0 0 0) 0  -- 56 h
    ∷ row 1 0 (gates 57 0 0 0) 7  -- 57 h
    ∷ row 2 0 (gates 1 8 0 0) 3  -- cnot 0, 0
    ∷ row 1 0 (gates 7 13 0 0) 1  -- seven resets
    ∷ []

abbrev pub holds : Row → Bool
holds r = eqb (verdict_number (judged r)) r.number && eqb (verdict_index (judged r)) 0
