-- Words made by start and by accepted edits are those of a gate list: the edits keep that, 25 never occurs, and the verdict is that of counting afresh.
use Rattle.std.specs.Prelude.{◌≡◌, ◌≢◌, true, List, [], ◌∷◌, ◌++◌, ℕ, ◌≤◌, length, ℤ, is_ok, Ok}
use Rattle.verdict.specs.Verdict.{verdict_number}
use Rattle.verdict.specs.Questions.{first_no}
use Rattle.gate.specs.declared.judge.Asking.TheVariants.{Channel}
use Rattle.gate.specs.Gate.{Gate, gates_of}
use Rattle.circuit.specs.declared.limits.Limits.{Limits}
use Rattle.circuit.specs.Questions.{gates_questions, channel_verdict}
use Rattle.kept_circuit.specs.Kept.{max_qubits, max_bits, max_gates, kept_words}
use Rattle.kept_circuit.specs.Edits.{start_verdict, started, append_verdict, appended, remove_verdict, removed, replace_verdict, replaced}
use Rattle.kept_verdict.specs.Questions.{kept_verdict, copied, copy_verdict}

-- the words l are those of the gates gs, on n qubits and m bits; what is not used is zero
pub record Keeps (n m : ℕ) (gs : List Gate) (l : List ℤ) : Type 0 where
  pub few_qubits : n ≤ max_qubits
  pub few_bits : m ≤ max_bits
  pub few_gates : length gs ≤ max_gates
  pub passed : is_ok (first_no (gates_questions (Channel m) n 0 gs)) ≡ true
  pub spare : ℕ
  pub words : l ≡ kept_words n m gs spare

-- start makes such words, of no gate
abbrev pub Starts : Type 0
Starts = (n m : ℕ) (l : List ℤ) → is_ok (start_verdict n m l) ≡ true → Keeps n m [] (started n m l)

-- and with such words:
module _ (n m : ℕ) (gs : List Gate) (l : List ℤ) where
  pub record Edits : Type 0 where
    -- what is accepted keeps them: a gate more at the end, the last one less, one in the place of another
    pub append : (g : Gate) → is_ok (append_verdict l g) ≡ true → Keeps n m (gs ++ (g ∷ [])) (appended l g)
    pub remove : (hs : List Gate) (g : Gate) → gs ≡ hs ++ (g ∷ []) → (remove_verdict l ≡ (Ok tt)) × Keeps n m hs (removed l)
    pub replace : (xs ys : List Gate) (g h : Gate) → gs ≡ xs ++ (g ∷ ys) → is_ok (replace_verdict l (length xs) h) ≡ true → Keeps n m (xs ++ (h ∷ ys)) (replaced l (length xs) h)
    -- 25 never occurs
    pub append_sound : (g : Gate) → verdict_number (append_verdict l g) ≢ 25
    pub remove_sound : verdict_number (remove_verdict l) ≢ 25
    pub replace_sound : (i : ℕ) (g : Gate) → verdict_number (replace_verdict l i g) ≢ 25
    pub copy_sound : (out : List ℕ) → verdict_number (copy_verdict l out) ≢ 25
    -- the gates that are copied out are those of the list, and the verdict is the one of counting them afresh
    pub copy : gates_of (copied l) ≡ gs
    pub verdict : (σ : List ℕ) (lim : Limits) (result work : ℕ) → kept_verdict l σ lim result work ≡ channel_verdict n m σ lim (copied l) result work

abbrev pub KeptCounts : Type 0
KeptCounts = (n m : ℕ) (gs : List Gate) (l : List ℤ) → Keeps n m gs l → Edits n m gs l
