-- The demands on Pauli programs: 1 and 2, a type each, as they stand for circuits. The third speaks of circuits alone.
-- A call has n qubits, m classical bits, the initial store σ, the limits l, the words ns of the listed nodes and os of the operations, the result r and the work buffer w.
use Rattle.std.specs.Prelude.{◌≡◌, true, false, List, ◌∷◌, ◌++◌, ℕ, ◌*◌, ◌^◌, ◌≤◌, ◌<◌, length, get_or, take, drop, replicate, ℤ, pos, Err}
use Rattle.algebra.specs.Lists.{All, every}
use Rattle.algebra.specs.Sum.{list_sum, times, δ}
use Rattle.exact.specs.Exact as scalar
use Rattle.exact.specs.Exact.{exact, conj, narrow}
use Rattle.gate.specs.Embedding.{Equal, adjoint}
use Rattle.kraus.specs.Dense.{cell}
use Rattle.kraus.specs.Branch.{Store, Branch}
use Rattle.kraus.specs.Blocks.{survivors, block}
use Rattle.verdict.specs.Questions.{Question, first_no}
use Rattle.verdict.specs.Verdict.{Numbered}
use Rattle.circuit.specs.declared.limits.Limits.{Limits}
use Rattle.channel.specs.Layout.{side}
use Rattle.pauli_words.specs.Words.{nodes_of, operations_of}
use Rattle.pauli_program.specs.Program.{program_branches}
use Rattle.pauli.specs.Delivered.{program_words}
use Rattle.pauli.specs.Call.{worked, asked, verdict_of, accepts, result_after, work_after}
use Rattle.demands.specs.Demands.{IsChannel}

module _ (n m : ℕ) (σ : List ℕ) (l : Limits) (ns os : List ℕ) (r w : List ℤ) where
  -- the branches after the first k operations
  abbrev pub branches_after : ℕ → List Branch
  branches_after k = program_branches n (nodes_of ns) σ (take k (operations_of os))

  -- ---- demand 1: refused by the first question that fails, with both buffers untouched; accepted every other program, and its whole channel delivered
  -- of an accepted call: the whole channel stands in the result, and the words after it are as they were; the work words are zero, and those after them as they were;
  -- after every k operations Σ K†K = I over the branches, and each entry of each Kraus matrix is narrow; each entry of each block is in range
  pub record ProgramDelivers : Type 0 where
    pub room : length (program_words n m σ (nodes_of ns) (operations_of os)) ≤ length r
    pub result : result_after n m σ l ns os r w ≡ program_words n m σ (nodes_of ns) (operations_of os) ++ drop (length (program_words n m σ (nodes_of ns) (operations_of os))) r
    pub work_room : worked n m os ≤ length w
    pub work : work_after n m σ l ns os r w ≡ replicate (worked n m os) (pos 0) ++ drop (worked n m os) w
    pub complete : (k : ℕ) → Equal (2 ^ n) (λ (r c : ℕ). list_sum exact (λ (b : Branch). let K = cell exact (2 ^ n) b.matrix in times exact (2 ^ n) (adjoint conj K) K r c) (branches_after k)) (δ exact)
    pub matrices : (k : ℕ) → All (λ (b : Branch). (i : ℕ) → i < 2 ^ n * 2 ^ n → narrow (get_or b.matrix i exact.𝟘) ≡ true) (branches_after k)
    pub blocks : (τ : Store) (i j : ℕ) → i < side (2 ^ n) → j < side (2 ^ n) → scalar.well_formed (block (survivors (program_branches n (nodes_of ns) σ (operations_of os))) τ i j) ≡ true

  -- the first question that is answered by no decides; accepted is what answers each by yes, and nothing else; its number is 0, and no refusal's is
  pub record ProgramJudges : Type 0 where
    pub verdict : verdict_of n m σ l ns os r w ≡ first_no (asked n m σ l ns os r w)
    pub number : Numbered (verdict_of n m σ l ns os r w)
    pub refusal : (xs ys : List Question) (q : Question) → asked n m σ l ns os r w ≡ xs ++ (q ∷ ys) → every (λ (p : Question). p.answer) xs ≡ true → q.answer ≡ false
        → verdict_of n m σ l ns os r w ≡ Err q.refusal
    pub acceptance : accepts n m σ l ns os r w ≡ every (λ (q : Question). q.answer) (asked n m σ l ns os r w)
    pub refused : accepts n m σ l ns os r w ≡ false → (result_after n m σ l ns os r w ≡ r) × (work_after n m σ l ns os r w ≡ w)
    pub accepted : accepts n m σ l ns os r w ≡ true → ProgramDelivers

abbrev pub ProgramDemand1 : Type 0
ProgramDemand1 = (n m : ℕ) (σ : List ℕ) (l : Limits) (ns os : List ℕ) (r w : List ℤ) → ProgramJudges n m σ l ns os r w

-- ---- demand 2: the channel delivered is that of the definitions, whatever the result held
abbrev pub ProgramDemand2 : Type 0
ProgramDemand2 = (n m : ℕ) (σ : List ℕ) (l : Limits) (ns os : List ℕ) (r w : List ℤ) → accepts n m σ l ns os r w ≡ true
    → IsChannel n m (survivors (program_branches n (nodes_of ns) σ (operations_of os))) (result_after n m σ l ns os r w)
