-- The three demands, a type each. A call has n qubits, m classical bits, the initial store σ, the limits l, the gates' words ws,
-- the result r and the work buffer w.
use Rattle.std.specs.Prelude.{◌≡◌, ◌≢◌, Bool, true, false, ℕ, ◌+◌, ◌*◌, ◌%◌, ◌^◌, ◌≤◌, ◌<◌, eqb, length, get_or, take, drop, replicate, ℤ, pos, Ok, Err, is_ok}
use mathlib.Core.List.{List, [], ◌∷◌, ◌++◌, map, foldl}
use Rattle.algebra.specs.Lists.{All, every, some}
use Rattle.algebra.specs.Sum.{δ}
use Rattle.algebra.specs.Schedule.{Schedule}
use Rattle.algebra.specs.Words.{from_bits}
use Rattle.exact.specs.Exact as scalar
use Rattle.exact.specs.Exact.{Exact, exact, conj, narrow}
use Rattle.gate.specs.Gate.{gate, gate_size, gates_of, elem, share}
use Rattle.kraus.specs.Branch.{Store, Branch, branches}
use Rattle.kraus.specs.Blocks.{survivors, stores, block, povm}
use Rattle.verdict.specs.Questions.{Question, first_no, decided_by}
use Rattle.verdict.specs.Verdict.{Numbered}
use Rattle.circuit.specs.declared.limits.Limits.{Limits}
use Rattle.compare.specs.declared.Comparison.TheVariants.{Same}
use Rattle.store.specs.Store.{bits}
use Rattle.channel.specs.Layout.{Block, effects, side, effect_of, dim_at, bits_at, count_at, read_back_in, read_back}
use Rattle.channel.specs.WellFormed.{well_formed, has_zero_block}
use Rattle.compare.specs.Compare.{compare_of}
use Rattle.effects.specs.Effects.{effects_verdict, result_of, povm_of}
use Rattle.judge.specs.Delivered.{circuit_words}
use Rattle.judge.specs.Call.{worked, asked, verdict_of, accepts, result_after, work_after}

-- ---- demand 1: refused by the first question that fails, with both buffers untouched; accepted every other circuit, and its whole channel delivered
module _ (n m : ℕ) (σ : List ℕ) (l : Limits) (ws : List ℕ) (r w : List ℤ) where
  -- of an accepted call: the whole channel stands in the result, and the words after it are as they were; the work words are zero, and those after them as they were;
  -- no number grows too large: after every k gates each entry of each Kraus matrix is narrow, and each entry of each block is in range
  pub record Delivers : Type 0 where
    pub room : length (circuit_words n m σ (gates_of ws)) ≤ length r
    pub result : result_after n m σ l ws r w ≡ circuit_words n m σ (gates_of ws) ++ drop (length (circuit_words n m σ (gates_of ws))) r
    pub work_room : worked n m ws ≤ length w
    pub work : work_after n m σ l ws r w ≡ replicate (worked n m ws) (pos 0) ++ drop (worked n m ws) w
    pub matrices : (k : ℕ) → All (λ (b : Branch). (i : ℕ) → i < 2 ^ n * 2 ^ n → narrow (get_or b.matrix i exact.𝟘) ≡ true) (branches n σ (take k (gates_of ws)))
    pub blocks : (τ : Store) (i j : ℕ) → i < side (2 ^ n) → j < side (2 ^ n) → scalar.well_formed (block (survivors (branches n σ (gates_of ws))) τ i j) ≡ true

  -- the first question that is answered by no decides; accepted is what answers each by yes, and nothing else; its number is 0, and no refusal's is
  pub record Judges : Type 0 where
    pub verdict : verdict_of n m σ l ws r w ≡ first_no (asked n m σ l ws r w)
    pub number : Numbered (verdict_of n m σ l ws r w)
    pub refusal : (xs ys : List Question) (q : Question) → asked n m σ l ws r w ≡ xs ++ (q ∷ ys) → every (λ (p : Question). p.answer) xs ≡ true → q.answer ≡ false → verdict_of n m σ l ws r w ≡ Err q.refusal
    pub acceptance : accepts n m σ l ws r w ≡ every (λ (q : Question). q.answer) (asked n m σ l ws r w)
    pub refused : accepts n m σ l ws r w ≡ false → (result_after n m σ l ws r w ≡ r) × (work_after n m σ l ws r w ≡ w)
    pub accepted : accepts n m σ l ws r w ≡ true → Delivers

abbrev pub Demand1 : Type 0
Demand1 = (n m : ℕ) (σ : List ℕ) (l : Limits) (ws : List ℕ) (r w : List ℤ) → Judges n m σ l ws r w

-- ---- demand 2: the channel delivered is that of the definitions, whatever the result held
-- e are words of effects of the channel l, as they are read back: its stores along the chain, and for each store τ the entry (r, c) that x τ r c is
pub record AreEffects (n m : ℕ) (l e : List ℤ) (x : Store → ℕ → ℕ → Exact) : Type 0 where
  pub dim : dim_at e ≡ 2 ^ n
  pub bit_count : bits_at e ≡ m
  pub stores : map (λ (a : Block). a.store) (read_back_in (effects (2 ^ n)) e) ≡ map (λ (a : Block). a.store) (read_back l)
  pub entries : All (λ (a : Block). (r c : ℕ) → r < 2 ^ n → c < 2 ^ n → a.entry (r * 2 ^ n + c) ≡ x (bits m a.store) r c) (read_back_in (effects (2 ^ n)) e)

-- of the result of an accepted call; bs are the surviving branches. The stores along the chain are theirs, each with its block, which is Hermitian and not zero;
-- the effects add up to the identity; what povm_effects leaves where it accepts is each store's Σ K†K, and what classical_blocks leaves its transpose
pub record IsChannel (n m : ℕ) (bs : List Branch) (l : List ℤ) : Type 0 where
  pub formed : well_formed l ≡ true
  pub full : has_zero_block l ≡ false
  pub dim : dim_at l ≡ 2 ^ n
  pub bit_count : bits_at l ≡ m
  pub count : count_at l ≡ length (stores bs)
  pub nonempty : 1 ≤ count_at l
  pub listed : (s : ℕ) → some (λ (a : Block). eqb a.store s) (read_back l) ≡ some (λ (b : Branch). eqb (from_bits b.store) s) bs
  pub entries : All (λ (a : Block). (i j : ℕ) → i < side (2 ^ n) → j < side (2 ^ n) → a.entry (i * side (2 ^ n) + j) ≡ block bs (bits m a.store) i j) (read_back l)
  pub hermitian : All (λ (a : Block). (i j : ℕ) → i < side (2 ^ n) → j < side (2 ^ n) → a.entry (i * side (2 ^ n) + j) ≡ conj (a.entry (j * side (2 ^ n) + i))) (read_back l)
  pub effects : (r c : ℕ) → r < 2 ^ n → c < 2 ^ n → foldl (λ (x : Exact) (a : Block). exact.◌⊕◌ x (effect_of (2 ^ n) a.entry r c)) exact.𝟘 (read_back l) ≡ δ exact r c
  pub textbook : (res : List ℤ) → is_ok (effects_verdict l res) ≡ true → AreEffects n m l (povm_of l res) (λ (τ : Store) (r c : ℕ). povm (2 ^ n) bs τ r c)
  pub transposed : (res : List ℤ) → is_ok (effects_verdict l res) ≡ true → AreEffects n m l (result_of l res) (λ (τ : Store) (r c : ℕ). povm (2 ^ n) bs τ c r)

abbrev pub Demand2 : Type 0
Demand2 = (n m : ℕ) (σ : List ℕ) (l : Limits) (ws : List ℕ) (r w : List ℤ) → accepts n m σ l ws r w ≡ true
    → IsChannel n m (survivors (branches n σ (gates_of ws))) (result_after n m σ l ws r w)

-- ---- demand 3: schedules
-- vs has the gates of ws in another order, by a table from new places to old ones: gates that share a qubit or a bit keep their order.
-- A list that fails question 2 has only itself.
pub data ScheduleOf (ws vs table : List ℕ) : Type 0 where
  itself : length ws % gate_size ≢ 0 → vs ≡ ws → ScheduleOf ws vs table
  reordered : length ws % gate_size ≡ 0 → length vs % gate_size ≡ 0 → Schedule share (gate 0 0 0 0 0) (gates_of ws) (gates_of vs) table → ScheduleOf ws vs table

-- questions 4 to 6 are those of the gates
abbrev pub of_gates : ℕ → Bool
of_gates k = elem k (4 ∷ 5 ∷ 6 ∷ [])

abbrev pub no_block : Block
no_block = record { store = 0; entry = λ (k : ℕ). exact.𝟘 }

-- two channels, record places and chain indices apart: the same stores and entries along the chain, and the same for compare, whichever is on the left
pub record SameChannel (l r : List ℤ) : Type 0 where
  pub count : count_at l ≡ count_at r
  pub stores : map (λ (b : Block). b.store) (read_back l) ≡ map (λ (b : Block). b.store) (read_back r)
  pub entries : (j row col : ℕ) → row < side (dim_at l) → col < side (dim_at l)
      → (get_or (read_back l) j no_block).entry (row * side (dim_at l) + col) ≡ (get_or (read_back r) j no_block).entry (row * side (dim_at l) + col)
  pub compared : compare_of l r ≡ Ok Same
  pub compared_back : compare_of r l ≡ Ok Same

-- a circuit with the buffers r and w, and a schedule of it with the buffers s and x
module _ (n m : ℕ) (σ : List ℕ) (l : Limits) (ws vs : List ℕ) (r w s x : List ℤ) where
  -- a question of the gates, 4 to 6, decides for both or for neither; any other refusal is the same
  pub record Alike : Type 0 where
    pub acceptance : accepts n m σ l vs s x ≡ accepts n m σ l ws r w
    pub gates : of_gates (decided_by (asked n m σ l vs s x)) ≡ of_gates (decided_by (asked n m σ l ws r w))
    pub refusal : of_gates (decided_by (asked n m σ l ws r w)) ≡ false → verdict_of n m σ l vs s x ≡ verdict_of n m σ l ws r w
    pub channels : accepts n m σ l ws r w ≡ true → SameChannel (result_after n m σ l ws r w) (result_after n m σ l vs s x)

-- for every circuit, sound or faulty, and every schedule of it, whatever buffers of the same lengths held
abbrev pub Demand3 : Type 0
Demand3 = (n m : ℕ) (σ : List ℕ) (l : Limits) (ws vs table : List ℕ) → ScheduleOf ws vs table
    → (r w s x : List ℤ) → length s ≡ length r → length x ≡ length w → Alike n m σ l ws vs r w s x
