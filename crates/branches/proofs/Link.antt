-- From the sizes of a circuit's numbers to what a step in words asks; and a step of a bank is the step of its branches.
use mathlib.Core.Path.{◌≡◌, refl, sym, ap, ap₂, ◌∙◌}
use mathlib.Core.Bool.{true}
use mathlib.Core.List.{List, [], ◌∷◌, ◌++◌, map}
use Prim.Native.Nat.{ℕ, zero, suc, ◌+◌, ◌*◌, ◌/◌, ◌%◌, ◌^◌, ◌≤◌, ◌<◌}
use native.Mathlib.Nat.{not-suc-le-zero, div-add-mod', div-lt_iff_lt-mul, mod-lt, le_of_eq}
use native.Mathlib.Omega.{arith}
use lib.Arith.{digits_lt}
use lib.ListN.{length, get_or, length-map}
use lib.IntN.{ℤ}
use Rattle.algebra.specs.Sum.{times}
use Rattle.algebra.specs.Lists.{All}
use Rattle.algebra.specs.Words.{blocks}
use Rattle.algebra.proofs.Lists.{all_get_d, concat_at}
use Rattle.algebra.proofs.Sum.{times-same}
use Rattle.algebra.proofs.Squares.{row_lt, column_lt}
use Rattle.exact.specs.Exact.{exact, is_lowest, narrow_exponent}
use Rattle.exact.specs.Inner.Sizes.{Coords}
use Rattle.exact.proofs.Exact.{exacts}
use Rattle.exact.proofs.Sizes.{well_lowest}
use Rattle.rows.specs.Inner.Rows.{Factors}
use Rattle.rows.proofs.Held.{words_same}
use Rattle.gate.specs.Gate.{Gate}
use Rattle.gate.specs.Operators.{Operator, operator, operators, no_unitary}
use Rattle.gate.specs.Inner.Entries.{valid, flips, row_entry}
use Rattle.gate.specs.Embed.{gate_entry}
use Rattle.gate.proofs.Bits.{Word}
use Rattle.gate.proofs.Dispatch.{valid_ready}
use Rattle.kraus.specs.Dense.{cell}
use Rattle.kraus.specs.Branch.{Branch, KrausOperator, apply, kraus_operator, operators_of, gate_step}
use Rattle.kraus.proofs.Enough.{Everywhere}
use Rattle.kraus.proofs.Counting.{step-length}
use Rattle.kraus.proofs.Limits.{Kraus, Enough, matrix_of, gate-entries}
use Rattle.store.specs.Inner.Held.{StoreAt}
use Rattle.branches.specs.Inner.Store.{outcome_pair, outcome_bit}
use Rattle.branches.specs.Inner.Bank.{matrix_size, branch_size, branch_words, bank_words, Holds}
use Rattle.branches.specs.Inner.Step as step
use Rattle.branches.specs.Inner.Step.{row_sum, product, step_words}
use Rattle.branches.specs.Inner.Run.{gate_stepped}
use Rattle.branches.proofs.Stores.{outcome-store}
use Rattle.branches.proofs.Banks.{bank_held, bank_factors, bank-low, bank_high, store_at, held_blocks, table_words}
use Rattle.branches.proofs.Products.{sum_is}
use Rattle.branches.proofs.Steps.{factor_pos, length-product}

-- ---- a step of a bank is the step of its branches; z is read past the end of a list
module _ (n m : ℕ) (g : Gate) (ok : valid n m g ≡ true) (z : Branch) (bs : List Branch) where
  abbrev o : Operator
  o = operator no_unitary 0

  abbrev os : List Operator
  os = operators g

  abbrev ops : ℕ
  ops = length (operators g)

  abbrev K : Operator → KrausOperator
  K = kraus_operator n g

  pub gate-length : length (gate_step n bs g) ≡ length bs * length (operators g)
  gate-length = step-length n (operators_of n g) bs ∙ ap (λ (k : ℕ). length bs * k) (length-map os K)

  step-at : (j : ℕ) → j < length bs * ops → get_or (gate_step n bs g) j (apply n z (K o)) ≡ apply n (get_or bs (j / ops) z) (K (get_or os (j % ops) o))
  step-at j h =
      let p = factor_pos j (length bs) ops h in
      ap (λ (k : ℕ). get_or (gate_step n bs g) k (apply n z (K o))) (sym (div-add-mod' j ops))
      ∙ concat_at (λ (b : Branch). map (apply n b) (operators_of n g)) ops (λ b. length-map (operators_of n g) (apply n b) ∙ length-map os K) bs z (apply n z (K o)) (j / ops) (j % ops)
      ((div-lt_iff_lt-mul p).1 h) (mod-lt j p)
      ∙ past (get_or bs (j / ops) z) (j % ops) os (mod-lt j p)
    where
      past : (b : Branch) (k : ℕ) (xs : List Operator) → k < length xs → get_or (map (apply n b) (map K xs)) k (apply n z (K o)) ≡ apply n b (K (get_or xs k o))
      past b k [] h = absurd (not-suc-le-zero h)
      past b zero (x ∷ xs) h = refl
      past b (suc k) (x ∷ xs) h = past b k xs (omega arith)

  -- the entries of its operators are small, and in lowest form
  pub step_entries : (v r c : ℕ) → v < length (operators g) → r < 2 ^ n → c < 2 ^ n → Coords 1 narrow_exponent (gate_entry n g v r c) × (is_lowest (gate_entry n g v r c) ≡ true)
  step_entries v r c hv hr hc =
      let k = all_get_d (λ (o : Operator). Everywhere (Kraus 1) n (matrix_of n g o)) os (gate-entries n m g ok) v hv o c hc r hr in
      (record { exponent = omega (arith, k.coords.exponent); size = k.coords.size }, well_lowest (gate_entry n g v r c) k.well_formed_lem)

  module _ {l : List ℤ} {from : ℕ} (held : Holds l from (bank_words (2 ^ n) bs)) {E : ℕ} (enough : Enough E n bs) where
    kraus : (j : ℕ) → j < length bs → (i : ℕ) → i < 2 ^ n * 2 ^ n → Kraus E (get_or (get_or bs j z).matrix i exact.𝟘)
    kraus j h = all_get_d (λ (b : Branch). (i : ℕ) → i < 2 ^ n * 2 ^ n → Kraus E (get_or b.matrix i exact.𝟘)) bs enough.entries j h z

    -- the matrices of a bank's branches are factors
    pub step_factors : E ≤ narrow_exponent → (j : ℕ) → j < length bs → Factors l (from + j * branch_size (2 ^ n)) (2 ^ n * 2 ^ n)
    step_factors small j h = bank_factors (2 ^ n) bs held z j h (kraus j h) small

    -- the product with a branch in words is that with its matrix
    product_is : (j : ℕ) → j < length bs → (v r c : ℕ) → c < 2 ^ n
        → product l n g v (from + j * branch_size (2 ^ n)) (2 ^ n) r c ≡ times exact (2 ^ n) (matrix_of n g (get_or os v o)) (cell exact (2 ^ n) (get_or bs j z).matrix) r c
    product_is j h v r c q = times-same exacts (2 ^ n) (gate_entry n g v) (gate_entry n g v) (step.entry_at l (from + j * branch_size (2 ^ n)) (2 ^ n)) (cell exact (2 ^ n) (get_or bs j z).matrix) r c
        (λ k hk. refl) (λ k hk. bank_held (2 ^ n) bs held z j h (kraus j h) (k * 2 ^ n + c) (digits_lt hk q))

    -- the sum of two rows is an entry of the product
    row-sums : n ≤ 5 → (j : ℕ) → j < length bs → (v r c : ℕ) → v < ops → r < 2 ^ n → c < 2 ^ n
        → row_sum l (flips n g) (row_entry n g v) (from + j * branch_size (2 ^ n)) (2 ^ n) r c ≡ times exact (2 ^ n) (matrix_of n g (get_or os v o)) (cell exact (2 ^ n) (get_or bs j z).matrix) r c
    row-sums few j h v r c hv hr hc = sum_is (valid_ready n m g v ok hv) few refl hr l (from + j * branch_size (2 ^ n)) c ∙ product_is j h v r c hc

    module _ (words : All (λ (b : Branch). Word m b.store) bs) (few : m ≤ 64) where
      -- its stores are two words below 2^32 each
      pub step-store : (j : ℕ) → j < length bs → StoreAt l (from + j * branch_size (2 ^ n) + matrix_size (2 ^ n))
      step-store j h =
          let (e, b) = all_get_d (λ (b : Branch). Word m b.store) bs words j h z in
          store_at (2 ^ n) bs held z j h b (omega arith)

      module _ (few_qubits : n ≤ 5) where
        step_words_lem : (j : ℕ) → j < length bs * ops → step_words l (flips n g) (row_entry n g) (λ (j : ℕ). j % ops) ops from (2 ^ n) (outcome_bit g) j ≡ branch_words (2 ^ n) (get_or (gate_step n bs g) j (apply n z (K o)))
        step_words_lem j h =
            let p = factor_pos j (length bs) ops h in
            let b = (div-lt_iff_lt-mul p).1 h in
            let M = matrix_of n g (get_or os (j % ops) o) in
            let x = get_or bs (j / ops) z in
            (λ i. (words_same (2 ^ n * 2 ^ n) _ _ (λ k hk. row-sums few_qubits (j / ops) b (j % ops) (k / 2 ^ n) (k % 2 ^ n) (mod-lt j p) (row_lt k (2 ^ n) hk) (column_lt k (2 ^ n) hk))
            ∙ table_words (2 ^ n) (times exact (2 ^ n) M (cell exact (2 ^ n) x.matrix))) i
            ++ (ap₂ (outcome_pair (outcome_bit g) (j % ops)) (bank-low (2 ^ n) bs held z (j / ops) b) (bank_high (2 ^ n) bs held z (j / ops) b)
            ∙ outcome-store n m g o x.store (j % ops) ok (all_get_d (λ (b : Branch). Word m b.store) bs words (j / ops) b z) few (mod-lt j p)) i)
            ∙ ap (branch_words (2 ^ n)) (sym (step-at j h))

        pub step_held : {to : ℕ} {q : List ℤ} → q ≡ gate_stepped l n (2 ^ n) from to (length bs) g → to + length bs * length (operators g) * branch_size (2 ^ n) ≤ length l → Holds q to (bank_words (2 ^ n) (gate_step n bs g))
        step_held {to} e room =
            let f = step_words l (flips n g) (row_entry n g) (λ (j : ℕ). j % ops) ops from (2 ^ n) (outcome_bit g) in
            held_blocks l to (2 ^ n) f (apply n z (K o)) (gate_step n bs g) (e ∙ ap (λ (k : ℕ). blocks (branch_size (2 ^ n)) l to k f) (sym gate-length))
            (λ j. le_of_eq (length-product l (flips n g) (row_entry n g (j % ops)) (from + j / ops * branch_size (2 ^ n)) (2 ^ n) (outcome_bit g) (j % ops)))
            (omega (arith, ap (λ (k : ℕ). k * branch_size (2 ^ n)) gate-length)) (λ j h. step_words_lem j (omega (arith, gate-length)))
