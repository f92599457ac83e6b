-- A program run operation by operation: what holds of the buffer after i operations, what the next one may ask, and what it leaves.
use mathlib.Core.Path.{◌≡◌, refl, sym, ap, ap₂, ◌∙◌, subst}
use mathlib.Core.Logic.{◌⊎◌, inl, inr, ⊎_elim}
use mathlib.Core.List.{List, [], ◌∷◌, ◌++◌, map, foldl-append}
use Prim.Native.Nat.{ℕ, zero, suc, ◌+◌, ◌*◌, ◌-◌, ◌/◌, ◌%◌, ◌^◌, ◌≤◌, ◌<◌}
use native.Mathlib.Nat.{mul-le-mul, le_refl, le_of_eq, zero-add, div-lt_iff_lt-mul, mod-lt}
use native.Mathlib.Numerals.{add-one}
use native.Mathlib.Omega.{arith}
use lib.Arith.{digits_lt}
use lib.Dec.{eqb}
use lib.Pow.{pow_mono, pow_pos}
use lib.ListN.{length, get_or, take, drop, length-map, get_or-map, get_or-append}
use lib.Seq.{sets, take-suc, length-sets}
use lib.IntN.{ℤ, pos}
use Rattle.algebra.specs.Lists.{All, total}
use Rattle.algebra.specs.Sum.{times}
use Rattle.algebra.specs.Words.{blocks, from_bits}
use Rattle.algebra.proofs.Lists.{all_get_d}
use Rattle.algebra.proofs.Totals.{sub_whole, sub_take, sub_total}
use Rattle.algebra.proofs.Sum.{times-same}
use Rattle.algebra.proofs.Blocks.{Writing, wrote, kept, long, sets_at}
use Rattle.algebra.proofs.Squares.{row_lt, column_lt}
use Rattle.exact.specs.Exact.{exact}
use Rattle.exact.proofs.Exact.{exacts}
use Rattle.rows.proofs.Held.{words_same}
use Rattle.gate.specs.Gate.{Gate, gate_at, gates_of, gate_size}
use Rattle.gate.specs.Embedding.{Matrix}
use Rattle.gate.proofs.Bits.{Word}
use Rattle.gate.proofs.Listed.{gates-length, gates-at}
use Rattle.kraus.specs.Dense.{cell}
use Rattle.kraus.specs.Branch.{Store, Branch, apply, start, write}
use Rattle.kraus.proofs.Counting.{marked-bits}
use Rattle.kraus.proofs.Limits.{Kraus, Enough, kraus_exponent}
use Rattle.store.specs.Inner.Held.{Bits}
use Rattle.branches.specs.Inner.Store.{store_words, outcome_pair}
use Rattle.branches.specs.Inner.Bank.{branch_size, branch_words, bank_words, identity_branch, Holds}
use Rattle.branches.specs.Inner.Step as step
use Rattle.branches.specs.Inner.Step.{row_sum, step_words}
use Rattle.branches.proofs.Runs.{in_bank, ends_within}
use Rattle.branches.proofs.Banks.{length-branch, length-bank, held_blocks, bank_held, bank_factors, bank-low, bank_high, store_at, table_words}
use Rattle.branches.proofs.Stores.{store-written}
use Rattle.branches.proofs.Steps.{length-product}
use Rattle.pauli_nodes.specs.Nodes.{Node, axis_matrix}
use Rattle.pauli_nodes.specs.Operations.{Operation, axis, bits, splits}
use Rattle.pauli_nodes.specs.Inner.Masks.{Mask, mask_matrix, ref_mask, node_mask}
use Rattle.pauli_nodes.specs.Inner.Laws.{InRange}
use Rattle.pauli_nodes.proofs.Nodes.{axes_are_masks, masks_in-range}
use Rattle.pauli_words.specs.Words.{operation_of, operations_of}
use Rattle.pauli_words.proofs.Forms.{one_bit}
use Rattle.pauli_program.specs.Operators.{mixed}
use Rattle.pauli_program.specs.Program.{Path, operation_step, paths, program_branches}
use Rattle.pauli_program.proofs.Counting.{step-length, program_count, program_marked}
use Rattle.pauli_program.proofs.Whole.{program_enough}
use Rattle.pauli_run.specs.Inner.Operators.{chosen, coefficients_of, operator_of, shift_of, bit_of, rows_entry, place_after, stepped}
use Rattle.branches.specs.Inner.Run.{banks_size}
use Rattle.pauli_run.specs.Inner.Run.{Fits, Operating, Runs}
use Rattle.pauli_run.proofs.Forms.{own-lowest}
use Rattle.pauli_run.proofs.Axes.{partner_lt, sum_is}
use Rattle.pauli_run.proofs.Paths.{Told, run_told, step-branch}

-- ---- the store that an operation leaves
stored : (σ : Store) → Bits σ → (bs : List ℕ) → length bs ≤ 1 → (v : ℕ) → All (λ (b : ℕ). b < length σ) bs → length σ ≤ 64
    → outcome_pair (get_or bs 0 64) v (pos (from_bits (take 32 σ))) (pos (from_bits (drop 32 σ))) ≡ store_words (write bs v σ)
stored σ ok [] one v h few = refl
stored σ ok (b ∷ []) one v h few = store-written σ ok b v few h.0
stored σ ok (b ∷ c ∷ bs) one v h few = absurd (omega arith)

-- ---- the buffer after i operations: their branches at `from`
pub record Running (l₀ : List ℤ) (ws : List ℕ) (σ : Store) (n d banks : ℕ) (nodes : List Node) (l : List ℤ) (from count made i : ℕ) : Type 0 where
  pub below : i ≤ length ws / gate_size
  pub making : made ≡ total splits (take i (operations_of ws))
  pub counted : count ≡ length (program_branches n nodes σ (take i (operations_of ws)))
  pub held : Holds l from (bank_words d (program_branches n nodes σ (take i (operations_of ws))))
  pub place : (from ≡ 0) ⊎ (from ≡ banks * branch_size d)
  pub same_length : length l ≡ length l₀
  pub past : (k : ℕ) → banks_size d banks ≤ k → get_or l k (pos 0) ≡ get_or l₀ k (pos 0)

-- there is room for a branch
pub first_fits : {l : List ℤ} {ws : List ℕ} {ms : List Mask} {σ : Store} {n d banks : ℕ} {nodes : List Node} → Runs l ws ms σ n d banks nodes → branch_size d ≤ banks_size d banks
first_fits {ws = ws} {d = d} {banks = banks} r = omega (arith, mul-le-mul one-bank (le_refl (branch_size d)))
  where
    one-bank : 1 ≤ banks
    one-bank = omega (arith, r.banked, pow_pos (total splits (operations_of ws)))

module _ {l₀ : List ℤ} {ws : List ℕ} {ms : List Mask} {σ : Store} {n banks : ℕ} {nodes : List Node} (r : Runs l₀ ws ms σ n (2 ^ n) banks nodes) where
  abbrev d : ℕ
  d = 2 ^ n

  abbrev size : ℕ
  size = branch_size d

  abbrev bank : ℕ
  bank = banks * size

  abbrev os : List Operation
  os = operations_of ws

  abbrev beginning : List Path
  beginning = map (λ (b : Branch). record { branch = b; outcomes = [] }) (start n σ)

  abbrev paths_at : ℕ → List Path
  paths_at i = paths n nodes σ (take i (operations_of ws))

  abbrev after : ℕ → List Branch
  after i = program_branches n nodes σ (take i (operations_of ws))

  count_le : (i : ℕ) → length (after i) ≤ banks
  count_le i = omega (arith, program_count n nodes σ (take i os), r.banked, pow_mono {i = total splits (take i os)} {j = total splits os} (sub_total splits (sub_take i (sub_whole os))))

  bank_le : (i : ℕ) → length (after i) * size ≤ bank
  bank_le i = mul-le-mul (count_le i) (le_refl size)

  -- the branch that all starts from
  module _ (l : List ℤ) (e : l₀ ≡ sets l 0 (branch_words (2 ^ n) (identity_branch (2 ^ n) σ))) where
    abbrev first : List ℤ
    first = branch_words d (identity_branch d σ)

    same-room : length l₀ ≡ length l
    same-room = ap length e ∙ length-sets l 0 first

    first-room : size ≤ length l
    first-room = omega (arith, first_fits r, r.room, same-room)

    pub running_begin : Running l₀ ws σ n (2 ^ n) banks nodes l₀ 0 1 0 0
    running_begin = record {
      below = omega arith;
      making = refl;
      counted = refl;
      held = record {
        room = omega (arith, same-room, length-bank d (start n σ), first-room);
        word = λ k h.
            let p : k < length first = omega (arith, length-bank d (start n σ), length-branch d (identity_branch d σ)) in
            ap (λ (m : List ℤ). get_or m (0 + k) (pos 0)) e ∙ sets_at first l 0 k (pos 0) p (omega (arith, length-branch d (identity_branch d σ), first-room)) ∙ sym (get_or-append first [] (pos 0) k p);
      };
      place = inl refl;
      same_length = refl;
      past = λ k h. refl;
    }

  -- ---- operation i
  module _ {l : List ℤ} {from count made i : ℕ} (w : Running l₀ ws σ n (2 ^ n) banks nodes l from count made i) (h : i < length ws / gate_size) where
    abbrev g : Gate
    g = gate_at ws (i * gate_size)

    abbrev o : Operation
    o = operation_of g

    abbrev ops : ℕ
    ops = 2 ^ splits (operation_of (gate_at ws (i * gate_size)))

    abbrev bs : List Branch
    bs = after i

    listed : i < length os
    listed = omega (arith, length-map (gates_of ws) operation_of, gates-length ws 0 (length ws / gate_size))

    abbrev none : Operation
    none = operation_of (gate_at ws 0)

    operation_is : get_or os i none ≡ o
    operation_is = get_or-map operation_of (gates_of ws) i (gate_at ws 0) ∙ ap operation_of (gates-at ws 0 (length ws / gate_size) i (gate_at ws 0) h ∙ ap (λ (j : ℕ). gate_at ws (j * gate_size)) (zero-add i))

    fits : Fits ms made o
    fits = subst (λ (k : ℕ). Fits ms k o) (sym w.making) (r.fits i h)

    -- the axis
    abbrev A : Matrix
    A = axis_matrix n nodes (axis (operation_of (gate_at ws (i * gate_size))))

    abbrev m : Mask
    m = ref_mask ms (axis (operation_of (gate_at ws (i * gate_size))))

    range : InRange n m
    range = subst (InRange n) (sym (r.masks i h))
        (let b = masks_in-range n r.sound.few nodes r.sound.placed (axis o).node in record { x_in = b.x_in; z_in = b.z_in; turns_in = mod-lt ((axis o).turns + (node_mask n nodes (axis o).node).turns) (omega arith) })

    masked : (p q : ℕ) → p < d → q < d → A p q ≡ mask_matrix m p q
    masked p q hp hq = axes_are_masks n r.sound.few nodes r.sound.placed (axis o) p q hp hq ∙ ap (λ (m : Mask). mask_matrix m p q) (sym (r.masks i h))

    next : paths_at (i + 1) ≡ operation_step n nodes (paths_at i) o
    next =
        ap (λ (k : ℕ). paths_at k) (add-one i)
        ∙ ap (paths n nodes σ) (take-suc os i none listed)
        ∙ foldl-append (operation_step n nodes) beginning (take i os) (get_or os i none ∷ [])
        ∙ ap (operation_step n nodes (paths_at i)) operation_is

    next-length : length (after (i + 1)) ≡ length bs * ops
    next-length =
        length-map (paths_at (i + 1)) (λ (p : Path). p.branch) ∙ ap length next ∙ step-length n nodes o (paths_at i) ∙ ap (λ (k : ℕ). k * ops) (sym (length-map (paths_at i) (λ (p : Path). p.branch)))

    next_made : made + splits o ≡ total splits (take (i + 1) os)
    next_made =
        ap (λ (k : ℕ). k + splits o) w.making
        ∙ ap (λ (x : Operation). total splits (take i os) + splits x) (sym operation_is)
        ∙ sym (ap (λ (k : ℕ). total splits (take k os)) (add-one i) ∙ ap (total splits) (take-suc os i none listed) ∙ total_append (take i os) (get_or os i none))
      where
        total_append : (xs : List Operation) (x : Operation) → total splits (xs ++ (x ∷ [])) ≡ total splits xs + splits x
        total_append [] x = omega arith
        total_append (y ∷ xs) x = omega (arith, total_append xs x)

    count-size : count * size ≤ bank
    count-size = omega (arith, bank_le i, ap (λ (k : ℕ). k * size) w.counted)

    next-count : count * ops ≡ length (after (i + 1))
    next-count = ap (λ (k : ℕ). k * ops) w.counted ∙ sym next-length

    next-size : count * ops * size ≤ bank
    next-size = omega (arith, bank_le (i + 1), ap (λ (k : ℕ). k * size) next-count)

    room : 2 * bank ≤ length l
    room = omega (arith, r.room, w.same_length)

    words : All (λ (b : Branch). Word (length σ) b.store) bs
    words = marked-bits _ (take i os) σ r.bytes bs (program_marked n nodes σ (take i os) r.bytes)

    -- read past the end of a list
    abbrev z : Path
    z = record { branch = identity_branch (2 ^ n) σ; outcomes = [] }

    abbrev zb : Branch
    zb = identity_branch (2 ^ n) σ

    enough : Enough kraus_exponent n bs
    enough = program_enough r.sound r.light σ i

    kraus : (j : ℕ) → j < length bs → (q : ℕ) → q < d * d → Kraus kraus_exponent (get_or (get_or bs j zb).matrix q exact.𝟘)
    kraus j hj = all_get_d (λ (b : Branch). (q : ℕ) → q < d * d → Kraus kraus_exponent (get_or b.matrix q exact.𝟘)) bs enough.entries j hj zb

    pub running_ready : Operating l ms (operation_of (gate_at ws (i * gate_size))) made from (banks * branch_size (2 ^ n) - from) (2 ^ n) count
    running_ready = record {
      fits = fits;
      dim = pow_mono {i = n} {j = 5} r.sound.few;
      below = partner_lt n r.sound.few m range A masked;
      from_room = omega (arith, ends_within w.place count-size, room);
      to_room = omega (arith, next-size, room);
      from_apart = ⊎_elim (λ e. inl (omega (arith, count-size))) (λ e. inr (omega (arith, next-size))) w.place;
      factors = λ b hb. let p : b < length bs = omega (arith, w.counted) in bank_factors d bs w.held zb b p (kraus b p) (omega arith);
      stores = λ b hb. let p : b < length bs = omega (arith, w.counted) in
          let (e, t) = all_get_d (λ (b : Branch). Word (length σ) b.store) bs words b p zb in
          store_at d bs w.held zb b p t (omega (arith, e, r.short));
    }

    -- ---- the words of product j
    told : Told n nodes z made (paths_at i)
    told = subst (λ (q : ℕ). Told n nodes z q (paths_at i)) (zero-add (total splits (take i os)) ∙ sym w.making) (run_told n nodes z (take i os) beginning 0 begun)
      where
        begun : Told n nodes z 0 beginning
        begun zero l = refl
        begun (suc j) l = absurd (omega arith)

    row-sums : (b : ℕ) → b < length bs → (v p q : ℕ) → p < d → q < d → row_sum l m.x (rows_entry m o v) (from + b * size) d p q ≡ times exact d (mixed (coefficients_of o v) A) (cell exact d (get_or bs b zb).matrix) p q
    row-sums b hb v p q hp hq =
        sum_is n r.sound.few m range A masked (coefficients_of o v) (own-lowest o v) l (from + b * size) p q hp
        ∙ times-same exacts d (mixed (coefficients_of o v) A) (mixed (coefficients_of o v) A) (step.entry_at l (from + b * size) d) (cell exact d (get_or bs b zb).matrix) p q
        (λ k hk. refl) (λ k hk. bank_held d bs w.held zb b hb (kraus b hb) (k * d + q) (digits_lt hk hq))

    step_words_lem : (j : ℕ) → j < length bs * ops → step_words l m.x (rows_entry m o) (chosen (shift_of made o)) ops from d (bit_of o) j ≡ branch_words d (get_or (after (i + 1)) j zb)
    step_words_lem j hj =
        let v = chosen (shift_of made o) j in
        let b = j / ops in
        let hb : j / ops < length bs = (div-lt_iff_lt-mul (pow_pos (splits o))).1 hj in
        let x = get_or bs (j / ops) zb in
        let (e, t) = all_get_d (λ (b : Branch). Word (length σ) b.store) bs words (j / ops) hb zb in
        (λ u. (words_same (d * d) _ _ (λ q hq. row-sums b hb v (q / d) (q % d) (row_lt q d hq) (column_lt q d hq)) ∙ table_words d (times exact d (mixed (coefficients_of o v) A) (cell exact d x.matrix))) u
        ++ (ap₂ (outcome_pair (bit_of o) v) (bank-low d bs w.held zb b hb) (bank_high d bs w.held zb b hb)
        ∙ stored x.store t (bits o) (one_bit g) v (subst (λ (q : ℕ). All (λ (b : ℕ). b < q) (bits o)) (sym e) (r.placed i h)) (omega (arith, e, r.short))) u)
        ∙ ap (branch_words d) (sym (made_by j hj))
      where
        made_by : (j : ℕ) → j < length bs * ops → get_or (after (i + 1)) j zb ≡ apply n (get_or bs (j / ops) zb) (operator_of n nodes o (chosen (shift_of made o) j))
        made_by j hj =
            get_or-map (λ (p : Path). p.branch) (paths_at (i + 1)) j z
            ∙ ap (λ (ps : List Path). (get_or ps j z).branch) next
            ∙ step-branch n nodes z o (paths_at i) made told fits.outcome j (omega (arith, hj, ap (λ (q : ℕ). q * ops) (length-map (paths_at i) (λ (p : Path). p.branch))))
            ∙ ap (λ (b : Branch). apply n b (operator_of n nodes o (chosen (shift_of made o) j))) (sym (get_or-map (λ (p : Path). p.branch) (paths_at i) (j / ops) z))

    -- the products lie in one of the banks
    pub running_more : {q : List ℤ} {c s at : ℕ} → c ≡ count * 2 ^ splits (operation_of (gate_at ws (i * gate_size))) → s ≡ made + splits (operation_of (gate_at ws (i * gate_size)))
        → at ≡ place_after (operation_of (gate_at ws (i * gate_size))) from (banks * branch_size (2 ^ n) - from)
        → q ≡ stepped l (2 ^ n) (ref_mask ms (axis (operation_of (gate_at ws (i * gate_size))))) made from at count (operation_of (gate_at ws (i * gate_size)))
        → Running l₀ ws σ n (2 ^ n) banks nodes q at c s (i + 1)
    running_more {q} {at = at} p f a e = record {
      below = omega arith;
      making = f ∙ next_made;
      counted = p ∙ next-count;
      held = held_blocks l at d words_of zb (after (i + 1)) (e ∙ ap (λ (x : ℕ). blocks size l at x words_of) next-count) word-length
          (omega (arith, at_room, room, ap (λ (x : ℕ). x * size) next-count)) (λ j hj. step_words_lem j (omega (arith, next-length)));
      place = place;
      same_length = long after-step ∙ w.same_length;
      past = λ x hx. (kept after-step x 1 (inr (omega (arith, at_room, hx)))).word x (omega arith) (omega arith) ∙ w.past x hx;
    }
      where
        place : (at ≡ 0) ⊎ (at ≡ bank)
        place = in_bank (eqb (splits o) 0) a w.place

        at_room : at + count * ops * size ≤ 2 * bank
        at_room = ends_within place next-size

        words_of : ℕ → List ℤ
        words_of = step_words l m.x (rows_entry m o) (chosen (shift_of made o)) ops from d (bit_of o)

        word-length : (j : ℕ) → length (words_of j) ≤ size
        word-length j = le_of_eq (length-product l m.x (rows_entry m o (chosen (shift_of made o) j)) _ d (bit_of o) (chosen (shift_of made o) j))

        after-step : Writing size l at (count * ops) words_of q (count * ops)
        after-step = wrote word-length e
