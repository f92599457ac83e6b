-- Start gives the words of a gate list, accepted edits keep them, 25 never occurs, and the verdict is that of counting afresh.
use Rattle.std.specs.Prelude.{is_ok, Ok, Err}
use mathlib.Core.Path.{◌≡◌, refl, sym, ap, ◌∙◌, subst}
use mathlib.Core.Logic.{◌≢◌}
use mathlib.Core.Bool.{Bool, true, false, cond, not, ◌&&◌, ◌||◌, true≢false}
use mathlib.Core.List.{List, [], ◌∷◌, ◌++◌}
use Prim.Native.Nat.{ℕ, suc, ◌+◌, ◌-◌, ◌/◌, ◌%◌, ◌≤◌, ◌<◌}
use native.Mathlib.Nat.{le_trans, min-le_left, min-le_right}
use native.Mathlib.Omega.{arith}
use lib.Dec.{eqb, leb, ltb}
use lib.ListN.{length, get_or, take, drop, length-append}
use lib.Seq.{split_at, length-take-le}
use lib.IntN.{ℤ, nat_abs}
use borrow.Author.Tests.{leb-true, ltb-true, ltb-false, lt-ltb, le-leb, lt-leb, eq-eqb}
use Rattle.algebra.specs.Lists.{every, concat_map}
use Rattle.algebra.proofs.Tests.{and_split}
use Rattle.verdict.specs.Questions.{Verdict}
use Rattle.verdict.specs.declared.Refusal.TheVariants.{OverLimit, OverCeiling, MalformedAt, ShortBuffer, NoPlace, NoGate, BadCounts}
use Rattle.verdict.specs.Verdict.{verdict_number}
use Rattle.verdict.specs.Questions.{Question, first_no}
use Rattle.verdict.proofs.Questions.{all_yes, append_yes, after-yes, after_no}
use Rattle.gate.specs.declared.judge.Asking.TheVariants.{Channel}
use Rattle.gate.specs.Gate as listed
use Rattle.gate.specs.Gate.{Gate, gate_size, formed, placed, supported}
use Rattle.gate.specs.Questions.{gate_questions, three_answers}
use Rattle.gate.specs.Inner.Entries.{valid}
use Rattle.circuit.specs.declared.limits.Limits.{Limits}
use Rattle.circuit.specs.Limits.{matrix_ceilings, branch_ceilings}
use Rattle.circuit.specs.Footprint.{footprint_of}
use Rattle.circuit.specs.Questions.{gates_questions, number_questions, channel_verdict}
use Rattle.circuit.proofs.Answers.{gates-valid}
use Rattle.qasm.specs.Writing.{words}
use Rattle.qasm.proofs.Gates.{gates_back, words-length}
use Rattle.kept_circuit.specs.Kept.{max_qubits, max_bits, max_gates, head_size, kept_words, gates_of, room, sound}
use Rattle.kept_circuit.specs.Edits.{counted, put, start_verdict, ask_gate, append_verdict, appended, gate_in, takeable, take_questions, no_gate, last_of, remove_verdict, removed, replace_verdict, replaced}
use Rattle.kept_circuit.proofs.Listed.{length-kept, first_count, bits-count, gates-count, weight-count, splits-count, written_count, sound-kept, gate_in_lem, takeable-kept, appended-kept, removed-kept, replaced-kept}
use Rattle.kept_verdict.specs.Questions.{kept_footprint, kept_verdict, copy_size, copy_verdict}
use Rattle.kept_verdict.specs.Claims.{Keeps, Starts, Edits, KeptCounts}
use Rattle.kept_verdict.proofs.Copied.{copied-kept, copy_up}

-- ---- the verdicts by the answers to their questions
append_answers : (l : List ℤ) (g : Gate) {a b : Bool} → sound l ≡ a → ltb (gates_of l) (room (length l)) ≡ b
    → cond a (cond b (first_no (ask_gate l (gates_of l) g)) (Err NoPlace)) (Err BadCounts) ≡ append_verdict l g
append_answers l g p q = sym (λ i. cond (p i) (cond (q i) (first_no (ask_gate l (gates_of l) g)) (Err NoPlace)) (Err BadCounts))

module _ (l : List ℤ) (i : ℕ) where
  by : (a b c : Bool) → cond {A = Verdict} (a && (not b || c)) (cond b (Ok tt) (Err NoGate)) (Err BadCounts) ≡ cond a (cond b (cond c (Ok tt) (Err BadCounts)) (Err NoGate)) (Err BadCounts)
  by true true true = refl
  by true true false = refl
  by true false c = refl
  by false b c = refl

  outside : (b : Bool) → ltb i (gates_of l) ≡ b → leb (gates_of l) i ≡ not b
  outside true e = lt-leb (gates_of l) i (ltb-true i (gates_of l) e)
  outside false e = le-leb (gates_of l) i (ltb-false i (gates_of l) e)

  take_answers : {a b c : Bool} → sound l ≡ a → ltb i (gates_of l) ≡ b → takeable l i ≡ c
      → cond a (cond b (cond c (Ok tt) (Err BadCounts)) (Err NoGate)) (Err BadCounts) ≡ first_no (take_questions l i)
  take_answers {a} {b} {c} p q r =
      sym ((λ j. cond (p j && (outside b q j || r j)) (cond (q j) (Ok tt) (Err NoGate)) (Err BadCounts)) ∙ by a b c)

-- ---- gates that pass their questions
pub every-split : {A : Type 0} (p : A → Bool) (xs ys : List A) → every p (xs ++ ys) ≡ true → (every p xs ≡ true) × (every p ys ≡ true)
every-split p [] ys e = (refl, e)
every-split p (x ∷ xs) ys e =
    let (h, t) = and_split (p x) (every p (xs ++ ys)) e in
    let (a, b) = every-split p xs ys t in
    ((λ i. h i && a i), b)

pub every_join : {A : Type 0} (p : A → Bool) (xs ys : List A) → every p xs ≡ true → every p ys ≡ true → every p (xs ++ ys) ≡ true
every_join p [] ys e f = f
every_join p (x ∷ xs) ys e f = let (h, t) = and_split (p x) (every p xs) e in let r = every_join p xs ys t f in λ i. h i && r i

module _ (n m : ℕ) where
  passes_valid : (gs : List Gate) → is_ok (first_no (gates_questions (Channel m) n 0 gs)) ≡ every (valid n m) gs
  passes_valid gs = all_yes tt (gates_questions (Channel m) n 0 gs) ∙ gates-valid n m 0 gs

  asked-valid : (i : ℕ) (g : Gate) → is_ok (first_no (gate_questions (Channel m) n i g)) ≡ true → valid n m g ≡ true
  asked-valid i g e = go (formed g) (placed n m g) (supported g) (sym (all_yes tt (gate_questions (Channel m) n i g)) ∙ e)
    where
      go : (a b c : Bool) → (a && (b && (c && true))) ≡ true → (a && (b && c)) ≡ true
      go true true true e = refl
      go true true false e = absurd (true≢false (sym e))
      go true false c e = absurd (true≢false (sym e))
      go false b c e = absurd (true≢false (sym e))

  -- the questions of a gate give no 25
  asked-number : (i : ℕ) (g : Gate) → verdict_number (first_no (gate_questions (Channel m) n i g)) ≢ 25
  asked-number i g = go (formed g) (placed n m g) (supported g)
    where
      go : (a b c : Bool) → verdict_number (first_no (three_answers i a b c)) ≢ 25
      go true true true = λ e. omega arith
      go true true false = λ e. omega arith
      go true false c = λ e. omega arith
      go false b c = λ e. omega arith

-- ---- start
pub starts : Starts
starts n m l a =
    let ok = started_ok (leb n max_qubits && leb m max_bits) (leb head_size (length l)) refl refl a in
    let few = and_split (leb n max_qubits) (leb m max_bits) ok.0 in
    record {
      few_qubits = leb-true n max_qubits few.0;
      few_bits = leb-true m max_bits few.1;
      few_gates = omega arith;
      passed = refl;
      spare = length l - head_size;
      words = ap (λ (b : Bool). cond b (kept_words n m [] (length l - head_size)) l) a;
    }
  where
    started_ok : (b c : Bool) → (leb n max_qubits && leb m max_bits) ≡ b → leb head_size (length l) ≡ c → is_ok (start_verdict n m l) ≡ true → ((leb n max_qubits && leb m max_bits) ≡ true) × (leb head_size (length l) ≡ true)
    started_ok true true p q e = (p, q)
    started_ok true false p q e = absurd (true≢false (sym e ∙ (λ i. is_ok (cond (p i) (cond (q i) (Ok tt) (Err ShortBuffer)) (Err OverLimit)))))
    started_ok false c p q e = absurd (true≢false (sym e ∙ (λ i. is_ok (cond (p i) (cond (leb head_size (length l)) (Ok tt) (Err ShortBuffer)) (Err OverLimit)))))

-- ---- the words of the gates gs
module _ (n m : ℕ) (few_qubits : n ≤ max_qubits) (few_bits : m ≤ max_bits) where
  abbrev kept : List Gate → ℕ → List ℤ
  kept gs spare = kept_words n m gs spare

  module _ (gs : List Gate) (spare : ℕ) (few : length gs ≤ max_gates) (v : every (valid n m) gs ≡ true) where
    abbrev l : List ℤ
    l = kept gs spare

    sound-l : sound l ≡ true
    sound-l = sound-kept n m gs spare few_qubits few_bits few

    gates-l : gates_of l ≡ length gs
    gates-l = ap nat_abs (gates-count n m gs spare)

    ask_l : (i : ℕ) (g : Gate) → first_no (ask_gate l i g) ≡ first_no (gate_questions (Channel m) n i g)
    ask_l i g = λ j. first_no (gate_questions (Channel (nat_abs (bits-count n m gs spare j))) (nat_abs (first_count n m gs spare j)) i g)

    -- append
    keeps_append : (g : Gate) → is_ok (append_verdict l g) ≡ true → Keeps n m (gs ++ (g ∷ [])) (appended l g)
    keeps_append g a = go (ltb (gates_of l) (room (length l))) refl
      where
        go : (b : Bool) → ltb (gates_of l) (room (length l)) ≡ b → Keeps n m (gs ++ (g ∷ [])) (appended l g)
        go false e = absurd (true≢false (sym (ap is_ok (append_answers l g sound-l e) ∙ a)))
        go true e =
            let h : gates_of l < room (length l) = ltb-true (gates_of l) (room (length l)) e in
            let below : length gs < max_gates = omega (arith, gates-l, le_trans h (min-le_left max_gates ((length l - head_size) / gate_size))) in
            let free : length gs < (length l - head_size) / gate_size = omega (arith, gates-l, le_trans h (min-le_right max_gates ((length l - head_size) / gate_size))) in
            let split : spare ≡ gate_size + (spare - gate_size) = omega (arith, free, length-kept n m gs spare) in
            let w = asked-valid n m (gates_of l) g (sym (ap is_ok (ask_l (gates_of l) g)) ∙ ap is_ok (append_answers l g sound-l e) ∙ a) in
            record {
              few_qubits = few_qubits;
              few_bits = few_bits;
              few_gates = omega (arith, below, length-append gs (g ∷ []));
              passed = passes_valid n m (gs ++ (g ∷ [])) ∙ every_join (valid n m) gs (g ∷ []) v (λ i. w i && true);
              spare = spare - gate_size;
              words = ap (λ (b : Bool). cond b (put (counted true l g) (gates_of l) g) l) a ∙ (λ i. put (counted true (kept gs (split i)) g) (gates-l i) g)
                  ∙ appended-kept n m few_qubits few_bits gs g w (spare - gate_size);
            }

    append_number : (g : Gate) → verdict_number (append_verdict l g) ≢ 25
    append_number g q = go (ltb (gates_of l) (room (length l))) refl
      where
        go : (b : Bool) → ltb (gates_of l) (room (length l)) ≡ b → ⊥
        go true e = asked-number n m (gates_of l) g (ap verdict_number (sym (ask_l (gates_of l) g)) ∙ ap verdict_number (append_answers l g sound-l e) ∙ q)
        go false e = let z : ◌≡◌ {A = ℕ} 20 25 = ap verdict_number (append_answers l g sound-l e) ∙ q in omega arith

    -- each gate can be taken out
    takeable-at : (i : ℕ) → i < length gs → takeable l i ≡ true
    takeable-at i h =
        let g = get_or gs i no_gate in
        let e : gs ≡ take i gs ++ (g ∷ drop (suc i) gs) = split_at gs i no_gate h in
        let w = (every-split (valid n m) (take i gs) (g ∷ drop (suc i) gs) (ap (every (valid n m)) (sym e) ∙ v)).1 in
        (λ j. takeable (kept (e j) spare) (sym (length-take-le i gs (omega arith)) j))
        ∙ takeable-kept n m few_qubits few_bits g (and_split (valid n m g) _ w).0 (take i gs) (drop (suc i) gs) spare

    take_is : (i : ℕ) (b : Bool) → ltb i (gates_of l) ≡ b → cond b (Ok tt) (Err NoGate) ≡ first_no (take_questions l i)
    take_is i true e = take_answers l i sound-l e (takeable-at i (omega (arith, ltb-true i (gates_of l) e, gates-l)))
    take_is i false e = take_answers l i sound-l e refl

    take-number : (i : ℕ) → verdict_number (first_no (take_questions l i)) ≢ 25
    take-number i q = go (ltb i (gates_of l)) refl
      where
        go : (b : Bool) → ltb i (gates_of l) ≡ b → ⊥
        go true e = let z : ◌≡◌ {A = ℕ} 0 25 = ap verdict_number (take_is i true e) ∙ q in omega arith
        go false e = let z : ◌≡◌ {A = ℕ} 21 25 = ap verdict_number (take_is i false e) ∙ q in omega arith

    replace_number : (i : ℕ) (g : Gate) → verdict_number (replace_verdict l i g) ≢ 25
    replace_number i g q = go (ltb i (gates_of l)) refl
      where
        go : (b : Bool) → ltb i (gates_of l) ≡ b → ⊥
        go true e = asked-number n m i g (ap verdict_number (sym (ask_l i g)) ∙ ap verdict_number (after-yes (take_questions l i) (ask_gate l i g) (take_is i true e) refl refl) ∙ q)
        go false e = let z : ◌≡◌ {A = ℕ} 21 25 = ap verdict_number (after_no (take_questions l i) (ask_gate l i g) (take_is i false e) refl) ∙ q in omega arith

    copy_number : (out : List ℕ) → verdict_number (copy_verdict l out) ≢ 25
    copy_number out q = go (leb (copy_size l) (length out)) (sym (λ i. verdict_number (cond (sound-l i && copy_up n m gs spare few_qubits few_bits v i) (cond (leb (copy_size l) (length out)) (Ok tt) (Err ShortBuffer)) (Err BadCounts))) ∙ q)
      where
        go : (b : Bool) → verdict_number (cond {A = Verdict} b (Ok tt) (Err ShortBuffer)) ≢ 25
        go true = λ e. omega arith
        go false = λ e. omega arith

    -- the verdict
    footprint_l : kept_footprint l ≡ footprint_of m gs
    footprint_l = λ i. record { gates = gates-l i; splits = nat_abs (splits-count n m gs spare i); written = nat_abs (written_count n m gs spare i); weight = nat_abs (weight-count n m gs spare i) }

    verdict_l : (σ : List ℕ) (lim : Limits) (result work : ℕ) → kept_verdict l σ lim result work ≡ channel_verdict n m σ lim (concat_map words gs) result work
    verdict_l σ lim result work =
        (λ i. cond (sound-l i) (cond (matrix_ceilings lim && branch_ceilings lim) (cond (leb (gates-l i) lim.max_operations)
        (first_no (number_questions (footprint_l i) (nat_abs (first_count n m gs spare i)) (nat_abs (bits-count n m gs spare i)) σ lim result work)) (Err OverLimit)) (Err OverCeiling)) (Err BadCounts))
        ∙ (λ i. cond (matrix_ceilings lim && branch_ceilings lim) (cond (sym whole i) (cond (leb (sym count i) lim.max_operations) (afresh i) (Err OverLimit)) (Err (MalformedAt 0))) (Err OverCeiling))
      where
        whole : eqb (length (concat_map words gs) % gate_size) 0 ≡ true
        whole = eq-eqb (length (concat_map words gs) % gate_size) 0 (omega (arith, words-length gs))

        count : length (concat_map words gs) / gate_size ≡ length gs
        count = omega (arith, words-length gs)

        afresh : first_no (number_questions (footprint_of m gs) n m σ lim result work)
            ≡ first_no (gates_questions (Channel m) n 0 (listed.gates_of (concat_map words gs)) ++ number_questions (footprint_of m (listed.gates_of (concat_map words gs))) n m σ lim result work)
        afresh =
            sym (append_yes (λ (q : Question). Err q.refusal) (Ok tt) (gates_questions (Channel m) n 0 gs) (number_questions (footprint_of m gs) n m σ lim result work) (gates-valid n m 0 gs ∙ v))
            ∙ ap (λ (hs : List Gate). first_no (gates_questions (Channel m) n 0 hs ++ number_questions (footprint_of m hs) n m σ lim result work)) (sym (gates_back gs))

  -- remove last
  keeps-remove : (hs : List Gate) (g : Gate) (spare : ℕ) → length (hs ++ (g ∷ [])) ≤ max_gates → every (valid n m) (hs ++ (g ∷ [])) ≡ true
      → (remove_verdict (kept (hs ++ (g ∷ [])) spare) ≡ (Ok tt)) × Keeps n m hs (removed (kept (hs ++ (g ∷ [])) spare))
  keeps-remove hs g spare few v =
      let gs = hs ++ (g ∷ []) in
      let l = kept gs spare in
      let size : length gs ≡ length hs + 1 = length-append hs (g ∷ []) in
      let count : gates_of l ≡ length hs + 1 = gates-l gs spare few v ∙ size in
      let position : last_of l ≡ length hs = omega (arith, count) in
      let accepts : remove_verdict l ≡ (Ok tt) = sym (take_is gs spare few v (last_of l) true (lt-ltb (last_of l) (gates_of l) (omega (arith, count)))) in
      let parts = every-split (valid n m) hs (g ∷ []) v in
      let w : valid n m g ≡ true = (and_split (valid n m g) true parts.1).0 in (
        accepts,
        record {
          few_qubits = few_qubits;
          few_bits = few_bits;
          few_gates = omega (arith, few, size);
          passed = passes_valid n m hs ∙ parts.0;
          spare = gate_size + spare;
          words = ap (λ (b : Bool). cond b (put (counted false l (gate_in l (last_of l))) (last_of l) no_gate) l) (ap is_ok accepts)
              ∙ (λ i. put (counted false l (gate_in l (position i))) (position i) no_gate)
              ∙ ap (λ (h : Gate). put (counted false l h) (length hs) no_gate) (gate_in_lem n m few_qubits few_bits g w hs [] spare)
              ∙ removed-kept n m few_qubits few_bits hs g w spare;
        },
      )

  -- replace
  keeps-replace : (xs ys : List Gate) (g h : Gate) (spare : ℕ) → length (xs ++ (g ∷ ys)) ≤ max_gates → every (valid n m) (xs ++ (g ∷ ys)) ≡ true
      → is_ok (replace_verdict (kept (xs ++ (g ∷ ys)) spare) (length xs) h) ≡ true → Keeps n m (xs ++ (h ∷ ys)) (replaced (kept (xs ++ (g ∷ ys)) spare) (length xs) h)
  keeps-replace xs ys g h spare few v a =
      let gs = xs ++ (g ∷ ys) in
      let l = kept gs spare in
      let i = length xs in
      let size : length gs ≡ length xs + suc (length ys) = length-append xs (g ∷ ys) in
      let there : ltb i (gates_of l) ≡ true = lt-ltb i (gates_of l) (omega (arith, gates-l gs spare few v, size)) in
      let asked : first_no (ask_gate l i h) ≡ replace_verdict l i h = after-yes (take_questions l i) (ask_gate l i h) (take_is gs spare few v i true there) refl refl in
      let new : valid n m h ≡ true = asked-valid n m i h (sym (ap is_ok (ask_l gs spare few v i h)) ∙ ap is_ok asked ∙ a) in
      let parts = every-split (valid n m) xs (g ∷ ys) v in
      let rest = and_split (valid n m g) (every (valid n m) ys) parts.1 in
      let others : every (valid n m) ys ≡ true = rest.1 in
      record {
        few_qubits = few_qubits;
        few_bits = few_bits;
        few_gates = omega (arith, few, size, length-append xs (h ∷ ys));
        passed = passes_valid n m (xs ++ (h ∷ ys)) ∙ every_join (valid n m) xs (h ∷ ys) parts.0 (λ j. new j && others j);
        spare = spare;
        words = ap (λ (b : Bool). cond b (put (counted true (counted false l (gate_in l i)) h) i h) l) a
            ∙ ap (λ (k : Gate). put (counted true (counted false l k) h) i h) (gate_in_lem n m few_qubits few_bits g rest.0 xs ys spare)
            ∙ replaced-kept n m few_qubits few_bits xs ys g h rest.0 new spare;
      }

  edits_kept : (gs : List Gate) (spare : ℕ) → length gs ≤ max_gates → every (valid n m) gs ≡ true → Edits n m gs (kept gs spare)
  edits_kept gs spare few v = record {
    append = keeps_append gs spare few v;
    remove = λ hs g e. subst (λ (xs : List Gate). (remove_verdict (kept xs spare) ≡ (Ok tt)) × Keeps n m hs (removed (kept xs spare))) (sym e)
        (keeps-remove hs g spare (subst (λ (xs : List Gate). length xs ≤ max_gates) e few) (subst (λ (xs : List Gate). every (valid n m) xs ≡ true) e v));
    replace = λ xs ys g h e. subst (λ (zs : List Gate). is_ok (replace_verdict (kept zs spare) (length xs) h) ≡ true → Keeps n m (xs ++ (h ∷ ys)) (replaced (kept zs spare) (length xs) h)) (sym e)
        (keeps-replace xs ys g h spare (subst (λ (xs : List Gate). length xs ≤ max_gates) e few) (subst (λ (xs : List Gate). every (valid n m) xs ≡ true) e v));
    append_sound = append_number gs spare few v;
    remove_sound = take-number gs spare few v (last_of (kept gs spare));
    replace_sound = replace_number gs spare few v;
    copy_sound = copy_number gs spare few v;
    copy = ap listed.gates_of (copied-kept n m gs spare) ∙ gates_back gs;
    verdict = λ σ lim result work. verdict_l gs spare few v σ lim result work ∙ ap (λ (ws : List ℕ). channel_verdict n m σ lim ws result work) (sym (copied-kept n m gs spare));
  }

pub kept-counts : KeptCounts
kept-counts n m gs l k =
    subst (λ (l : List ℤ). Edits n m gs l) (sym k.words)
    (edits_kept n m k.few_qubits k.few_bits gs k.spare k.few_gates (sym (passes_valid n m gs) ∙ k.passed))
