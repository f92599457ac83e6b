-- Which numbers and which texts are an input, and what is seen of one from the left.
use mathlib.Core.Path.{◌≡◌, refl, sym, ap, ◌∙◌}
use mathlib.Core.Bool.{Bool, true, false, cond, ◌&&◌, ◌||◌, true≢false}
use mathlib.Core.List.{List}
use Prim.Native.Nat.{ℕ, suc, ◌+◌, ◌-◌, ◌<◌, ◌≤◌}
use native.Mathlib.Decide.{dec_lt}
use native.Mathlib.Numerals.{add-one}
use native.Mathlib.Omega.{arith}
use lib.Dec.{eqb, leb, ltb}
use lib.ListN.{length, get_or, take, drop, set, length-set, length-map}
use lib.Seq.{sets, sets-eq, length-sets, take_at, drop-cons}
use borrow.Author.Tests.{leb-true, eqb-true, eqb-false, eq-eqb, ne_eqb, le-leb, lt-leb, lt-ltb, le-ltb}
use Rattle.algebra.specs.Lists.{every}
use Rattle.algebra.proofs.Tests.{and_split, and_no, or_right, all-at}
use Rattle.std.specs.Prelude.{Option, Some, None}
use Rattle.circuit_text.specs.declared.input.Circuit.{Circuit}
use Rattle.circuit_text.specs.declared.input.Seen.{Seen}
use Rattle.text.specs.Decimal.{value, is_number}
use Rattle.circuit_text.specs.Text.{max_bytes, body_length, body, pieces}
use Rattle.circuit_text.specs.Input.{max_bits, max_gates, number_count, max_byte, bits_in, gates_in, store_in, circuit_in, bytes, is_input, numbers_of, is_input_text, input_of}
use Rattle.circuit_text.specs.Inner.Reading.{filled, stored, max_numbers, none_seen, seen_next, fits_store, seen_ok, seen_input, input_in}

-- what holds of the numbers of an input
pub record Right (ns : List ℕ) : Type 0 where
  pub bits : bits_in ns ≤ max_bits
  pub gates : gates_in ns ≤ max_gates
  pub size : length ns ≡ number_count (bits_in ns) (gates_in ns)
  pub store : bytes ns (bits_in ns) ≡ true

module _ (ns : List ℕ) where
  pub right : is_input ns ≡ true → Right ns
  unfolding is_input
  right e =
      let t = and_split (leb (bits_in ns) max_bits && leb (gates_in ns) max_gates) _ e in
      let u = and_split (leb (bits_in ns) max_bits) _ t.0 in
      let v = and_split (eqb (length ns) (number_count (bits_in ns) (gates_in ns))) _ t.1 in
      record {
        bits = leb-true (bits_in ns) max_bits u.0;
        gates = leb-true (gates_in ns) max_gates u.1;
        size = eqb-true (length ns) (number_count (bits_in ns) (gates_in ns)) v.0;
        store = v.1;
      }

  pub is_input_lem : Right ns → is_input ns ≡ true
  unfolding is_input
  is_input_lem r = λ i. (le-leb (bits_in ns) max_bits r.bits i && le-leb (gates_in ns) max_gates r.gates i) && (eq-eqb (length ns) (number_count (bits_in ns) (gates_in ns)) r.size i && r.store i)

  pub not_input : (Right ns → ⊥) → is_input ns ≡ false
  not_input f = by (is_input ns) refl
    where
      by : (c : Bool) → is_input ns ≡ c → is_input ns ≡ false
      by true e = absurd (f (right e))
      by false e = e

-- ---- what is seen from the left
-- how many numbers of a store of m bits are among the first n numbers
abbrev seen_bits : ℕ → ℕ → ℕ
seen_bits n m = n - 2 - (n - 2 - m)

-- s is what the first numbers of ns say
pub record Seeing (ns : List ℕ) (s : Seen) : Type 0 where
  pub qubits : 0 < s.count → s.qubits ≡ get_or ns 0 0
  pub bits : 1 < s.count → s.bits ≡ bits_in ns
  pub gates : 2 + s.bits < s.count → s.gates ≡ get_or ns (2 + s.bits) 0
  pub store : bytes ns (s.count - 2 - (s.count - 2 - s.bits)) ≡ true

pub seeing_none : (ns : List ℕ) → Seeing ns none_seen
seeing_none ns = record { qubits = λ h. absurd (omega arith); bits = λ h. absurd (omega arith); gates = λ h. absurd (omega arith); store = refl }

module _ (ns : List ℕ) (s : Seen) (g : Seeing ns s) where
  abbrev i : ℕ
  i = s.count

  abbrev v : ℕ
  v = get_or ns i 0

  abbrev next : Seen
  next = seen_next s v

  -- the bit count stands once two numbers are seen
  bits-kept : (i ≡ 1 → ⊥) → next.bits ≡ s.bits
  bits-kept h = ap (λ (c : Bool). cond c v s.bits) (ne_eqb i 1 h)

  qubits-more : 0 < i + 1 → next.qubits ≡ get_or ns 0 0
  qubits-more h = go (eqb i 0) refl
    where
      go : (c : Bool) → eqb i 0 ≡ c → cond c v s.qubits ≡ get_or ns 0 0
      go true e = ap (λ (k : ℕ). get_or ns k 0) (eqb-true i 0 e)
      go false e = let d = eqb-false i 0 e in g.qubits (omega arith)

  bits-more : 1 < i + 1 → next.bits ≡ bits_in ns
  bits-more h = go (eqb i 1) refl
    where
      go : (c : Bool) → eqb i 1 ≡ c → cond c v s.bits ≡ bits_in ns
      go true e = ap (λ (k : ℕ). get_or ns k 0) (eqb-true i 1 e)
      go false e = let d = eqb-false i 1 e in g.bits (omega arith)

  gates-more : 2 + next.bits < i + 1 → next.gates ≡ get_or ns (2 + next.bits) 0
  gates-more h = go (eqb i (2 + s.bits)) refl ∙ ap (λ (m : ℕ). get_or ns (2 + m) 0) (sym same)
    where
      same : next.bits ≡ s.bits
      same = bits-kept (λ e. omega arith)

      go : (c : Bool) → eqb i (2 + s.bits) ≡ c → cond c v s.gates ≡ get_or ns (2 + s.bits) 0
      go true e = ap (λ (k : ℕ). get_or ns k 0) (eqb-true i (2 + s.bits) e)
      go false e = let d = eqb-false i (2 + s.bits) e in g.gates (omega (arith, same))

  module _ (f : fits_store s v ≡ true) where
    store-more : bytes ns (seen_bits (i + 1) next.bits) ≡ true
    store-more = go (dec_lt i 2) (dec_lt i (2 + s.bits))
      where
        -- no number of the store
        past : seen_bits i s.bits ≡ seen_bits (i + 1) next.bits → bytes ns (seen_bits (i + 1) next.bits) ≡ true
        past e = ap (bytes ns) (sym e) ∙ g.store

        go : Dec (i < 2) → Dec (i < 2 + s.bits) → bytes ns (seen_bits (i + 1) next.bits) ≡ true
        go (yes h) d = past (omega arith)
        go (no h) (no l) = let same = bits-kept (λ e. omega arith) in past (omega (arith, same))
        go (no h) (yes l) =
            let same = bits-kept (λ e. omega arith) in
            let here : seen_bits i s.bits ≡ i - 2 = omega arith in
            let there : suc (i - 2) ≡ seen_bits (i + 1) next.bits = omega (arith, same) in
            let place : i ≡ 2 + (i - 2) = omega arith in
            let byte : leb v max_byte ≡ true = sym (λ k. le-ltb i 2 (omega arith) k || (lt-leb (2 + s.bits) i l k || leb v max_byte)) ∙ f in
            ap (bytes ns) (sym there) ∙ (λ k. (ap (bytes ns) (sym here) ∙ g.store) k && (ap (λ (j : ℕ). leb (get_or ns j 0) max_byte) (sym place) ∙ byte) k)

    pub seeing_more : Seeing ns next
    seeing_more = record { qubits = qubits-more; bits = bits-more; gates = gates-more; store = store-more }

  -- a number of the store that is no byte
  pub seeing_bad : fits_store s v ≡ false → is_input ns ≡ false
  seeing_bad f = go (dec_lt i 2) (dec_lt i (2 + s.bits))
    where
      go : Dec (i < 2) → Dec (i < 2 + s.bits) → is_input ns ≡ false
      go (yes h) d = absurd (true≢false (sym (ap (λ (c : Bool). c || (leb (2 + s.bits) i || leb v max_byte)) (lt-ltb i 2 h)) ∙ f))
      go (no h) (no l) = absurd (true≢false (sym (or_right (ltb i 2) _ (ap (λ (c : Bool). c || leb v max_byte) (le-leb (2 + s.bits) i (omega arith)))) ∙ f))
      go (no h) (yes l) = not_input ns (λ r.
          let place : i ≡ 2 + (i - 2) = omega arith in
          let byte = all-at (bits_in ns) (λ (k : ℕ). leb (get_or ns (2 + k) 0) max_byte) r.store (i - 2) (omega (arith, g.bits (omega arith))) in
          true≢false (sym (or_right (ltb i 2) _ (or_right (leb (2 + s.bits) i) _ (ap (λ (j : ℕ). leb (get_or ns j 0) max_byte) place ∙ byte))) ∙ f))

  -- all numbers are seen
  module _ (n : s.count ≡ length ns) where
    -- the gate count is among them
    module _ (h : 2 + s.bits < s.count) where
      same_bits_lem : s.bits ≡ bits_in ns
      same_bits_lem = g.bits (omega arith)

      same-gates : s.gates ≡ gates_in ns
      same-gates = g.gates h ∙ ap (λ (m : ℕ). get_or ns (2 + m) 0) same_bits_lem

      same_store : true ≡ bytes ns (bits_in ns)
      same_store = let e : seen_bits i s.bits ≡ s.bits = omega arith in sym g.store ∙ ap (bytes ns) (e ∙ same_bits_lem)

      same_test : seen_ok s ≡ is_input ns
      unfolding is_input
      same_test =
          and_true (eqb i (number_count s.bits s.gates))
          ∙ (λ k. (leb (same_bits_lem k) max_bits && leb (same-gates k) max_gates) && (eqb (n k) (number_count (same_bits_lem k) (same-gates k)) && same_store k))
        where
          and_true : (b : Bool) → ((leb s.bits max_bits && leb s.gates max_gates) && b) ≡ ((leb s.bits max_bits && leb s.gates max_gates) && (b && true))
          and_true true = refl
          and_true false = refl

      same_circuit : ◌≡◌ {A = Circuit} (record { qubits = s.qubits; bits = s.bits; gates = s.gates }) (circuit_in ns)
      same_circuit = λ k. record { qubits = g.qubits (omega arith) k; bits = same_bits_lem k; gates = same-gates k }

    pub seen_input_lem : seen_input s ≡ cond (is_input ns) (Some (circuit_in ns)) None
    seen_input_lem = go (dec_lt (2 + s.bits) i)
      where
        go : Dec (2 + s.bits < i) → seen_input s ≡ cond (is_input ns) (Some (circuit_in ns)) None
        go (yes h) = λ k. cond (same_test h k) (Some (same_circuit h k)) None
        go (no h) =
            let short : seen_ok s ≡ false =
            and_no (leb s.bits max_bits && leb s.gates max_gates) _ (ne_eqb i (number_count s.bits s.gates) (λ e. omega arith)) in
            let none : is_input ns ≡ false = not_input ns (λ r. omega (arith, r.size, g.bits (omega (arith, r.size)))) in
            ap (λ (c : Bool). cond c (Some (record { qubits = s.qubits; bits = s.bits; gates = s.gates })) None) short
            ∙ ap (λ (c : Bool). cond c (Some (circuit_in ns)) None) (sym none)

-- ---- what an answer says of the test that picks it
pub given-true : (b : Bool) (x c : Circuit) → cond b (Some x) None ≡ Some c → b ≡ true
given-true true x c e = refl
given-true false x c e = let z : ◌≡◌ {A = ℕ} 0 1 = cc in absurd (omega arith)

pub given_is : (b : Bool) (x c : Circuit) → cond b (Some x) None ≡ Some c → c ≡ x
given_is true x c e = cc
given_is false x c e = let z : ◌≡◌ {A = ℕ} 0 1 = cc in absurd (omega arith)

pub refused-false : (b : Bool) (x : Circuit) → cond b (Some x) None ≡ None → b ≡ false
refused-false true x e = let z : ◌≡◌ {A = ℕ} 0 1 = cc in absurd (omega arith)
refused-false false x e = refl

-- ---- the answer to a text
module _ (t : List ℕ) where
  pub refused-text : is_input_text t ≡ false → None ≡ input_of t
  refused-text e = ap (λ (c : Bool). cond c (Some (circuit_in (numbers_of t))) None) (sym e)

  pub given-text : is_input_text t ≡ true → Some (circuit_in (numbers_of t)) ≡ input_of t
  given-text e = ap (λ (c : Bool). cond c (Some (circuit_in (numbers_of t))) None) (sym e)

  pub kept : (l : List ℕ) → is_input_text t ≡ false → (l ≡ filled t l) × (l ≡ stored t l)
  kept l e = (ap (λ (c : Bool). cond c (sets l 0 (numbers_of t)) l) (sym e), ap (λ (c : Bool). cond c (sets l 0 (store_in (numbers_of t))) l) (sym e))

  pub given-numbers : (l : List ℕ) → is_input_text t ≡ true → sets l 0 (numbers_of t) ≡ filled t l
  given-numbers l e = ap (λ (c : Bool). cond c (sets l 0 (numbers_of t)) l) (sym e)

  pub given-store : (l : List ℕ) → is_input_text t ≡ true → sets l 0 (store_in (numbers_of t)) ≡ stored t l
  given-store l e = ap (λ (c : Bool). cond c (sets l 0 (store_in (numbers_of t))) l) (sym e)

-- ---- what is known of a text that is one, and of others
pub too_long : (t : List ℕ) → max_bytes < length t → is_input_text t ≡ false
unfolding is_input_text
too_long t h = ap (λ (c : Bool). (c && every is_number (pieces (body t))) && is_input (numbers_of t)) (lt-leb (length t) max_bytes h)

-- e bytes of the text t are its body, in whose pieces r was read
pub judged : (t : List ℕ) {e : ℕ} {r : Option Circuit} → length t ≤ max_bytes → e ≡ body_length t → r ≡ input_in (pieces (take e t)) → r ≡ input_of t
unfolding is_input_text
judged t h f g =
    g ∙ ap (λ (e : ℕ). input_in (pieces (take e t))) f
    ∙ ap (λ (c : Bool). cond ((c && every is_number (pieces (body t))) && is_input (numbers_of t)) (Some (circuit_in (numbers_of t))) None) (sym (le-leb (length t) max_bytes h))

module _ (t : List ℕ) (yes : is_input_text t ≡ true) where
  tested : ((leb (length t) max_bytes && every is_number (pieces (body t))) ≡ true) × (is_input (numbers_of t) ≡ true)
  unfolding is_input_text
  tested = and_split (leb (length t) max_bytes && every is_number (pieces (body t))) (is_input (numbers_of t)) yes

  pub sound : Right (numbers_of t)
  sound = right (numbers_of t) tested.1

  pub all-numbers : every is_number (pieces (body t)) ≡ true
  all-numbers = (and_split (leb (length t) max_bytes) _ tested.0).1

  pub few-numbers : length (pieces (body t)) ≤ max_numbers
  few-numbers = let r = sound in omega (arith, length-map (pieces (body t)) value, r.size, r.bits, r.gates)

-- the first k words of the room l after reading are the numbers
pub first-words : (ns l : List ℕ) {k : ℕ} {m : List ℕ} → k ≡ length ns → length ns ≤ length l → m ≡ sets l 0 ns → (k ≤ length m) × (take k m ≡ ns)
first-words ns l {k} e h f =
    (omega (arith, ap length f, length-sets l 0 ns), ap (take k) (f ∙ sets-eq ns l 0 (omega arith)) ∙ take_at ns _ k (sym e))

-- ---- the store's bytes, one by one
-- i of m bytes are copied into l
pub record Copied (ns : List ℕ) (m : ℕ) (l₀ l : List ℕ) (i : ℕ) : Type 0 where
  pub count : i ≤ m
  pub is : sets l₀ 0 (take m (drop 2 ns)) ≡ sets l i (take (m - i) (drop (2 + i) ns))
  pub same : length l ≡ length l₀

module _ (ns : List ℕ) (m : ℕ) (l₀ : List ℕ) where
  module _ (l : List ℕ) {i : ℕ} (g : Copied ns m l₀ l i) where
    pub copied_more : i < m → 2 + m ≤ length ns → Copied ns m l₀ (set l i (get_or ns (2 + i) 0)) (i + 1)
    copied_more h q = record {
      count = omega arith;
      is =
          let e : m - i ≡ suc (m - (i + 1)) = omega arith in
          let f : suc (2 + i) ≡ 2 + (i + 1) = omega arith in
          g.is
          ∙ ap (λ (k : ℕ). sets l i (take k (drop (2 + i) ns))) e
          ∙ ap (λ (bs : List ℕ). sets l i (take (suc (m - (i + 1))) bs)) (drop-cons ns (2 + i) 0 (omega arith))
          ∙ (λ j. sets (set l i (get_or ns (2 + i) 0)) (sym (add-one i) j) (take (m - (i + 1)) (drop (f j) ns)));
      same = length-set l i (get_or ns (2 + i) 0) ∙ g.same;
    }
