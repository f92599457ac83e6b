-- The words of a gate list: their length, where each gate stands, and what the edits make of them.
use Rattle.std.specs.Prelude.{is_ok}
use mathlib.Core.Path.{◌≡◌, refl, sym, ap, ◌∙◌}
use mathlib.Core.Bool.{Bool, true, false, cond, not, ◌&&◌, ◌||◌, true≢false}
use mathlib.Core.List.{List, [], ◌∷◌, ◌++◌, append_assoc, append-nil}
use Prim.Native.Nat.{ℕ, zero, suc, ◌+◌, ◌-◌, ◌*◌, ◌/◌, ◌≤◌, ◌<◌}
use native.Mathlib.Nat.{le_trans, le-min, add-zero}
use native.Mathlib.Omega.{arith}
use lib.Dec.{eqb, leb, ltb}
use lib.ListN.{length, get_or, take, drop, replicate, length-append, length-replicate, get_or-append}
use lib.Seq.{sets, sets-eq, take_at, drop-append-add, drop_at, get_or-append-add}
use lib.IntN.{ℤ, pos, nat_abs}
use borrow.Author.Tests.{le-leb, lt-ltb, ltb-true, leb-true, eqb-true, ne_eqb, eq-eqb}
use Rattle.algebra.specs.Lists.{every, total, marks, concat_map}
use Rattle.algebra.specs.Words.{up_to}
use Rattle.algebra.proofs.Tests.{and_split, all-by}
use Rattle.algebra.proofs.Lists.{concat_length}
use Rattle.algebra.proofs.Perm.{concat_append}
use Rattle.store.specs.Store.{max_word}
use Rattle.channel.specs.Layout.{word}
use Rattle.verdict.specs.Questions.{first_no}
use Rattle.verdict.proofs.Questions.{all_yes}
use Rattle.gate.specs.declared.judge.Asking.TheVariants.{Channel}
use Rattle.gate.specs.Gate.{Gate, gate, gate_size, last_kind, rz, measure, arity, qubits, bits, unused, distinct, formed, placed, supported, weight, splits}
use Rattle.gate.specs.Questions.{gate_questions}
use Rattle.gate.specs.Inner.Entries.{valid}
use Rattle.circuit.specs.Footprint.{writes}
use Rattle.circuit.proofs.Counts.{splits-one, weight-one, marks-more}
use Rattle.kept_circuit.specs.Kept.{qubits_place, bits_place, gates_place, weight_place, splits_place, written_place, measures_place, max_qubits, max_bits, max_gates}
use Rattle.kept_circuit.specs.Kept.{head_size, gate_place, gate_words, measures, measure_words, places, kept_words, count_at, gates_of, kept_gate, all_up_to, sound}
use Rattle.kept_circuit.specs.Edits.{counted, put, gate_in, covers_bit, covers, takeable, no_gate}
use Rattle.kept_circuit.proofs.Covers.{every-bit, every-none, covers-yes}
use Rattle.kept_circuit.proofs.Head.{six, headed, headed_middle, headed_append, length-headed, length-measures, measures-at, measures-few}
use Rattle.kept_circuit.proofs.Head.{measures-here, newly-here, marks-few, marks_middle, total-few, total_middle, step_in, step_out, counted-head}

pub kept_is : (n m : ℕ) (gs : List Gate) (spare : ℕ) → kept_words n m gs spare ≡ headed n m gs (places gs spare)
unfolding kept_words headed
kept_is n m gs spare = refl

pub length-places : (gs : List Gate) (spare : ℕ) → length (places gs spare) ≡ length gs * gate_size + spare
length-places gs spare = omega (arith, length-append (concat_map gate_words gs) (replicate spare (pos 0)), concat_length gate_words gate_size (λ g. refl) gs, length-replicate spare (pos 0))

pub length-kept : (n m : ℕ) (gs : List Gate) (spare : ℕ) → length (kept_words n m gs spare) ≡ head_size + (length gs * gate_size + spare)
length-kept n m gs spare = ap length (kept_is n m gs spare) ∙ length-headed n m gs (places gs spare) ∙ ap (λ (k : ℕ). head_size + k) (length-places gs spare)

-- ---- the counts are sound
pub up_by : (l : List ℤ) (at n top : ℕ) → ((k : ℕ) → k < n → up_to top (word l (at + k)) ≡ true) → all_up_to l at n top ≡ true
unfolding all_up_to
up_by l at n top h = all-by n (λ (k : ℕ). up_to top (word l (at + k))) h

-- the first six counts
module _ (n m : ℕ) (gs : List Gate) (spare : ℕ) where
  abbrev kept : List ℤ
  kept = kept_words n m gs spare

  pub first_count : word kept qubits_place ≡ pos n
  unfolding kept_words
  first_count = refl

  pub bits-count : word kept bits_place ≡ pos m
  unfolding kept_words
  bits-count = refl

  pub gates-count : word kept gates_place ≡ pos (length gs)
  unfolding kept_words
  gates-count = refl

  pub weight-count : word kept weight_place ≡ pos (total weight gs)
  unfolding kept_words
  weight-count = refl

  pub splits-count : word kept splits_place ≡ pos (total splits gs)
  unfolding kept_words
  splits-count = refl

  pub written_count : word kept written_place ≡ pos (marks m writes gs)
  unfolding kept_words
  written_count = refl

  pub measures-count : (b : ℕ) → b < max_bits → word kept (measures_place + b) ≡ pos (measures b gs)
  unfolding kept_words
  measures-count b h =
      let e : measures_place + b ≡ suc (suc (suc (suc (suc (suc b))))) = omega arith in
      let z : 0 + b ≡ b = omega arith in
      ap (λ (j : ℕ). get_or (six n m (length gs) (total weight gs) (total splits gs) (marks m writes gs) (measure_words max_bits 0 gs ++ places gs spare)) j (pos 0)) e
      ∙ get_or-append (measure_words max_bits 0 gs) (places gs spare) (pos 0) b (omega (arith, length-measures max_bits 0 gs))
      ∙ measures-at max_bits 0 gs b h ∙ ap (λ (j : ℕ). pos (measures j gs)) z

  module _ (few_qubits : n ≤ max_qubits) (few_bits : m ≤ max_bits) (few : length gs ≤ max_gates) where
    up : {z : ℤ} {x t : ℕ} → z ≡ pos x → x ≤ t → up_to t z ≡ true
    up {z} {x} {t} e h = ap (up_to t) e ∙ le-leb x t h

    rest : (k : ℕ) → k < head_size - weight_place → up_to (length gs) (word kept (weight_place + k)) ≡ true
    rest zero h = up weight-count (total-few weight weight-one gs)
    rest (suc zero) h = up splits-count (total-few splits splits-one gs)
    rest (suc (suc zero)) h = up written_count (marks-few m gs)
    rest (suc (suc (suc k))) h =
        let e : weight_place + suc (suc (suc k)) ≡ measures_place + k = omega arith in
        up (ap (λ (j : ℕ). word kept j) e ∙ measures-count k (omega arith)) (measures-few k gs)

    pub sound-kept : sound kept ≡ true
    unfolding sound
    sound-kept =
        let size = length-kept n m gs spare in
        let full : length gs ≤ (length kept - head_size) / gate_size = omega (arith, size) in
        let counts = up_by kept weight_place (head_size - weight_place) (gates_of kept) (λ k h. ap (λ (z : ℤ). up_to (nat_abs z) (word kept (weight_place + k))) gates-count ∙ rest k h) in
        λ i. le-leb head_size (length kept) (omega (arith, size)) i
        && (up first_count few_qubits i && (up bits-count few_bits i && (up gates-count (le-min few full) i && counts i)))

-- ---- the gate after xs
module _ (n m : ℕ) (hs xs : List Gate) where
  abbrev front : List ℤ
  front = headed n m hs (concat_map gate_words xs)

  front_length : gate_place (length xs) ≡ length front
  front_length = sym (length-headed n m hs (concat_map gate_words xs) ∙ ap (λ (k : ℕ). head_size + k) (concat_length gate_words gate_size (λ g. refl) xs))

  pub kept_cut : (g : Gate) (ys : List Gate) (spare : ℕ) → headed n m hs (places (xs ++ (g ∷ ys)) spare) ≡ front ++ (gate_words g ++ places ys spare)
  kept_cut g ys spare =
      ap (headed n m hs) (ap (λ (l : List ℤ). l ++ replicate spare (pos 0)) (concat_append gate_words xs (g ∷ ys))
      ∙ append_assoc (concat_map gate_words xs) (gate_words g ++ concat_map gate_words ys) (replicate spare (pos 0))
      ∙ ap (λ (l : List ℤ). concat_map gate_words xs ++ l) (append_assoc (gate_words g) (concat_map gate_words ys) (replicate spare (pos 0))))
      ∙ headed_append n m hs (concat_map gate_words xs) (gate_words g ++ places ys spare)

  pub kept-end : (spare : ℕ) → headed n m hs (places xs (gate_size + spare)) ≡ front ++ (gate_words no_gate ++ replicate spare (pos 0))
  kept-end spare =
      let e : gate_size + spare ≡ suc (suc (suc (suc (suc spare)))) = omega arith in
      ap (λ (k : ℕ). headed n m hs (places xs k)) e ∙ headed_append n m hs (concat_map gate_words xs) (gate_words no_gate ++ replicate spare (pos 0))

  pub put-place : (v r : List ℤ) (g : Gate) → length v ≡ gate_size → put (front ++ (v ++ r)) (length xs) g ≡ front ++ (gate_words g ++ r)
  unfolding put
  put-place v r g e =
      ap (λ (at : ℕ). sets (front ++ (v ++ r)) at (gate_words g)) front_length
      ∙ sets-eq (gate_words g) (front ++ (v ++ r)) (length front) (omega (arith, length-append front (v ++ r), length-append v r, e))
      ∙ (λ i. take_at front (v ++ r) (length front) refl i ++ gate_words g ++ (drop-append-add front (v ++ r) gate_size ∙ drop_at v r gate_size e) i)
      ∙ append_assoc front (gate_words g) r

  -- its words as they are read
  pub gate-at : (g : Gate) (r : List ℤ) → kept_gate (front ++ (gate_words g ++ r)) (gate_place (length xs)) ≡ g
  gate-at g r = ap (kept_gate (front ++ (gate_words g ++ r))) front_length ∙ (λ i. gate (first i) (at 1 i) (at 2 i) (at 3 i) (at 4 i))
    where
      at : (k : ℕ) → count_at (front ++ (gate_words g ++ r)) (length front + k) ≡ nat_abs (get_or (gate_words g ++ r) k (pos 0))
      at k = ap nat_abs (get_or-append-add front (gate_words g ++ r) k (pos 0))

      first : count_at (front ++ (gate_words g ++ r)) (length front) ≡ g.kind
      first = ap (count_at (front ++ (gate_words g ++ r))) (sym (add-zero (length front))) ∙ at 0

  pub words_up : (g : Gate) (r : List ℤ) → ((k : ℕ) → k < gate_size → up_to max_word (get_or (gate_words g) k (pos 0)) ≡ true)
      → all_up_to (front ++ (gate_words g ++ r)) (gate_place (length xs)) gate_size max_word ≡ true
  words_up g r h =
      up_by (front ++ (gate_words g ++ r)) (gate_place (length xs)) gate_size max_word
      (λ k p. ap (λ (at : ℕ). up_to max_word (word (front ++ (gate_words g ++ r)) (at + k))) front_length
      ∙ ap (up_to max_word) (get_or-append-add front (gate_words g ++ r) k (pos 0) ∙ get_or-append (gate_words g) r (pos 0) k p) ∙ h k p)

-- ---- the words of a gate that has passed its questions are small
every_parts : (r p q : ℕ → Bool) → ((x : ℕ) → p x ≡ true → r x ≡ true) → ((x : ℕ) → q x ≡ true → r x ≡ true)
    → (k : ℕ) (xs : List ℕ) → every p (take k xs) ≡ true → every q (drop k xs) ≡ true → every r xs ≡ true
every_parts r p q f g zero [] a b = refl
every_parts r p q f g zero (x ∷ xs) a b = let (h, t) = and_split (q x) (every q xs) b in let e = every_parts r p q f g zero xs refl t in λ i. g x h i && e i
every_parts r p q f g (suc k) [] a b = refl
every_parts r p q f g (suc k) (x ∷ xs) a b = let (h, t) = and_split (p x) (every p (take k xs)) a in let e = every_parts r p q f g k xs t b in λ i. f x h i && e i

module _ (n m : ℕ) (few_qubits : n ≤ max_qubits) (few_bits : m ≤ max_bits) (g : Gate) (v : valid n m g ≡ true) where
  abbrev small : ℕ → Bool
  small x = leb x max_word

  below : (t : ℕ) → t ≤ 64 → (x : ℕ) → ltb x t ≡ true → small x ≡ true
  below t h x e = le-leb x max_word (omega (arith, ltb-true x t e))

  zeros : (x : ℕ) → eqb x 0 ≡ true → small x ≡ true
  zeros x e = le-leb x max_word (omega (arith, eqb-true x 0 e))

  known : formed g ≡ true
  known = (and_split (formed g) _ v).0

  on : placed n m g ≡ true
  on = (and_split (placed n m g) (supported g) (and_split (formed g) _ v).1).0

  on-qubits : every (λ (q : ℕ). ltb q n) (qubits g) ≡ true
  on-qubits = (and_split (every (λ (q : ℕ). ltb q n) (qubits g)) _ on).0

  on-bits : every (λ (i : ℕ). ltb i m) (bits g) ≡ true
  on-bits = (and_split (distinct (qubits g)) (every (λ (i : ℕ). ltb i m) (bits g)) (and_split (every (λ (q : ℕ). ltb q n) (qubits g)) _ on).1).1

  tail : (cond (eqb g.kind rz) (leb g.k 8) (eqb g.k 0) && every (λ (w : ℕ). eqb w 0) (unused g)) ≡ true
  tail = (and_split (leb g.kind last_kind) _ known).1

  kind_small : small g.kind ≡ true
  kind_small = le-leb g.kind max_word (omega (arith, leb-true g.kind last_kind (and_split (leb g.kind last_kind) _ known).0))

  k-small : small g.k ≡ true
  k-small = go (eqb g.kind rz) (and_split (cond (eqb g.kind rz) (leb g.k 8) (eqb g.k 0)) (every (λ (w : ℕ). eqb w 0) (unused g)) tail).0
    where
      go : (b : Bool) → cond b (leb g.k 8) (eqb g.k 0) ≡ true → small g.k ≡ true
      go true e = le-leb g.k max_word (omega (arith, leb-true g.k 8 e))
      go false e = zeros g.k e

  -- a, b and c
  operands_small : every small (g.a ∷ g.b ∷ g.c ∷ []) ≡ true
  operands_small = go (eqb g.kind measure) refl (and_split (cond (eqb g.kind rz) (leb g.k 8) (eqb g.k 0)) (every (λ (w : ℕ). eqb w 0) (unused g)) tail).1
    where
      go : (b : Bool) → eqb g.kind measure ≡ b → every (λ (w : ℕ). eqb w 0) (cond b (g.c ∷ []) (drop (arity g.kind) (g.a ∷ g.b ∷ g.c ∷ []))) ≡ true → every small (g.a ∷ g.b ∷ g.c ∷ []) ≡ true
      go true e h =
          let b-is : every (λ (i : ℕ). ltb i m) (g.b ∷ []) ≡ true = ap (λ (c : Bool). every (λ (i : ℕ). ltb i m) (cond c (g.b ∷ []) [])) (sym e) ∙ on-bits in
          let a-is : every (λ (q : ℕ). ltb q n) (g.a ∷ []) ≡ true = ap (λ (k : ℕ). every (λ (q : ℕ). ltb q n) (take (arity k) (g.a ∷ g.b ∷ g.c ∷ []))) (sym (eqb-true g.kind measure e)) ∙ on-qubits in
          λ i. below n (omega arith) g.a (and_split (ltb g.a n) true a-is).0 i
          && (below m few_bits g.b (and_split (ltb g.b m) true b-is).0 i && (zeros g.c (and_split (eqb g.c 0) true h).0 i && true))
      go false e h =
          every_parts small (λ (q : ℕ). ltb q n) (λ (w : ℕ). eqb w 0) (below n (omega arith)) zeros (arity g.kind) (g.a ∷ g.b ∷ g.c ∷ []) on-qubits h

  pub words_small : (k : ℕ) → k < gate_size → up_to max_word (get_or (gate_words g) k (pos 0)) ≡ true
  words_small zero h = kind_small
  words_small (suc zero) h = (and_split (small g.a) _ operands_small).0
  words_small (suc (suc zero)) h = (and_split (small g.b) _ (and_split (small g.a) _ operands_small).1).0
  words_small (suc (suc (suc zero))) h = (and_split (small g.c) true (and_split (small g.b) _ (and_split (small g.a) _ operands_small).1).1).0
  words_small (suc (suc (suc (suc zero)))) h = k-small
  words_small (suc (suc (suc (suc (suc k))))) h = absurd (omega arith)

  -- its bits
  pub bit_in : eqb g.kind measure ≡ true → g.b < m
  bit_in e = ltb-true g.b m (and_split (ltb g.b m) true (ap (λ (c : Bool). every (λ (i : ℕ). ltb i m) (cond c (g.b ∷ []) [])) (sym e) ∙ on-bits)).0

  pub bits_small : every (λ (b : ℕ). ltb b max_bits) (bits g) ≡ true
  bits_small = go (eqb g.kind measure) refl
    where
      go : (b : Bool) → eqb g.kind measure ≡ b → every (λ (b : ℕ). ltb b max_bits) (bits g) ≡ true
      go true e = sym (every-bit (λ (b : ℕ). ltb b max_bits) g e) ∙ lt-ltb g.b max_bits (le_trans (bit_in e) few_bits)
      go false e = sym (every-none (λ (b : ℕ). ltb b max_bits) g e)

  pub asked-yes : (i : ℕ) → is_ok (first_no (gate_questions (Channel m) n i g)) ≡ true
  asked-yes i = all_yes tt (gate_questions (Channel m) n i g) ∙ go (formed g) (placed n m g) (supported g) v
    where
      go : (a b c : Bool) → (a && (b && c)) ≡ true → (a && (b && (c && true))) ≡ true
      go true true true e = refl
      go true true false e = absurd (true≢false (sym e))
      go true false c e = absurd (true≢false (sym e))
      go false b c e = absurd (true≢false (sym e))

  -- ---- and the gate can be taken out of the list
  module _ (xs ys : List Gate) (spare : ℕ) where
    abbrev gs : List Gate
    gs = xs ++ (g ∷ ys)

    abbrev l : List ℤ
    l = kept_words n m gs spare

    cut : l ≡ headed n m gs (concat_map gate_words xs) ++ (gate_words g ++ places ys spare)
    cut = kept_is n m gs spare ∙ kept_cut n m gs xs g ys spare

    pub gate_in_lem : gate_in l (length xs) ≡ g
    gate_in_lem = ap (λ (k : List ℤ). gate_in k (length xs)) cut ∙ gate-at n m gs xs g (places ys spare)

    covers-bit-yes : eqb g.kind measure ≡ true → covers_bit l g.b ≡ true
    covers-bit-yes e =
        let rest = xs ++ ys in
        let count : count_at l (measures_place + g.b) ≡ suc (measures g.b rest) =
        ap nat_abs (measures-count n m gs spare g.b (le_trans (bit_in e) few_bits)) ∙ total_middle (λ (h : Gate). cond (writes h g.b) 1 0) xs g ys ∙ measures-here g rest e in
        let wrote : count_at l written_place ≡ cond (eqb (measures g.b rest) 0) 1 0 + marks m writes rest =
        ap nat_abs (written_count n m gs spare) ∙ marks_middle m xs g ys ∙ marks-more m g rest ∙ ap (λ (k : ℕ). k + marks m writes rest) (newly-here m g rest e (bit_in e)) in
        (λ i. ltb 0 (count i) && (not (eqb (count i) 1) || ltb 0 (wrote i))) ∙ go (measures g.b rest) (marks m writes rest)
      where
        go : (k t : ℕ) → (ltb 0 (suc k) && (not (eqb (suc k) 1) || ltb 0 (cond (eqb k 0) 1 0 + t))) ≡ true
        go zero t = λ i. lt-ltb 0 1 (omega arith) i && (not (eq-eqb 1 1 refl i) || lt-ltb 0 (1 + t) (omega arith) i)
        go (suc k) t = λ i. lt-ltb 0 (suc (suc k)) (omega arith) i && (not (ne_eqb (suc (suc k)) 1 (λ q. clash q) i) || ltb 0 (cond (eqb (suc k) 0) 1 0 + t))
          where
            clash : suc (suc k) ≡ 1 → ⊥
            clash q = omega arith

    covers-all : covers l g ≡ true
    covers-all =
        sym (covers-yes l g (λ i. le-leb (weight g) (count_at l weight_place) (omega (arith, ap nat_abs (weight-count n m gs spare), total_middle weight xs g ys)) i
        && le-leb (splits g) (count_at l splits_place) (omega (arith, ap nat_abs (splits-count n m gs spare), total_middle splits xs g ys)) i) (go (eqb g.kind measure) refl))
      where
        go : (b : Bool) → eqb g.kind measure ≡ b → true ≡ every (covers_bit l) (bits g)
        go true e = sym (covers-bit-yes e) ∙ every-bit (covers_bit l) g e
        go false e = every-none (covers_bit l) g e

    pub takeable-kept : takeable l (length xs) ≡ true
    unfolding takeable
    takeable-kept =
        let up = ap (λ (k : List ℤ). all_up_to k (gate_place (length xs)) gate_size max_word) cut ∙ words_up n m gs xs g (places ys spare) words_small in
        let asked = (λ i. is_ok (first_no (gate_questions (Channel (nat_abs (bits-count n m gs spare i))) (nat_abs (first_count n m gs spare i)) (length xs) (gate_in_lem i)))) ∙ asked-yes (length xs) in
        λ i. up i && (asked i && (ap (covers l) gate_in_lem ∙ covers-all) i)

-- ---- the edits
module _ (n m : ℕ) (few_qubits : n ≤ max_qubits) (few_bits : m ≤ max_bits) where
  -- a gate more, and less, at the end of gs
  module _ (gs : List Gate) (g : Gate) (v : valid n m g ≡ true) (spare : ℕ) where
    -- the order of the gates does not matter to the counts
    order : (r : List ℤ) → headed n m (g ∷ gs) r ≡ headed n m (gs ++ (g ∷ [])) r
    order r = sym (headed_middle n m gs g [] r ∙ ap (λ (hs : List Gate). headed n m (g ∷ hs) r) (append-nil gs))

    pub appended-kept : put (counted true (kept_words n m gs (gate_size + spare)) g) (length gs) g ≡ kept_words n m (gs ++ (g ∷ [])) spare
    appended-kept =
        ap (λ (l : List ℤ). put l (length gs) g)
        (ap (λ (l : List ℤ). counted true l g) (kept_is n m gs (gate_size + spare))
        ∙ counted-head (step_in m gs g (bit_in n m few_qubits few_bits g v)) n (places gs (gate_size + spare)) (bits_small n m few_qubits few_bits g v)
        ∙ order (places gs (gate_size + spare)) ∙ kept-end n m (gs ++ (g ∷ [])) gs spare)
        ∙ put-place n m (gs ++ (g ∷ [])) gs (gate_words no_gate) (replicate spare (pos 0)) g refl
        ∙ sym (kept_is n m (gs ++ (g ∷ [])) spare ∙ kept_cut n m (gs ++ (g ∷ [])) gs g [] spare)

    pub removed-kept : put (counted false (kept_words n m (gs ++ (g ∷ [])) spare) g) (length gs) no_gate ≡ kept_words n m gs (gate_size + spare)
    removed-kept =
        ap (λ (l : List ℤ). put l (length gs) no_gate)
        (ap (λ (l : List ℤ). counted false l g) (kept_is n m (gs ++ (g ∷ [])) spare ∙ sym (order (places (gs ++ (g ∷ [])) spare)))
        ∙ counted-head (step_out m gs g (bit_in n m few_qubits few_bits g v)) n (places (gs ++ (g ∷ [])) spare) (bits_small n m few_qubits few_bits g v)
        ∙ kept_cut n m gs gs g [] spare)
        ∙ put-place n m gs gs (gate_words g) (places [] spare) no_gate refl
        ∙ sym (kept_is n m gs (gate_size + spare) ∙ kept-end n m gs gs spare)

  -- h in the place of g
  pub replaced-kept : (xs ys : List Gate) (g h : Gate) → valid n m g ≡ true → valid n m h ≡ true → (spare : ℕ)
      → put (counted true (counted false (kept_words n m (xs ++ (g ∷ ys)) spare) g) h) (length xs) h ≡ kept_words n m (xs ++ (h ∷ ys)) spare
  replaced-kept xs ys g h v w spare =
      let r = places (xs ++ (g ∷ ys)) spare in
      ap (λ (l : List ℤ). put (counted true l h) (length xs) h)
      (ap (λ (l : List ℤ). counted false l g) (kept_is n m (xs ++ (g ∷ ys)) spare ∙ headed_middle n m xs g ys r)
      ∙ counted-head (step_out m (xs ++ ys) g (bit_in n m few_qubits few_bits g v)) n r (bits_small n m few_qubits few_bits g v))
      ∙ ap (λ (l : List ℤ). put l (length xs) h)
      (counted-head (step_in m (xs ++ ys) h (bit_in n m few_qubits few_bits h w)) n r (bits_small n m few_qubits few_bits h w)
      ∙ sym (headed_middle n m xs h ys r) ∙ kept_cut n m (xs ++ (h ∷ ys)) xs g ys spare)
      ∙ put-place n m (xs ++ (h ∷ ys)) xs (gate_words g) (places ys spare) h refl
      ∙ sym (kept_is n m (xs ++ (h ∷ ys)) spare ∙ kept_cut n m (xs ++ (h ∷ ys)) xs h ys spare)
