-- The gates of the words of a gate list, copied out.
use mathlib.Core.Path.{◌≡◌, refl, sym, ap, ◌∙◌}
use Rattle.std.specs.Prelude.{is_ok, Ok, Err}
use mathlib.Core.Bool.{true, cond, ◌&&◌}
use mathlib.Core.List.{List, [], ◌∷◌, ◌++◌, map}
use Prim.Native.Nat.{ℕ, suc, ◌+◌, ◌*◌, ◌/◌, ◌%◌, ◌≤◌, ◌<◌}
use native.Mathlib.Nat.{zero-add}
use native.Mathlib.Numerals.{add-one}
use native.Mathlib.Omega.{arith}
use lib.Dec.{leb}
use lib.ListN.{length, get_or, set, take, drop, replicate, length-drop, get_or-append, get_or-map}
use lib.Seq.{sets, take_at, drop_at, take-suc, take_all, length-take-le, get_or-take, get_or-drop, get_or-append-add}
use lib.IntN.{ℤ, pos, nat_abs}
use borrow.Author.Tests.{le-leb}
use Rattle.algebra.specs.Lists.{All, every, concat_map}
use Rattle.algebra.specs.Words.{up_to}
use Rattle.algebra.proofs.Blocks.{sets_append}
use Rattle.algebra.proofs.Lists.{concat_length, concat_at, all_get_d, every-all}
use Rattle.store.specs.Store.{max_word}
use Rattle.channel.specs.Layout.{word}
use Rattle.gate.specs.Gate.{Gate, gate_size}
use Rattle.gate.specs.Inner.Entries.{valid}
use Rattle.qasm.specs.Writing.{words}
use Rattle.kept_circuit.specs.Kept.{max_qubits, max_bits, head_size, gate_words, places, kept_words, all_up_to, sound}
use Rattle.kept_circuit.specs.Edits.{no_gate}
use Rattle.kept_circuit.proofs.Sound.{up_at}
use Rattle.kept_circuit.proofs.Head.{headed, headed_append, length-headed}
use Rattle.kept_circuit.proofs.Listed.{kept_is, up_by, gates-count, words_small}
use Rattle.verdict.specs.declared.Refusal.TheVariants.{ShortBuffer, BadCounts}
use Rattle.kept_verdict.specs.Questions.{copy_size, copied, copied_to}

-- ---- the words that are copied, one by one
map_length : (xs : List ℤ) → length (map nat_abs xs) ≡ length xs
map_length [] = refl
map_length (x ∷ xs) = ap suc (map_length xs)

module _ (ws : List ℤ) where
  -- one more of them
  pub copy_more : (o out : List ℕ) (k x : ℕ) → out ≡ sets o 0 (take k (map nat_abs ws)) → k < length ws → x ≡ nat_abs (word ws k) → set out k x ≡ sets o 0 (take (k + 1) (map nat_abs ws))
  copy_more o out k x e h f =
      let n : k < length (map nat_abs ws) = omega (arith, h, map_length ws) in
      let at : k ≡ 0 + length (take k (map nat_abs ws)) = omega (arith, length-take-le k (map nat_abs ws) (omega (arith, n))) in
      (λ i. set (e i) (at i) ((f ∙ sym (get_or-map nat_abs ws k (pos 0))) i))
      ∙ sym (sets_append (take k (map nat_abs ws)) (get_or (map nat_abs ws) k 0 ∷ []) o 0)
      ∙ ap (sets o 0) (sym (ap (λ (j : ℕ). take j (map nat_abs ws)) (add-one k) ∙ take-suc (map nat_abs ws) k 0 n))

  -- all of them
  pub copy_all : (o out : List ℕ) (k : ℕ) → out ≡ sets o 0 (take k (map nat_abs ws)) → length ws ≤ k → out ≡ sets o 0 (map nat_abs ws)
  copy_all o out k e h = e ∙ ap (sets o 0) (take_all k (map nat_abs ws) (omega (arith, h, map_length ws)))

-- the words of a part
module _ (l : List ℤ) (at n : ℕ) where
  pub part_long : at + n ≤ length l → length (take n (drop at l)) ≡ n
  part_long h = length-take-le n (drop at l) (omega (arith, h, length-drop at l))

  pub part_up : (top : ℕ) → at + n ≤ length l → all_up_to l at n top ≡ true → all_up_to (take n (drop at l)) 0 (length (take n (drop at l))) top ≡ true
  part_up top h e = up_by (take n (drop at l)) 0 (length (take n (drop at l))) top
      (λ k j. let i : k < n = omega (arith, j, part_long h) in
      ap (λ (k : ℕ). up_to top (word (take n (drop at l)) k)) (zero-add k)
      ∙ ap (up_to top) (get_or-take n (drop at l) k (pos 0) i ∙ get_or-drop at l k (pos 0)) ∙ up_at l at n top e k i)

-- the room after the n words of the gates are copied, where the counts are sound, the words numbers, and the room long enough
pub copied_done : (l : List ℤ) (out : List ℕ) {n : ℕ} → sound l ≡ true → n ≡ copy_size l → all_up_to l head_size n max_word ≡ true → n ≤ length out → sets out 0 (map nat_abs (take n (drop head_size l))) ≡ copied_to l out
unfolding copied
copied_done l out {n} s e u h =
    let up : all_up_to l head_size (copy_size l) max_word ≡ true = ap (λ (n : ℕ). all_up_to l head_size n max_word) (sym e) ∙ u in
    let room : leb (copy_size l) (length out) ≡ true = le-leb (copy_size l) (length out) (omega (arith, e, h)) in
    ap (λ (n : ℕ). sets out 0 (map nat_abs (take n (drop head_size l)))) e
    ∙ (λ j. cond (is_ok (cond (sym s j && sym up j) (cond (sym room j) (Ok tt) (Err ShortBuffer)) (Err BadCounts))) (sets out 0 (copied l)) out)

numbers : (gs : List Gate) → map nat_abs (concat_map gate_words gs) ≡ concat_map words gs
numbers [] = refl
numbers (g ∷ gs) = ap (λ (l : List ℕ). words g ++ l) (numbers gs)

module _ (n m : ℕ) (gs : List Gate) (spare : ℕ) where
  abbrev l : List ℤ
  l = kept_words n m gs spare

  -- the counts, and the places after them
  parts : l ≡ headed n m gs [] ++ places gs spare
  parts = kept_is n m gs spare ∙ headed_append n m gs [] (places gs spare)

  head-length : length (headed n m gs []) ≡ head_size
  head-length = length-headed n m gs []

  size : copy_size l ≡ length gs * gate_size
  size = ap (λ (z : ℤ). nat_abs z * gate_size) (gates-count n m gs spare)

  pub copied-kept : copied l ≡ concat_map words gs
  unfolding copied
  copied-kept =
      (λ i. map nat_abs (take (size i) ((ap (drop head_size) parts ∙ drop_at (headed n m gs []) (places gs spare) head_size head-length) i)))
      ∙ ap (map nat_abs) (take_at (concat_map gate_words gs) (replicate spare (pos 0)) (length gs * gate_size) (concat_length gate_words gate_size (λ g. refl) gs))
      ∙ numbers gs

  -- each of their words is one of a gate
  pub copy_up : n ≤ max_qubits → m ≤ max_bits → every (valid n m) gs ≡ true → all_up_to l head_size (copy_size l) max_word ≡ true
  copy_up few_qubits few_bits v = up_by l head_size (copy_size l) max_word (λ k h. at k (omega (arith, h, size)))
    where
      Small : Gate → Type 0
      Small g = (k : ℕ) → k < gate_size → up_to max_word (get_or (gate_words g) k (pos 0)) ≡ true

      small : All (λ (g : Gate). (k : ℕ) → k < gate_size → up_to max_word (get_or (gate_words g) k (pos 0)) ≡ true) gs
      small = every-all (valid n m) (λ (g : Gate). (k : ℕ) → k < gate_size → up_to max_word (get_or (gate_words g) k (pos 0)) ≡ true) (λ g e. words_small n m few_qubits few_bits g e) gs v

      at : (k : ℕ) → k < length gs * gate_size → up_to max_word (word l (head_size + k)) ≡ true
      at k h =
          let e : k ≡ k / gate_size * gate_size + k % gate_size = omega arith in
          let j : k / gate_size < length gs = omega arith in
          let r : k % gate_size < gate_size = omega arith in
          ap (up_to max_word)
          (ap (λ (x : List ℤ). get_or x (head_size + k) (pos 0)) parts
          ∙ ap (λ (s : ℕ). get_or (headed n m gs [] ++ places gs spare) (s + k) (pos 0)) (sym head-length)
          ∙ get_or-append-add (headed n m gs []) (places gs spare) k (pos 0)
          ∙ get_or-append (concat_map gate_words gs) (replicate spare (pos 0)) (pos 0) k (omega (arith, h, concat_length gate_words gate_size (λ g. refl) gs))
          ∙ ap (λ (i : ℕ). get_or (concat_map gate_words gs) i (pos 0)) e
          ∙ concat_at gate_words gate_size (λ g. refl) gs no_gate (pos 0) (k / gate_size) (k % gate_size) j r)
          ∙ all_get_d (λ (g : Gate). (k : ℕ) → k < gate_size → up_to max_word (get_or (gate_words g) k (pos 0)) ≡ true) gs small (k / gate_size) j no_gate (k % gate_size) r
