-- Gates as words, and words as gates.
use mathlib.Core.Path.{◌≡◌, refl, sym, ap, ◌∙◌}
use mathlib.Core.Bool.{Bool, true, false, ◌&&◌}
use mathlib.Core.List.{List, [], ◌∷◌, ◌++◌}
use Prim.Native.Nat.{ℕ, zero, suc, ◌+◌, ◌*◌, ◌/◌, ◌%◌, ◌<◌}
use native.Mathlib.Nat.{zero-add, add-zero}
use native.Mathlib.Omega.{arith}
use lib.ListN.{length, get_or}
use lib.Seq.{ext_get_or}
use Rattle.algebra.specs.Lists.{every, concat_map}
use Rattle.algebra.proofs.Lists.{concat_length, concat_at}
use Rattle.gate.specs.Gate.{Gate, gate, gate_at, gates_of}
use Rattle.gate.proofs.Listed.{gates-length, gates-at}
use Rattle.qasm.specs.Writing.{words}

pub words-length : (gs : List Gate) → length (concat_map words gs) ≡ length gs * 5
words-length gs = concat_length words 5 (λ g. refl) gs

abbrev none : Gate
none = gate 0 0 0 0 0

gate-found : (ws : List ℕ) (i : ℕ) → i < length ws / 5 → get_or (gates_of ws) i none ≡ gate_at ws (i * 5)
gate-found ws i h = gates-at ws 0 (length ws / 5) i none h ∙ ap (λ (k : ℕ). gate_at ws (k * 5)) (zero-add i)

-- ---- gates, their words, and back
module _ (gs : List Gate) where
  pub gates_back : gates_of (concat_map words gs) ≡ gs
  gates_back = ext_get_or none (gates_of all) gs (gates-length all 0 (length all / 5) ∙ count) each
    where
      all : List ℕ
      all = concat_map words gs

      count : length all / 5 ≡ length gs
      count = omega (arith, words-length gs)

      each : (i : ℕ) → i < length (gates_of all) → get_or (gates_of all) i none ≡ get_or gs i none
      each i h =
          let l : i < length gs = omega (arith, gates-length all 0 (length all / 5), count) in
          let at = concat_at words 5 (λ g. refl) gs none 0 i in
          let z = ap (λ (k : ℕ). get_or all k 0) (sym (add-zero (i * 5))) ∙ at 0 l (omega arith) in
          gate-found all i (omega (arith, count))
          ∙ (λ j. gate (z j) (at 1 l (omega arith) j) (at 2 l (omega arith) j) (at 3 l (omega arith) j) (at 4 l (omega arith) j))

-- ---- words, their gates, and back
word_of : (ws : List ℕ) (at k : ℕ) → k < 5 → get_or (words (gate_at ws at)) k 0 ≡ get_or ws (at + k) 0
word_of ws at zero h = ap (λ (i : ℕ). get_or ws i 0) (sym (add-zero at))
word_of ws at (suc zero) h = refl
word_of ws at (suc (suc zero)) h = refl
word_of ws at (suc (suc (suc zero))) h = refl
word_of ws at (suc (suc (suc (suc zero)))) h = refl
word_of ws at (suc (suc (suc (suc (suc k))))) h = absurd (omega arith)

pub words_back : (ws : List ℕ) → length ws % 5 ≡ 0 → concat_map words (gates_of ws) ≡ ws
words_back ws e = ext_get_or 0 (concat_map words gs) ws count each
  where
    gs : List Gate
    gs = gates_of ws

    count : length (concat_map words gs) ≡ length ws
    count = omega (arith, words-length gs, gates-length ws 0 (length ws / 5), e)

    each : (i : ℕ) → i < length (concat_map words gs) → get_or (concat_map words gs) i 0 ≡ get_or ws i 0
    each i h =
        let p : i ≡ i / 5 * 5 + i % 5 = omega arith in
        let l : i / 5 < length ws / 5 = omega (arith, count, e) in
        ap (λ (k : ℕ). get_or (concat_map words gs) k 0) p
        ∙ concat_at words 5 (λ g. refl) gs none 0 (i / 5) (i % 5) (omega (arith, gates-length ws 0 (length ws / 5))) (omega arith)
        ∙ ap (λ (g : Gate). get_or (words g) (i % 5) 0) (gate-found ws (i / 5) l)
        ∙ word_of ws (i / 5 * 5) (i % 5) (omega arith)
        ∙ ap (λ (k : ℕ). get_or ws k 0) (sym p)

-- ---- a test of all words
module _ {B : Type 0} (p : B → Bool) where
  pub every_append : (xs ys : List B) → every p (xs ++ ys) ≡ (every p xs && every p ys)
  every_append [] ys = refl
  every_append (x ∷ xs) ys = ap (λ (c : Bool). p x && c) (every_append xs ys) ∙ assoc (p x) (every p xs) (every p ys)
    where
      assoc : (a b c : Bool) → (a && (b && c)) ≡ ((a && b) && c)
      assoc true b c = refl
      assoc false b c = refl

  pub every_concat : {A : Type 0} (f : A → List B) (xs : List A) → every p (concat_map f xs) ≡ every (λ (x : A). every p (f x)) xs
  every_concat f [] = refl
  every_concat f (x ∷ xs) = every_append (f x) (concat_map f xs) ∙ ap (λ (c : Bool). every p (f x) && c) (every_concat f xs)
