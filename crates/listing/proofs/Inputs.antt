-- What a text that is an input hands on: its store, and the words of its gates, in the room that they were read into.
use mathlib.Core.Path.{◌≡◌, refl, sym, ap, ◌∙◌}
use mathlib.Core.Bool.{Bool, true, false, cond}
use mathlib.Core.List.{List}
use Prim.Native.Nat.{ℕ, ◌+◌, ◌*◌, ◌≤◌}
use native.Mathlib.Omega.{arith}
use lib.ListN.{length, take, drop, length-drop}
use lib.Seq.{sets, sets-eq, length-sets, length-take-le, take_at, drop_at, take-add}
use Rattle.circuit_text.specs.Input.{max_bits, bits_in, gates_in, store_in, words_in, numbers_of, is_input_text}
use Rattle.circuit_text.specs.Inner.Reading.{filled, stored, max_numbers}
use Rattle.gate.specs.Gate.{gate_size}
use Rattle.circuit_text.proofs.Shapes.{sound, given-numbers, given-store, first-words}

module _ (t : List ℕ) where
  abbrev ns : List ℕ
  ns = numbers_of t

  -- ---- the room keeps its length
  written_long : (l vs : List ℕ) → length (cond (is_input_text t) (sets l 0 vs) l) ≡ length l
  written_long l vs = go (is_input_text t)
    where
      go : (b : Bool) → length (cond b (sets l 0 vs) l) ≡ length l
      go true = length-sets l 0 vs
      go false = refl

  pub stored_long : (l : List ℕ) → length (stored t l) ≡ length l
  stored_long l = written_long l (store_in ns)

  pub filled_long : (l : List ℕ) → length (filled t l) ≡ length l
  filled_long l = written_long l ns

  -- ---- the parts of an input
  module _ (yes : is_input_text t ≡ true) where
    pub store_is : (s : List ℕ) → max_bits ≤ length s → take (bits_in (numbers_of t)) (stored t s) ≡ store_in (numbers_of t)
    store_is s h =
        let r = sound t yes in
        let k : length (store_in ns) ≡ bits_in ns = length-take-le (bits_in ns) (drop 2 ns) (omega (arith, length-drop 2 ns, r.size)) in
        ap (take (bits_in ns)) (sym (given-store t s yes) ∙ sets-eq (store_in ns) s 0 (omega (arith, r.bits))) ∙ take_at (store_in ns) _ (bits_in ns) k

    -- the room l that the numbers were read into
    pub words_are : (l : List ℕ) → max_numbers ≤ length l → take (gate_size * gates_in (numbers_of t)) (drop (3 + bits_in (numbers_of t)) (filled t l)) ≡ words_in (numbers_of t)
    words_are l h =
        let a = 3 + bits_in ns in
        let b = gate_size * gates_in ns in
        let f = filled t l in
        let r = sound t yes in
        let w = first-words ns l refl (omega (arith, r.size, r.bits, r.gates)) (sym (given-numbers t l yes)) in
        let long : a ≤ length f = omega (arith, filled_long l, r.bits) in
        sym (drop_at (take a f) (take b (drop a f)) a (length-take-le a f long)) ∙ ap (drop a) (sym (take-add a b f)) ∙ ap (λ (k : ℕ). drop a (take k f)) (sym r.size) ∙ ap (drop a) w.1
