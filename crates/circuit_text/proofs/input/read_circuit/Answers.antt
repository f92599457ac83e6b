-- `input::read_circuit` meets its contract.
use Prim.Native.Nat.{ℕ, ◌+◌, ◌≤◌}
use mathlib.Core.Path.{◌≡◌, sym, ap, ◌∙◌, subst, subst₂}
use mathlib.Core.Bool.{true}
use mathlib.Core.List.{List, map}
use native.Mathlib.Omega.{arith}
use lib.ListN.{length, take, drop, length-map}
use lib.Seq.{sets, length-take-le}
use Rattle.algebra.specs.Lists.{every}
use Rattle.circuit_text.specs.declared.input.Circuit.{Circuit}
use Rattle.std.specs.Prelude.{Option, Some}
use Rattle.text.specs.Decimal.{value, is_number}
use Rattle.circuit_text.specs.Text.{max_bytes, body, body_length, pieces}
use Rattle.circuit_text.specs.Inner.Reading.{max_numbers, input_in}
use Rattle.circuit_text.specs.Input.{bytes, circuit_in, numbers_of, is_input_text, input_of}
use Rattle.circuit_text.proofs.Pieces.{body-inside}
use Rattle.circuit_text.proofs.Shapes.{given-true, given_is, refused-false, refused-text, given-text, kept, given-numbers, given-store, too_long, judged, sound, all-numbers, few-numbers, first-words}
use Rattle.circuit_text.proofs.input.read_circuit.Goals as goal

-- the first e bytes of a text are its body
module _ (t : List ℕ) {e : ℕ} (h : e ≡ body_length t) where
  inside : e ≤ length t
  inside = omega (arith, h, body-inside t)

  part_long : length (take e t) ≡ e
  part_long = length-take-le e t inside

  body_is : take e t ≡ body t
  body_is = ap (λ (k : ℕ). take k t) h

  -- a circuit was read in them
  module _ (short : length t ≤ max_bytes) {x : Option Circuit} (answer : x ≡ input_in (pieces (take e t))) {circuit : Circuit} (given : x ≡ Some circuit) where
    told : input_of t ≡ Some circuit
    told = sym (judged t short h answer) ∙ given

    yes : is_input_text t ≡ true
    yes = given-true (is_input_text t) (circuit_in (numbers_of t)) circuit told

    circuit_is : circuit ≡ circuit_in (numbers_of t)
    circuit_is = given_is (is_input_text t) (circuit_in (numbers_of t)) circuit told

    -- its numbers in the room l
    module _ (l : List ℕ) (long : max_numbers ≤ length l) {n : List ℕ} (r : n ≡ sets l 0 (map value (pieces (take e t)))) where
      read_is : n ≡ sets l 0 (numbers_of t)
      read_is = r ∙ ap (λ (b : List ℕ). sets l 0 (map value (pieces b))) body_is

      words : {k : ℕ} → k ≡ length (pieces (take e t)) → (k ≤ length n) × (take k n ≡ numbers_of t)
      words {k} q =
          let m = length-map (pieces (body t)) value in
          let few = few-numbers t yes in
          first-words (numbers_of t) l (q ∙ ap (λ (b : List ℕ). length (pieces b)) body_is ∙ sym m) (omega arith) read_is

pub returns-then-text-gt-MAX_BYTES : goal.returns-then-text-gt-MAX_BYTES
returns-then-text-gt-MAX_BYTES c =
    let a = c.args in
    let no = too_long a.text.now c.if-text-gt-MAX_BYTES.true in
    record { answer = refused-text a.text.now no; numbers = (kept a.text.now a.numbers.now no).0; store = (kept a.text.now a.store.now no).1 }

pub slice_bounds-judge-end : goal.slice_bounds-judge-end
slice_bounds-judge-end c = sym (part_long c.args.text.now c.body_length-e.ensures)

pub returns-in_err-circuit : goal.returns-in_err-circuit
returns-in_err-circuit c =
    let a = c.args in
    let t = a.text.now in
    let no = refused-false (is_input_text t) (circuit_in (numbers_of t)) (sym (judged t c.if-text-gt-MAX_BYTES.false c.body_length-e.ensures c.judge.ensures) ∙ c.in_err-circuit.was) in
    let refused = refused-text t no in
    record { answer = cc; numbers = (kept t a.numbers.now no).0; store = (kept t a.store.now no).1 }

pub slice_bounds-read_numbers-end : goal.slice_bounds-read_numbers-end
slice_bounds-read_numbers-end c = sym (part_long c.args.text.now c.body_length-e.ensures)

pub read_numbers-count-requires : goal.read_numbers-count-requires
read_numbers-count-requires c =
    let a = c.args in
    let t = a.text.now in
    let h = c.body_length-e.ensures in
    let y = yes t h c.if-text-gt-MAX_BYTES.false c.judge.ensures c.in_ok-circuit.was in
    let q = few-numbers t y in
    let long = c.requires.0 in
    (ap (λ (t : List ℕ). every is_number (pieces t)) (body_is t h) ∙ all-numbers t y, subst (λ (t : List ℕ). length (pieces t) ≤ length a.numbers.now) (sym (body_is t h)) (omega arith))

pub slice_bounds-copy_store-end : goal.slice_bounds-copy_store-end
slice_bounds-copy_store-end c =
    (words c.args.text.now c.body_length-e.ensures c.if-text-gt-MAX_BYTES.false c.judge.ensures c.in_ok-circuit.was c.args.numbers.now c.requires.0 c.read_numbers-count.ensures.room c.read_numbers-count.ensures.count).0

pub slice_bounds-copy_store-end-2 : goal.slice_bounds-copy_store-end-2
slice_bounds-copy_store-end-2 c =
    sym (length-take-le c.read_numbers-count.result c.read_numbers-count.new.numbers
    (words c.args.text.now c.body_length-e.ensures c.if-text-gt-MAX_BYTES.false c.judge.ensures c.in_ok-circuit.was c.args.numbers.now c.requires.0 c.read_numbers-count.ensures.room c.read_numbers-count.ensures.count).0)

pub copy_store-requires : goal.copy_store-requires
copy_store-requires c =
    let a = c.args in
    let t = a.text.now in
    let h = c.body_length-e.ensures in
    let short = c.if-text-gt-MAX_BYTES.false in
    let q = sound t (yes t h short c.judge.ensures c.in_ok-circuit.was) in
    let long = c.requires.1 in
    let ns-is = (words t h short c.judge.ensures c.in_ok-circuit.was a.numbers.now c.requires.0 c.read_numbers-count.ensures.room c.read_numbers-count.ensures.count).1 in
    subst₂ (λ (g : Circuit) (ns : List ℕ). ((2 + g.bits ≤ length ns) × (g.bits ≤ length a.store.now)) × (bytes ns g.bits ≡ true)) (sym (circuit_is t h short c.judge.ensures c.in_ok-circuit.was)) (sym ns-is)
    ((omega (arith, q.size), omega (arith, q.bits)), q.store)

pub returns : goal.returns
returns c =
    let a = c.args in
    let t = a.text.now in
    let h = c.body_length-e.ensures in
    let short = c.if-text-gt-MAX_BYTES.false in
    let y = yes t h short c.judge.ensures c.in_ok-circuit.was in
    let d = circuit_is t h short c.judge.ensures c.in_ok-circuit.was in
    let room = c.read_numbers-count.ensures.room in
    let ns-is = (words t h short c.judge.ensures c.in_ok-circuit.was a.numbers.now c.requires.0 room c.read_numbers-count.ensures.count).1 in
    record {
      answer = ap Some d ∙ given-text t y;
      numbers = read_is t h short c.judge.ensures c.in_ok-circuit.was a.numbers.now c.requires.0 room ∙ given-numbers t a.numbers.now y;
      store = c.copy_store.ensures ∙ (λ i. sets a.store.now 0 (take (d i).bits (drop 2 (ns-is i)))) ∙ given-store t a.store.now y;
    }
