-- `list` meets its contract.
use Rattle.std.specs.Prelude.{Option, Some, None}
use Prim.Native.Nat.{ℕ, ◌+◌, ◌*◌, ◌-◌, ◌≤◌}
use mathlib.Core.Path.{◌≡◌, refl, sym, ap, ◌∙◌, subst}
use mathlib.Core.Bool.{Bool, true, false, cond}
use mathlib.Core.List.{List}
use native.Mathlib.Nat.{le_refl}
use native.Mathlib.Omega.{arith}
use lib.ListN.{length, take, drop}
use lib.Seq.{length-take-le}
use Rattle.circuit_text.specs.declared.input.Circuit.{Circuit}
use Rattle.text.specs.Page.{page, write}
use Rattle.circuit_text.specs.Input.{max_bits, max_gates, number_count, numbers_of, circuit_in, store_in, words_in, is_input_text, input_of}
use Rattle.circuit_text.specs.Inner.Reading.{filled, stored, max_numbers}
use Rattle.gate.specs.Gate.{gate_size}
use Rattle.circuit_text.proofs.Shapes.{given-true, given_is, sound}
use Rattle.listing.proofs.Inputs.{stored_long, filled_long, store_is, words_are}
use Rattle.listing.proofs.Answers.{no_answer, no_result, no_work, an_answer, a_result, a_work}
use borrow.Author.Rules.{rules}
use Rattle.listing.proofs.list.Goals as goal

-- a text in which a circuit was read
module _ (t : List ℕ) {x : Option Circuit} (answer : x ≡ input_of t) {circuit : Circuit} (given : x ≡ Some circuit) where
  told : input_of t ≡ Some circuit
  told = sym answer ∙ given

  yes : is_input_text t ≡ true
  yes = given-true (is_input_text t) (circuit_in (numbers_of t)) circuit told

  is : circuit ≡ circuit_in (numbers_of t)
  is = given_is (is_input_text t) (circuit_in (numbers_of t)) circuit told

  bits-few : circuit.bits ≤ max_bits
  bits-few = subst (λ (x : Circuit). x.bits ≤ max_bits) (sym is) (sound t yes).bits

  gates-few : circuit.gates ≤ max_gates
  gates-few = subst (λ (x : Circuit). x.gates ≤ max_gates) (sym is) (sound t yes).gates

  store-part : (l : List ℕ) → max_bits ≤ length l → {s : List ℕ} → s ≡ stored t l → take circuit.bits s ≡ store_in (numbers_of t)
  store-part l h e = (λ i. take (is i).bits (e i)) ∙ store_is t yes l h

  words-part : (l : List ℕ) → max_numbers ≤ length l → {s : List ℕ} → s ≡ filled t l → take (gate_size * circuit.gates) (drop (3 + circuit.bits) s) ≡ words_in (numbers_of t)
  words-part l h e = (λ i. take (gate_size * (is i).gates) (drop (3 + (is i).bits) (e i))) ∙ words_are t yes l h

pub overflow_mul-end : goal.overflow_mul-end
overflow_mul-end c = let g = gates-few c.args.text.now c.read_input.ensures.answer c.in-Some.is in record { fits = omega arith }

pub overflow_add-end : goal.overflow_add-end
overflow_add-end c =
    let b = bits-few c.args.text.now c.read_input.ensures.answer c.in-Some.is in
    let g = gates-few c.args.text.now c.read_input.ensures.answer c.in-Some.is in
    record { fits = omega arith }

pub slice_bounds-store-end : goal.slice_bounds-store-end
slice_bounds-store-end c =
    omega (arith, bits-few c.args.text.now c.read_input.ensures.answer c.in-Some.is, ap length c.read_input.ensures.store ∙ stored_long c.args.text.now _)

pub slice_bounds-circuit-end : goal.slice_bounds-circuit-end
slice_bounds-circuit-end c =
    sym (length-take-le _ _ (omega (arith, bits-few c.args.text.now c.read_input.ensures.answer c.in-Some.is, ap length c.read_input.ensures.store ∙ stored_long c.args.text.now _)))

pub slice_bounds-circuit-end-2 : goal.slice_bounds-circuit-end-2
slice_bounds-circuit-end-2 c =
    let b = bits-few c.args.text.now c.read_input.ensures.answer c.in-Some.is in
    let g = gates-few c.args.text.now c.read_input.ensures.answer c.in-Some.is in
    let n = ap length c.read_input.ensures.numbers ∙ filled_long c.args.text.now _ in search rules

pub returns : goal.returns
returns c =
    let a = c.args in
    let t = a.text.now in
    let r = a.res.now in
    let w = a.work.now in
    let k = c.in-Some.read in
    let p = c.read_input.ensures in
    let y = yes t p.answer c.in-Some.is in
    let d = is t p.answer c.in-Some.is in
    let s = store-part t p.answer c.in-Some.is _ (le_refl max_bits) p.store in
    let e : number_count k.bits k.gates - (3 + k.bits) ≡ gate_size * k.gates = omega arith in
    let ws = ap (λ (j : ℕ). take j (drop (3 + k.bits) c.read_input.new.numbers)) e ∙ words-part t p.answer c.in-Some.is _ (le_refl max_numbers) p.numbers in
    record {
      answer = c.list_circuit.ensures.lines ∙ ap (write (page a.out.now 0)) (an_answer t r w y d s ws);
      res = c.list_circuit.ensures.res ∙ a_result t r w y d s ws;
      work = c.list_circuit.ensures.work ∙ a_work t r w y d s ws;
    }

-- no circuit is read in a text that is no input
none : (b : Bool) (x : Circuit) → None ≡ cond b (Some x) None → b ≡ false
none true x e = cc
none false x e = refl

-- the callee is not named, so that another one in its place is refused for what it ensures
pub returns-in_default : goal.returns-in_default
returns-in_default c =
    let a = c.args in
    let t = a.text.now in
    let no = none (is_input_text t) (circuit_in (numbers_of t)) c.in_default.ensures.answer in
    record {
      answer = (assumption) ∙ ap (write (page a.out.now 0)) (no_answer t a.res.now a.work.now no);
      res = no_result t a.res.now a.work.now no;
      work = no_work t a.res.now a.work.now no;
    }
