-- The operations of an accepted program, one by one: what the questions answered of each.
use mathlib.Core.Path.{◌≡◌, sym, ap, ◌∙◌, subst, subst₂}
use mathlib.Core.Bool.{Bool, true, false, ◌&&◌}
use mathlib.Core.List.{List, [], ◌∷◌, map}
use Prim.Native.Nat.{ℕ, zero, suc, ◌+◌, ◌*◌, ◌/◌, ◌≤◌, ◌<◌}
use native.Mathlib.Nat.{zero-add}
use native.Mathlib.Omega.{arith}
use lib.Dec.{eqb, ltb}
use lib.ListN.{length, get_or, take, length-map}
use borrow.Author.Tests.{ltb-true}
use Rattle.algebra.specs.Lists.{All, every, total}
use Rattle.algebra.proofs.Lists.{every-all}
use Rattle.algebra.proofs.Tests.{and_split}
use Rattle.algebra.proofs.Totals.{sub_whole, sub_take, sub_total}
use Rattle.verdict.proofs.Questions.{yes, every_append}
use Rattle.gate.specs.Gate.{Gate, gate_size, gate_at, gates_of}
use Rattle.gate.proofs.Listed.{gates-length, gates-at}
use Rattle.pauli_nodes.specs.Nodes.{Reference, Node}
use Rattle.pauli_nodes.specs.Operations.{Operation, rotate, rotate_if, measure, axis, bits, splits}
use Rattle.pauli_nodes.specs.Inner.Masks.{Mask}
use Rattle.pauli_words.specs.Words.{node_of, nodes_of, axis_of, operation_of, operation_formed, operations_of}
use Rattle.pauli_words.specs.Questions.{number_of, axis_fits, operand_questions, operation_questions, operations_questions}
use Rattle.pauli_program.specs.Claims.{Eighths}
use Rattle.pauli_run.specs.Inner.Operators.{Seen}
use Rattle.pauli_run.specs.Inner.Run.{Fits}

-- eighths are below 8 where the words are well formed
module _ (g : Gate) where
  abbrev among : ℕ → Operation
  among k = get_or (rotate (axis_of g) g.c ∷ rotate_if (axis_of g) g.c g.k ∷ measure (axis_of g) [] ∷ measure (axis_of g) (g.c ∷ []) ∷ []) k (measure (axis_of g) [])

  abbrev tests : ℕ → Bool
  tests k = get_or ((ltb g.c 8 && eqb g.k 0) ∷ ltb g.c 8 ∷ (eqb g.c 0 && eqb g.k 0) ∷ eqb g.k 0 ∷ []) k false

  eighths_low : operation_formed g ≡ true → Eighths (operation_of g)
  eighths_low h = go g.kind (and_split (ltb g.b 4) (tests g.kind) h).1
    where
      go : (k : ℕ) → tests k ≡ true → Eighths (among k)
      go zero e = ltb-true g.c 8 (and_split (ltb g.c 8) (eqb g.k 0) e).0
      go (suc zero) e = ltb-true g.c 8 e
      go (suc (suc zero)) e = tt
      go (suc (suc (suc zero))) e = tt
      go (suc (suc (suc (suc k)))) e = tt

-- an operation of a program with m bits, after `made` outcomes
pub record Answered (fits : Reference → Bool) (m made : ℕ) (o : Operation) : Type 0 where
  pub eighths : Eighths o
  pub fitting : fits (axis o) ≡ true
  pub outcome : Seen made o
  pub placed : All (λ (b : ℕ). b < m) (bits o)

operand : (m made i : ℕ) (o : Operation) → every yes (operand_questions m made i o) ≡ true → Seen made o × All (λ (b : ℕ). b < m) (bits o)
operand m made i (rotate a k) e = (tt, tt)
operand m made i (rotate_if a k j) e = (ltb-true j made (and_split (ltb j made) true e).0, tt)
operand m made i (measure a bs) e =
    (tt, every-all (λ (b : ℕ). ltb b m) (λ (b : ℕ). b < m) (λ b h. ltb-true b m h) bs (and_split (every (λ (b : ℕ). ltb b m) bs) true e).0)

answered : (fits : Reference → Bool) (m made i : ℕ) (g : Gate) → every yes (operation_questions fits m made i g) ≡ true → Answered fits m made (operation_of g)
answered fits m made i g e =
    let p = and_split (operation_formed g) _ e in
    let q = and_split (fits (axis (operation_of g))) _ p.1 in
    let r = operand m made i (operation_of g) q.1 in
    record { eighths = eighths_low g p.0; fitting = q.0; outcome = r.0; placed = r.1 }

-- the questions of the first operation, and of those after it
pub halves : (fits : Reference → Bool) (m made i : ℕ) (g : Gate) (gs : List Gate) → every yes (operations_questions fits m made i (g ∷ gs)) ≡ true
    → (every yes (operation_questions fits m made i g) ≡ true) × (every yes (operations_questions fits m (made + splits (operation_of g)) (suc i) gs) ≡ true)
halves fits m made i g gs e =
    let rest = operations_questions fits m (made + splits (operation_of g)) (suc i) gs in
    and_split (every yes (operation_questions fits m made i g)) (every yes rest) (sym (every_append (operation_questions fits m made i g) rest) ∙ e)

pub all_eighths : (fits : Reference → Bool) (m made i : ℕ) (gs : List Gate) → every yes (operations_questions fits m made i gs) ≡ true → All Eighths (map operation_of gs)
all_eighths fits m made i [] e = tt
all_eighths fits m made i (g ∷ gs) e =
    let (a, b) = halves fits m made i g gs e in
    ((answered fits m made i g a).eighths, all_eighths fits m (made + splits (operation_of g)) (suc i) gs b)

each : (fits : Reference → Bool) (m made i : ℕ) (gs : List Gate) (z : Gate) → every yes (operations_questions fits m made i gs) ≡ true
    → (j : ℕ) → j < length gs → Answered fits m (made + total splits (take j (map operation_of gs))) (operation_of (get_or gs j z))
each fits m made i [] z e j l = absurd (omega arith)
each fits m made i (g ∷ gs) z e zero l =
    let k : made ≡ made + 0 = omega arith in
    subst (λ (x : ℕ). Answered fits m x (operation_of g)) k (answered fits m made i g (halves fits m made i g gs e).0)
each fits m made i (g ∷ gs) z e (suc j) l =
    let t = total splits (take j (map operation_of gs)) in
    let k : (made + splits (operation_of g)) + t ≡ made + (splits (operation_of g) + t) = omega arith in
    subst (λ (x : ℕ). Answered fits m x (operation_of (get_or gs j z))) k (each fits m (made + splits (operation_of g)) (suc i) gs z (halves fits m made i g gs e).1 j (omega arith))

-- operation i of the words, where the operations passed their questions
module _ (n m : ℕ) (ns os : List ℕ) (asked : every yes (operations_questions (axis_fits n (nodes_of ns)) m 0 0 (gates_of os)) ≡ true) (i : ℕ) (h : i < length os / gate_size) where
  abbrev nodes : List Node
  nodes = nodes_of ns

  abbrev o : Operation
  o = operation_of (gate_at os (i * gate_size))

  one : Answered (axis_fits n nodes) m (total splits (take i (operations_of os))) o
  one =
      let z = gate_at os 0 in
      let a = each (axis_fits n nodes) m 0 0 (gates_of os) z asked i (omega (arith, h, gates-length os 0 (length os / gate_size))) in
      let e : get_or (gates_of os) i z ≡ gate_at os (i * gate_size) = gates-at os 0 (length os / gate_size) i z h ∙ ap (λ (j : ℕ). gate_at os (j * gate_size)) (zero-add i) in
      subst₂ (λ (k : ℕ) (g : Gate). Answered (axis_fits n nodes) m k (operation_of g)) (zero-add (total splits (take i (operations_of os)))) e a

  pub operation_fits : {ms : List Mask} → number_of n (length ns / gate_size) ≤ length ms → total splits (operations_of os) ≤ 64
      → Fits ms (total splits (take i (operations_of os))) (operation_of (gate_at os (i * gate_size)))
  operation_fits long few =
      let c : length nodes ≡ length ns / gate_size = length-map (gates_of ns) node_of ∙ gates-length ns 0 (length ns / gate_size) in
      let l : (axis o).node < number_of n (length nodes) = ltb-true (axis o).node (number_of n (length nodes)) (and_split (ltb (axis o).node (number_of n (length nodes))) _ one.fitting).0 in
      record {
        eighths = one.eighths;
        there = omega (arith, l, c, long);
        outcome = one.outcome;
        few = omega (arith, few, sub_total splits (sub_take i (sub_whole (operations_of os))));
      }

  pub operation_placed : All (λ (b : ℕ). b < m) (bits (operation_of (gate_at os (i * gate_size))))
  operation_placed = one.placed
