-- What the acceptance of circuit_unitary says of a circuit, and what the run of an accepted one leaves.
use Rattle.std.specs.Prelude.{is_ok}
use mathlib.Core.Path.{◌≡◌, refl, sym, ap, ◌∙◌, subst}
use mathlib.Core.Logic.{◌≢◌}
use mathlib.Core.Bool.{Bool, true, false, cond, ◌&&◌, and-true, true≢false}
use mathlib.Core.List.{List, [], ◌∷◌}
use Prim.Native.Nat.{ℕ, suc, ◌+◌, ◌*◌, ◌/◌, ◌%◌, ◌^◌, ◌≤◌, ◌<◌}
use native.Mathlib.Omega.{arith}
use lib.Dec.{leb, eqb}
use lib.ListN.{length, get_or}
use lib.Seq.{take-length}
use lib.Pow.{pow_mono}
use lib.IntN.{ℤ, pos}
use borrow.Author.Tests.{leb-true}
use Rattle.algebra.specs.Lists.{All, every, total}
use Rattle.algebra.specs.Words.{fill_words}
use Rattle.algebra.proofs.Tests.{and_split}
use Rattle.algebra.proofs.Blocks.{written_over, blocks-same}
use Rattle.exact.specs.Exact.{Exact, exact}
use Rattle.cells.specs.Cells.{fill, cell_words, cell_size}
use Rattle.rows.specs.Inner.Rows.{held_in, Factors}
use Rattle.gate.specs.declared.judge.Asking.TheVariants.{Unitary}
use Rattle.gate.specs.Gate.{Gate, gate_size, measure, gates_of, formed, placed, supported, splits, weight, max_weight}
use Rattle.gate.specs.Inner.Entries.{valid}
use Rattle.gate.specs.Questions.{on_qubits, gate_questions}
use Rattle.gate.proofs.Questions.{placed-other}
use Rattle.kraus.specs.Branch.{Branch, branches}
use Rattle.kraus.proofs.Limits.{Kraus, kraus_exponent, circuit_enough}
use Rattle.circuit.specs.declared.limits.Limits.{Limits}
use Rattle.circuit.specs.Limits.{matrix_ceilings}
use Rattle.circuit.specs.Sizes.{unitary_result, unitary_work}
use Rattle.verdict.proofs.Questions.{yes, every_append}
use Rattle.circuit.specs.Questions.{gates_questions, unitary_within, unitary_room, unitary_questions, unitary_verdict}
use Rattle.circuit.proofs.Known.{matrix_low}
use Rattle.circuit.proofs.Numbers.{last_questions}
use Rattle.circuit.proofs.Answers.{unitary-accepts}
use Rattle.circuit.proofs.Products.{square_is}
use Rattle.branches.specs.Inner.Bank.{branch_size, bank_words, Holds}
use Rattle.branches.specs.Inner.Run.{Runs, Ran}
use Rattle.branches.proofs.Banks.{bank_held, bank_factors}
use Rattle.unitary.specs.Unitary.{circuit_unitary, verdict_of, result_after, work_after, with_unitary, with_zeros}
use Rattle.unitary.specs.Inner.Accepted.{Accepted}
use Rattle.unitary.proofs.Branch.{branch, one-branch, all_valid, none-split}

-- ---- acceptance
-- a gate of which every answer is yes
gate-unitary : (n : ℕ) (g : Gate) → (formed g && (on_qubits n g && (supported g && eqb (splits g) 0))) ≡ true → (valid n 0 g && eqb (splits g) 0) ≡ true
gate-unitary n g e =
    let a = and_split (formed g) _ e in
    let b = and_split (on_qubits n g) _ a.1 in
    let c = and_split (supported g) _ b.1 in
    let o : placed n 0 g ≡ true = sym (placed-other n 0 g true (not-measure c.1) (sym b.0)) in
    λ i. (a.0 i && (o i && c.0 i)) && c.1 i
  where
    not-measure : eqb (splits g) 0 ≡ true → g.kind ≢ measure
    not-measure s k = true≢false (sym s ∙ ap (λ (m : ℕ). eqb (splits (record { kind = m; a = g.a; b = g.b; c = g.c; k = g.k })) 0) k)

gates-unitary : (n i : ℕ) (gs : List Gate) → every yes (gates_questions Unitary n i gs) ≡ true → every (λ (g : Gate). valid n 0 g && eqb (splits g) 0) gs ≡ true
gates-unitary n i [] e = refl
gates-unitary n i (g ∷ gs) e =
    let a = and_split (every yes (gate_questions Unitary n i g)) _ (sym (every_append (gate_questions Unitary n i g) (gates_questions Unitary n (suc i) gs)) ∙ e) in
    let b : (formed g && (on_qubits n g && (supported g && eqb (splits g) 0))) ≡ true = ap (λ (t : Bool). formed g && (on_qubits n g && t)) (sym (and-true _)) ∙ a.0 in
    λ j. gate-unitary n g b j && gates-unitary n (suc i) gs a.1 j

pub unitary-accepted : (n : ℕ) (l : Limits) (ws : List ℕ) (result work : ℕ) → is_ok (unitary_verdict n l ws result work) ≡ true → Accepted n (gates_of ws) result work
unitary-accepted n l ws result work e =
    let all : every yes (unitary_questions n l ws result work) ≡ true = sym (unitary-accepts n l ws result work) ∙ e in
    let a = and_split (matrix_ceilings l) _ all in
    let b = and_split (eqb (length ws % gate_size) 0) _ a.1 in
    let c = and_split (unitary_within n (length ws / gate_size) l) _ b.1 in
    let d = and_split (every yes (gates_questions Unitary n 0 (gates_of ws))) _ (sym (every_append (gates_questions Unitary n 0 (gates_of ws)) (last_questions n ws result work)) ∙ c.1) in
    let f = and_split (leb (total weight (gates_of ws)) max_weight) _ d.1 in
    let g = and_split (unitary_room (2 ^ n) result work) _ f.1 in
    let h = and_split (leb (unitary_result (2 ^ n)) result) (leb (unitary_work (2 ^ n)) work) g.0 in
    let q : n ≤ l.max_qubits = leb-true n l.max_qubits (and_split (leb n l.max_qubits) _ c.0).0 in
    record {
      few = omega (arith, (matrix_low l a.0).qubits_low);
      unitary = gates-unitary n 0 (gates_of ws) d.0;
      light = leb-true (total weight (gates_of ws)) max_weight f.0;
      result_room = leb-true (unitary_result (2 ^ n)) result h.0;
      work_room = leb-true (unitary_work (2 ^ n)) work h.1;
    }

-- ---- the run
module _ (n d : ℕ) (ws : List ℕ) (r w : List ℤ) (acc : Accepted n (gates_of ws) (length r) (length w)) (dim : d ≡ 2 ^ n) where
  -- the words of four branches
  pub used : 4 * (d * d * cell_size + 2) ≡ unitary_work (2 ^ n)
  used = let e : d * d ≡ (2 ^ n) ^ 2 = square_is d ∙ ap (λ (k : ℕ). k ^ 2) dim in omega arith

  pub dim_small : d ≤ 32
  dim_small = subst (λ (k : ℕ). k ≤ 32) (sym dim) (pow_mono acc.few)

  pub runs : (σ : List ℕ) → σ ≡ [] → Runs w ws σ n d 1
  runs σ e = subst (λ (σ : List ℕ). Runs w ws σ n d 1) (sym e) (record {
    few = acc.few;
    dim = dim;
    accepted = all_valid n (gates_of ws) acc.unitary;
    light = acc.light;
    short = omega arith;
    bits = tt;
    banked = sym (ap (λ (k : ℕ). 2 ^ k) (none-split n (gates_of ws) acc.unitary));
    room = omega (arith, used, acc.work_room);
  })

  pub result_room : d * d * cell_size ≤ length r
  result_room = let e : d * d ≡ (2 ^ n) ^ 2 = square_is d ∙ ap (λ (k : ℕ). k ^ 2) dim in omega (arith, acc.result_room)

  abbrev U : List Exact
  U = circuit_unitary n (gates_of ws)

  -- the unitary's entries are from −1 to 1
  small : (i : ℕ) → i < d * d → Kraus kraus_exponent (get_or U i exact.𝟘)
  small =
      subst (λ (d : ℕ). (i : ℕ) → i < d * d → Kraus kraus_exponent (get_or U i exact.𝟘)) (sym dim)
      (subst (λ (bs : List Branch). All (λ (b : Branch). (i : ℕ) → i < 2 ^ n * 2 ^ n → Kraus kraus_exponent (get_or b.matrix i exact.𝟘)) bs)
      (ap (branches n []) (take-length (gates_of ws)) ∙ one-branch n (gates_of ws) acc.unitary)
      (circuit_enough n 0 [] (gates_of ws) (all_valid n (gates_of ws) acc.unitary) acc.light (length (gates_of ws))).entries).0

  module _ (σ : List ℕ) (none : σ ≡ []) (m : List ℤ) (at : ℕ) (ran : Ran w m ws σ n d 1 at) where
    pub work_room : 0 + 4 * (d * d * cell_size + 2) ≤ length m
    work_room = omega (arith, ran.long, used, acc.work_room)

    held : Holds m at (bank_words d (branch (circuit_unitary n (gates_of ws)) ∷ []))
    held = subst (λ (bs : List Branch). Holds m at (bank_words d bs)) (ap (λ (σ : List ℕ). branches n σ (gates_of ws)) none ∙ one-branch n (gates_of ws) acc.unitary) ran.held

    first : at + 0 * branch_size d ≡ at
    first = omega arith

    pub factors : Factors m at (d * d)
    factors = subst (λ (k : ℕ). Factors m k (d * d)) first (bank_factors d (branch U ∷ []) held (branch U) 0 (omega arith) small (omega arith))

    -- what the one branch holds, written as cells
    pub written : {q : List ℤ} → q ≡ fill r 0 (d * d) (held_in m at (d * d)) → q ≡ with_unitary n ws r
    written e =
        e
        ∙ blocks-same cell_size r 0 (d * d) _ _ (λ i h. ap cell_words (ap (λ (k : ℕ). held_in m k (d * d) i) (sym first) ∙ bank_held d (branch U ∷ []) held (branch U) 0 (omega arith) small i h))
        ∙ ap (λ (k : ℕ). fill r 0 (k * k) (λ (i : ℕ). get_or U i exact.𝟘)) dim

    pub zeroed : {q : List ℤ} (k : ℕ) → k ≡ 4 * (d * d * cell_size + 2) → q ≡ fill_words m 0 k (λ (i : ℕ). pos 0) → q ≡ with_zeros n w
    zeroed k h e =
        e ∙ ap (λ (k : ℕ). fill_words m 0 k (λ (i : ℕ). pos 0)) (h ∙ used)
        ∙ written_over w m (unitary_work (2 ^ n)) (λ (i : ℕ). pos 0) acc.work_room
        (record { long = ran.long; word = λ k l u. ran.kept k (omega (arith, used)) })

-- ---- the buffers after the call
module _ (n : ℕ) (l : Limits) (ws : List ℕ) (r w : List ℤ) where
  pub after-yes : is_ok (verdict_of n l ws r w) ≡ true → {q v : List ℤ} → q ≡ with_unitary n ws r → v ≡ with_zeros n w → (q ≡ result_after n l ws r w) × (v ≡ work_after n l ws r w)
  after-yes e p q = (p ∙ sym (ap (λ (t : Bool). cond t (with_unitary n ws r) r) e), q ∙ sym (ap (λ (t : Bool). cond t (with_zeros n w) w) e))

  pub after_no : is_ok (verdict_of n l ws r w) ≡ false → (r ≡ result_after n l ws r w) × (w ≡ work_after n l ws r w)
  after_no e = (sym (ap (λ (t : Bool). cond t (with_unitary n ws r) r) e), sym (ap (λ (t : Bool). cond t (with_zeros n w) w) e))
