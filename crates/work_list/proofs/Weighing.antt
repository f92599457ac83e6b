-- What acceptance says of the numbers of a circuit; and its terms, counted.
use Rattle.std.specs.Prelude.{is_ok, Ok}
use mathlib.Core.Path.{◌≡◌, sym, ap, ◌∙◌, subst}
use mathlib.Core.Bool.{true}
use mathlib.Core.List.{List}
use Prim.Native.Nat.{ℕ, ◌/◌, ◌^◌, ◌≤◌}
use native.Mathlib.Omega.{arith}
use lib.ListN.{length, length-replicate}
use lib.IntN.{pos}
use Rattle.algebra.specs.Lists.{total}
use Rattle.verdict.specs.Questions.{Question, granted}
use Rattle.verdict.proofs.Questions.{handed}
use Rattle.gate.specs.Gate.{gate_size, gates_of, splits}
use Rattle.gate.proofs.Listed.{gates-length}
use Rattle.circuit.specs.declared.limits.Limits.{Limits}
use Rattle.circuit.specs.Limits.{ceilings}
use Rattle.circuit.specs.Footprint.{footprint_of}
use Rattle.circuit.specs.Sizes.{terms_needed}
use Rattle.circuit.specs.Questions.{sizes_of, channel_questions, channel_verdict}
use Rattle.circuit.specs.Inner.Small.{max_splits, max_qubits, max_gates}
use Rattle.circuit.proofs.Known.{known}
use Rattle.judge.specs.Call.{accepts}
use Rattle.judge.specs.Inner.Accepted.{Accepted}
use Rattle.judge.proofs.Running.{few_qubits, few-splits}
use Rattle.pair_list.specs.Pairs.{Circuit}
use Rattle.work_list.specs.Serving.{terms, zeros}
use Rattle.work_list.specs.Inner.Weighing.{weighed}

-- the numbers of a circuit that is accepted are small
pub record Small (n : ℕ) (ws : List ℕ) (terms : ℕ) : Type 0 where
  pub qubits : n ≤ max_qubits
  pub splitting : total splits (gates_of ws) ≤ max_splits
  pub gates : length ws / gate_size ≤ max_gates
  pub cheap : terms ≤ ceilings.max_multiply_terms

module _ (n m : ℕ) (σ : List ℕ) (l : Limits) (ws : List ℕ) (result work : ℕ) where
  -- in buffers of zeros
  pub in_zeros : accepts n m σ l ws (zeros result) (zeros work) ≡ is_ok (channel_verdict n m σ l ws result work)
  in_zeros i = is_ok (channel_verdict n m σ l ws (length-replicate result (pos 0) i) (length-replicate work (pos 0) i))

  pub small : is_ok (channel_verdict n m σ l ws result work) ≡ true → let f = footprint_of m (gates_of ws) in let s = sizes_of f n in Small n ws (terms_needed f.gates s.branches s.rows)
  small e =
      let k = known n m σ l ws result work e in
      let low = k.low.of_matrix in
      let taken : Accepted n m σ ws (zeros result) (zeros work) = record { limits = l; yes = in_zeros ∙ e } in
      record {
        qubits = omega (arith, few_qubits taken);
        splitting = few-splits taken;
        gates = omega (arith, k.few, low.operations_low);
        cheap = omega (arith, k.sizes_within.terms_within, low.terms_low);
      }

-- the terms of a circuit that is accepted, from its splits
module _ (c : Circuit) (l : Limits) (result work : ℕ) where
  abbrev pub asked : List Question
  asked = channel_questions c.qubits c.bits c.store l c.gates result work

  abbrev pub all_splits : ℕ
  all_splits = total splits (gates_of c.gates)

  module _ {z : ℕ} (e : Ok z ≡ granted all_splits asked) where
    pub splits_are : z ≡ all_splits
    splits_are = let h = handed all_splits all_splits asked e in cc

    pub few : Small c.qubits c.gates (terms c)
    few = small c.qubits c.bits c.store l c.gates result work (sym (ap is_ok (handed all_splits tt asked e)))

    terms_are : {x : ℕ} → x ≡ terms_needed (length c.gates / gate_size) (2 ^ z) (2 ^ c.qubits) → x ≡ terms c
    terms_are t = t ∙ (λ i. terms_needed (sym (gates-length c.gates 0 (length c.gates / gate_size)) i) (2 ^ splits_are i) (2 ^ c.qubits))

    pub weighed-yes : {x : ℕ} → x ≡ terms_needed (length c.gates / gate_size) (2 ^ z) (2 ^ c.qubits) → Ok x ≡ weighed c l result work
    weighed-yes t = ap Ok (terms_are t) ∙ handed all_splits (terms c) asked e

    pub terms-few : {x : ℕ} → x ≡ terms_needed (length c.gates / gate_size) (2 ^ z) (2 ^ c.qubits) → x ≤ ceilings.max_multiply_terms
    terms-few t = subst (λ (y : ℕ). y ≤ ceilings.max_multiply_terms) (sym (terms_are t)) few.cheap
