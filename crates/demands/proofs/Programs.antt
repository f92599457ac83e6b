-- The demands on Pauli programs hold.
use mathlib.Core.Path.{◌≡◌, refl, sym, ap, ◌∙◌, subst}
use mathlib.Core.Bool.{Bool, true, cond}
use mathlib.Core.List.{List, ◌++◌}
use Prim.Native.Nat.{ℕ, ◌^◌}
use lib.ListN.{length, take, drop, replicate, length-replicate}
use lib.IntN.{ℤ, pos}
use Rattle.gate.specs.Gate.{max_weight}
use Rattle.kraus.specs.Blocks.{survivors}
use Rattle.verdict.specs.Questions.{first_no}
use Rattle.verdict.proofs.Numbers.{numbered}
use Rattle.verdict.proofs.Questions.{decided}
use Rattle.circuit.specs.declared.limits.Limits.{Limits}
use Rattle.collect.specs.Delivered.{overwritten}
use Rattle.pauli_words.specs.Words.{nodes_of, operations_of}
use Rattle.pauli_program.specs.Program.{program_branches}
use Rattle.pauli_program.proofs.Counting.{program_square}
use Rattle.pauli_program.proofs.Whole.{first, program_whole, program_complete}
use Rattle.pauli_program.proofs.Claims.{program_narrow, program_in_range}
use Rattle.pauli.specs.Delivered.{program_words}
use Rattle.pauli.specs.Call.{worked, verdict_of, accepts, result_after}
use Rattle.pauli.specs.Known.{Known}
use Rattle.pauli.proofs.Known.{program_accepts, accepted_known}
use Rattle.pauli.proofs.Branches.{store_words, channel_room}
use Rattle.demands.specs.Demands.{IsChannel}
use Rattle.demands.specs.Probabilities.{Probabilities, OfPrograms}
use Rattle.demands.specs.Programs.{ProgramDelivers, ProgramDemand1, ProgramDemand2}
use Rattle.demands.proofs.Channels.{Source, is_channel}
use Rattle.demands.proofs.Probabilities.{source_probabilities}

abbrev zeros : ℕ → List ℤ
zeros k = replicate k (pos 0)

module _ (n m : ℕ) (σ : List ℕ) (l : Limits) (ns os : List ℕ) (r w : List ℤ) (e : accepts n m σ l ns os r w ≡ true) where
  known : Known n m σ ns os (length r) (length w)
  known = accepted_known n m σ l ns os r w e

  pub result_is : result_after n m σ l ns os r w ≡ overwritten (program_words n m σ (nodes_of ns) (operations_of os)) r
  result_is = ap (λ (b : Bool). cond b (overwritten (program_words n m σ (nodes_of ns) (operations_of os)) r) r) e

  program_delivers : ProgramDelivers n m σ l ns os r w
  program_delivers = record {
    room = channel_room known;
    result = result_is;
    work_room = known.work_room;
    work = ap (λ (b : Bool). cond b (overwritten (zeros (worked n m os)) w) w) e ∙ ap (λ (k : ℕ). zeros (worked n m os) ++ drop k w) (length-replicate (worked n m os) (pos 0));
    complete = λ k. program_complete n σ (nodes_of ns) (take k (operations_of os)) (first known.sound k);
    matrices = program_narrow n σ (nodes_of ns) (operations_of os) known.sound known.light;
    blocks = program_in_range n σ (nodes_of ns) (operations_of os) known.sound known.light;
  }

  -- its branches, as those of a circuit
  pub source : Source n m (program_branches n (nodes_of ns) σ (operations_of os))
  source = record {
    small = known.qubit_count;
    few = known.bit_count_lem;
    whole = program_whole known.sound σ max_weight known.light;
    square = program_square n (nodes_of ns) σ (operations_of os);
    words = store_words known;
  }

pub program_demand1 : ProgramDemand1
program_demand1 n m σ l ns os r w = record {
  verdict = refl;
  number = numbered (verdict_of n m σ l ns os r w);
  refusal = λ xs ys q is e f. ap first_no is ∙ decided xs ys q e f;
  acceptance = program_accepts n m σ l ns os (length r) (length w);
  refused = λ e. (
    ap (λ (b : Bool). cond b (overwritten (program_words n m σ (nodes_of ns) (operations_of os)) r) r) e,
    ap (λ (b : Bool). cond b (overwritten (zeros (worked n m os)) w) w) e,
  );
  accepted = program_delivers n m σ l ns os r w;
}

pub program_demand2 : ProgramDemand2
program_demand2 n m σ l ns os r w e =
    subst (IsChannel n m (survivors (program_branches n (nodes_of ns) σ (operations_of os)))) (sym (result_is n m σ l ns os r w e))
    (is_channel (source n m σ l ns os r w e) (drop (length (program_words n m σ (nodes_of ns) (operations_of os))) r))

pub of_programs : OfPrograms
of_programs n m σ l ns os r w e =
    subst (Probabilities (2 ^ n)) (sym (result_is n m σ l ns os r w e))
    (source_probabilities (source n m σ l ns os r w e) (drop (length (program_words n m σ (nodes_of ns) (operations_of os))) r))
