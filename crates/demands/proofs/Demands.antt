-- The three demands hold.
use Rattle.std.specs.Prelude.{is_ok}
use mathlib.Core.Path.{◌≡◌, refl, sym, ap, ◌∙◌, subst}
use mathlib.Core.Bool.{Bool, true, cond}
use mathlib.Core.List.{List, ◌++◌}
use Prim.Native.Nat.{ℕ, ◌+◌, ◌*◌, ◌/◌, ◌%◌, ◌^◌, ◌≤◌, ◌<◌}
use native.Mathlib.Omega.{arith}
use lib.Arith.{digits_lt}
use lib.Dec.{eqb}
use lib.ListN.{length, get_or, take, drop, replicate, length-replicate}
use lib.IntN.{ℤ, pos}
use borrow.Author.Tests.{eq-eqb}
use Rattle.algebra.specs.Lists.{every}
use Rattle.algebra.proofs.Lists.{all_imp}
use Rattle.algebra.proofs.Trace.{length-of}
use Rattle.algebra.proofs.Perm.{Perm, perm_path, perm_sym}
use Rattle.exact.specs.Exact.{exact, narrow}
use Rattle.gate.specs.Gate.{Gate, gate_size, gates_of}
use Rattle.gate.specs.Inner.Entries.{valid}
use Rattle.gate.proofs.Listed.{gates-length}
use Rattle.kraus.specs.Branch.{Branch, branches}
use Rattle.kraus.specs.Blocks.{survivors, stores}
use Rattle.kraus.proofs.Schedule.{schedule_survivors}
use Rattle.kraus.proofs.Stores.{stores-of}
use Rattle.kraus.proofs.Counts.{Counts, schedule_counts}
use Rattle.kraus.proofs.Limits.{Kraus, kraus_exponent}
use Rattle.circuit.specs.declared.limits.Limits.{Limits}
use Rattle.circuit.specs.Footprint.{footprint_of}
use Rattle.circuit.specs.Questions.{channel_questions, channel_verdict}
use Rattle.channel.specs.Layout.{side, read_back}
use Rattle.channel.specs.Claims as claims
use Rattle.collect.specs.Delivered.{overwritten}
use Rattle.judge.specs.Delivered.{circuit_words}
use Rattle.judge.specs.Call.{worked, verdict_of, accepts, result_after}
use Rattle.demands.specs.Demands.{of_gates, Delivers, Demand1, IsChannel, Demand2, ScheduleOf, itself, reordered, no_block, SameChannel, Demand3}
use Rattle.verdict.specs.Questions.{Question, first_no, decided_by}
use Rattle.verdict.proofs.Numbers.{numbered}
use Rattle.verdict.proofs.Questions.{decided}
use Rattle.circuit.proofs.Answers.{channel_accepts}
use Rattle.demands.proofs.Verdicts.{Matching, same-accepts, same-fault, same-refusal}
use Rattle.demands.proofs.Reading.{SameBlocks, blocks_sym, blocks-stores, blocks_at, compare_same, formed_back, read_alike}
use Rattle.demands.proofs.Stores.{covers, stores_perm}
use Rattle.judge.proofs.Accepted.{Sound, sound, enough, block_fine, writable, channel_room}
use Rattle.demands.proofs.Channels.{circuit_source, none-zero, is_channel}

-- ---- demand 1
abbrev zeros : ℕ → List ℤ
zeros k = replicate k (pos 0)

module _ (n m : ℕ) (σ : List ℕ) (l : Limits) (ws : List ℕ) (r w : List ℤ) (e : accepts n m σ l ws r w ≡ true) where
  is_sound : Sound n m σ (gates_of ws) (length r) (length w)
  is_sound = sound n m σ l ws r w e

  pub result_is : result_after n m σ l ws r w ≡ overwritten (circuit_words n m σ (gates_of ws)) r
  result_is = ap (λ (b : Bool). cond b (overwritten (circuit_words n m σ (gates_of ws)) r) r) e

  delivers : Delivers n m σ l ws r w
  delivers = record {
    room = channel_room is_sound;
    result = result_is;
    work_room = is_sound.work_room;
    work = ap (λ (b : Bool). cond b (overwritten (zeros (worked n m ws)) w) w) e ∙ ap (λ (k : ℕ). zeros (worked n m ws) ++ drop k w) (length-replicate (worked n m ws) (pos 0));
    matrices = λ k. all_imp (λ (b : Branch). (i : ℕ) → i < 2 ^ n * 2 ^ n → Kraus kraus_exponent (get_or b.matrix i exact.𝟘)) (λ (b : Branch). (i : ℕ) → i < 2 ^ n * 2 ^ n → narrow (get_or b.matrix i exact.𝟘) ≡ true)
        (branches n σ (take k (gates_of ws))) (λ b h i p. (h i p).is_narrow) (enough is_sound k).entries;
    blocks = block_fine is_sound;
  }

pub demand1 : Demand1
demand1 n m σ l ws r w = record {
  verdict = refl;
  number = numbered (verdict_of n m σ l ws r w);
  refusal = λ xs ys q is e f. ap first_no is ∙ decided xs ys q e f;
  acceptance = channel_accepts n m σ l ws (length r) (length w);
  refused = λ e. (ap (λ (b : Bool). cond b (overwritten (circuit_words n m σ (gates_of ws)) r) r) e, ap (λ (b : Bool). cond b (overwritten (zeros (worked n m ws)) w) w) e);
  accepted = delivers n m σ l ws r w;
}

-- ---- demand 2
pub demand2 : Demand2
demand2 n m σ l ws r w e =
    let words : List ℤ = circuit_words n m σ (gates_of ws) in
    subst (IsChannel n m (survivors (branches n σ (gates_of ws)))) (sym (result_is n m σ l ws r w e)) (is_channel (circuit_source (is_sound n m σ l ws r w e)) (drop (length words) r))

-- ---- demand 3
matching : (n m : ℕ) {ws vs table : List ℕ} → ScheduleOf ws vs table → Matching n m ws vs
matching n m (itself h e) = record {
  whole = ap (λ (us : List ℕ). eqb (length us % gate_size) 0) e;
  count = ap (λ (us : List ℕ). length us / gate_size) e;
  validity = ap (λ (us : List ℕ). every (valid n m) (gates_of us)) e;
  footprint = ap (λ (us : List ℕ). footprint_of m (gates_of us)) e;
}
matching n m {ws} {vs} (reordered h k sch) =
    let c : Counts n m (gates_of ws) (gates_of vs) = schedule_counts n m sch in
    record {
      whole = eq-eqb (length vs % gate_size) 0 k ∙ sym (eq-eqb (length ws % gate_size) 0 h);
      count = sym (gates-length vs 0 (length vs / gate_size)) ∙ c.gates ∙ gates-length ws 0 (length ws / gate_size);
      validity = c.accepted;
      footprint = λ i. record { gates = c.gates i; splits = c.splitting i; written = c.measured i; weight = c.heavy i };
    }

permuted : (n m : ℕ) (σ : List ℕ) {ws vs table : List ℕ} → ScheduleOf ws vs table → every (valid n m) (gates_of ws) ≡ true
    → Perm (survivors (branches n σ (gates_of vs))) (survivors (branches n σ (gates_of ws)))
permuted n m σ (itself h e) ok = perm_path (ap (λ (us : List ℕ). survivors (branches n σ (gates_of us))) e)
permuted n m σ (reordered h k sch) ok = schedule_survivors n m σ sch ok

-- the channels of two gate lists whose surviving branches are the same up to order, each with any words after it
module _ {n m : ℕ} {σ : List ℕ} {gs hs : List Gate} {rg wg rh wh : ℕ} (s : Sound n m σ gs rg wg) (t : Sound n m σ hs rh wh)
    (p : Perm (survivors (branches n σ hs)) (survivors (branches n σ gs))) (after behind : List ℤ) where
  abbrev left : List ℤ
  left = circuit_words n m σ gs ++ after

  abbrev right : List ℤ
  right = circuit_words n m σ hs ++ behind

  alike : SameBlocks (side (2 ^ n)) (read_back left) (read_back right)
  alike = read_alike (writable s) (writable t) after behind (covers (2 ^ n) (perm_sym p)) (stores_perm (2 ^ n) (perm_sym p))

  sound-left : claims.Sound (circuit_words n m σ gs ++ after)
  sound-left = record { right = formed_back (writable s) after; full = none-zero (circuit_source s) after }

  sound-right : claims.Sound (circuit_words n m σ hs ++ behind)
  sound-right = record { right = formed_back (writable t) behind; full = none-zero (circuit_source t) behind }

  same_channel : SameChannel (circuit_words n m σ gs ++ after) (circuit_words n m σ hs ++ behind)
  same_channel = record {
    count = sym (length-of (stores-of p));
    stores = blocks-stores (side (2 ^ n)) (read_back left) (read_back right) alike;
    entries = λ j row col h k. blocks_at (side (2 ^ n)) (read_back left) (read_back right) no_block alike j (row * side (2 ^ n) + col) (digits_lt h k);
    compared = compare_same left right (record { left = sound-left; right = sound-right; dims = refl; bits = refl }) alike;
    compared_back = compare_same right left (record { left = sound-right; right = sound-left; dims = refl; bits = refl }) (blocks_sym (side (2 ^ n)) (read_back left) (read_back right) alike);
  }

pub demand3 : Demand3
demand3 n m σ l ws vs table sch r w s x p q = record {
  acceptance = acceptance;
  gates = (λ i. of_gates (decided_by (channel_questions n m σ l vs (p i) (q i)))) ∙ same-fault n m σ l (length r) (length w) h;
  refusal = λ e. (λ i. channel_verdict n m σ l vs (p i) (q i)) ∙ same-refusal n m σ l (length r) (length w) h e;
  channels = λ e. let f : accepts n m σ l vs s x ≡ true = acceptance ∙ e in
      let a = is_sound n m σ l ws r w e in
      let b = is_sound n m σ l vs s x f in
      subst (SameChannel (result_after n m σ l ws r w)) (sym (result_is n m σ l vs s x f))
      (subst (λ (u : List ℤ). SameChannel u (overwritten (circuit_words n m σ (gates_of vs)) s)) (sym (result_is n m σ l ws r w e))
      (same_channel a b (permuted n m σ sch a.valid_gates) _ _));
}
  where
    h : Matching n m ws vs
    h = matching n m sch

    acceptance : accepts n m σ l vs s x ≡ accepts n m σ l ws r w
    acceptance = (λ i. is_ok (channel_verdict n m σ l vs (p i) (q i))) ∙ channel_accepts n m σ l vs (length r) (length w)
        ∙ same-accepts n m σ l (length r) (length w) h ∙ sym (channel_accepts n m σ l ws (length r) (length w))
