-- The words of an accepted circuit are listed, and every answer is written whole.
use mathlib.Core.Path.{◌≡◌, refl, sym, ap, ◌∙◌, subst}
use mathlib.Core.Bool.{Bool, true, false, cond, true≢false}
use mathlib.Core.List.{List, []}
use Prim.Native.Nat.{ℕ, ◌≤◌}
use native.Mathlib.Omega.{arith}
use lib.ListN.{length, drop, length-append, length-drop}
use lib.IntN.{ℤ}
use Rattle.gate.specs.Gate.{gates_of}
use Rattle.verdict.specs.Questions.{Verdict}
use Rattle.circuit.specs.Limits.{ceilings}
use Rattle.verdict.specs.Verdict.{refusal_number, refusal_index}
use Rattle.std.specs.Prelude.{Ok, Err, is_ok}
use Rattle.judge.specs.Call.{verdict_of, accepts, result_after}
use Rattle.judge.specs.Delivered.{circuit_words}
use Rattle.demands.proofs.Demands.{demand1, demand2}
use Rattle.circuit_text.specs.Input.{bits_in, store_in, words_in, circuit_in, numbers_of, is_input_text}
use Rattle.listing.specs.Listing.{listing, listing_of, input_line}
use Rattle.listing.proofs.Room.{whole, short, short-refusal}
use Rattle.listing.specs.Answer.{lines_for, lines_of, answer_of}
use Rattle.listing.specs.Claims.{Listed, max_result, max_listing, Printed}

listed : (v : Verdict) (channel : List ℤ) → is_ok v ≡ true → listing channel ≡ lines_for v channel
listed (Ok x) channel e = refl
listed (Err r) channel e = absurd (true≢false (sym e))

-- what an accepted call leaves is a channel
delivered-listing : (n m : ℕ) (σ ws : List ℕ) (r w : List ℤ) → accepts n m σ ceilings ws r w ≡ true → let q = result_after n m σ ceilings ws r w in listing q ≡ listing_of q
delivered-listing n m σ ws r w e =
    let q = result_after n m σ ceilings ws r w in
    ap (λ (b : Bool). cond b (listing q) []) (sym (demand2 n m σ ceilings ws r w e).formed)

pub accepted_listed : Listed
accepted_listed n m σ ws r w e =
    let q = result_after n m σ ceilings ws r w in
    sym (listed (verdict_of n m σ ceilings ws r w) q e) ∙ delivered-listing n m σ ws r w e

module _ (n m : ℕ) (σ ws : List ℕ) (r w : List ℤ) (h : length r ≤ max_result) where
  channel_most : accepts n m σ ceilings ws r w ≡ true → length (result_after n m σ ceilings ws r w) ≤ max_result
  channel_most e =
      let d = (demand1 n m σ ceilings ws r w).accepted e in
      let c = circuit_words n m σ (gates_of ws) in
      omega (arith, ap length d.result, length-append c (drop (length c) r), length-drop (length c) r, d.room)

  abbrev q : List ℤ
  q = result_after n m σ ceilings ws r w

  lines_most : length (lines_of n m σ ws r w) ≤ max_listing
  lines_most = go (verdict_of n m σ ceilings ws r w) refl
    where
      go : (v : Verdict) → verdict_of n m σ ceilings ws r w ≡ v → length (lines_for v q) ≤ max_listing
      go (Ok x) e = subst (λ (bs : List ℕ). length bs ≤ max_listing) (sym (delivered-listing n m σ ws r w (ap is_ok e))) (short q (channel_most (ap is_ok e)))
      go (Err x) e = omega (arith, short-refusal (refusal_number x) (refusal_index x))

answer-most : (t : List ℕ) (r w : List ℤ) → length r ≤ max_result → length (answer_of t r w) ≤ max_listing
answer-most t r w h = go (is_input_text t)
  where
    go : (b : Bool) → length (cond b (let ns = numbers_of t in lines_of (circuit_in ns).qubits (bits_in ns) (store_in ns) (words_in ns) r w) input_line) ≤ max_listing
    go true = let ns = numbers_of t in lines_most (circuit_in ns).qubits (bits_in ns) (store_in ns) (words_in ns) r w h
    go false = omega arith

pub printed : Printed
printed t o r w h g = let q = answer-most t r w h in record { fits = omega arith; is = whole (answer_of t r w) o (omega arith) }
