-- Buffers that are zero: what circuit_channel leaves in them, and wiped again.
use mathlib.Core.Path.{◌≡◌, refl, sym, ap, ◌∙◌}
use mathlib.Core.Bool.{Bool, true, false, cond}
use mathlib.Core.List.{List, ◌++◌}
use Prim.Native.Nat.{ℕ, ◌+◌, ◌-◌, ◌≤◌}
use native.Mathlib.Omega.{arith}
use lib.ListN.{length, drop, replicate, length-append, length-drop, replicate-append-replicate}
use lib.Seq.{drop_at}
use lib.IntN.{ℤ, pos}
use Rattle.gate.specs.Gate.{gates_of}
use Rattle.circuit.specs.declared.limits.Limits.{Limits}
use Rattle.collect.specs.Delivered.{overwritten}
use Rattle.judge.specs.Delivered.{circuit_words}
use Rattle.judge.specs.Call.{worked, accepts, result_after, work_after}
use Rattle.judge.proofs.Accepted.{sound, channel_room}
use Rattle.work_list.specs.Serving.{zeros}
use Rattle.work_list.specs.Inner.Weighing.{Blank}

-- zeros over zeros
zeros_over : (k n : ℕ) → k ≤ n → overwritten (zeros k) (zeros n) ≡ zeros n
zeros_over k n h =
    let e : n ≡ k + (n - k) = omega arith in
    let z : ℤ = pos 0 in
    ap (λ (r : List ℤ). zeros k ++ r)
    (ap (λ (j : ℕ). drop (length (zeros k)) (replicate j z)) e ∙ ap (drop (length (zeros k))) (sym (replicate-append-replicate k (n - k) z)) ∙ drop_at (zeros k) (zeros (n - k)) (length (zeros k)) refl)
    ∙ replicate-append-replicate k (n - k) z ∙ ap (λ (j : ℕ). replicate j z) (sym e)

module _ (n m : ℕ) (σ : List ℕ) (l : Limits) (ws : List ℕ) (r w : List ℤ) where
  -- the work words stay zero
  pub work_kept : Blank w → work_after n m σ l ws r w ≡ w
  work_kept z = go (accepts n m σ l ws r w) refl
    where
      go : (b : Bool) → accepts n m σ l ws r w ≡ b → cond b (overwritten (replicate (worked n m ws) (pos 0)) w) w ≡ w
      go false e = refl
      go true e =
          let k = worked n m ws in
          ap (overwritten (zeros k)) z ∙ zeros_over k (length w) (sound n m σ l ws r w e).work_room ∙ sym z

  -- the result is as long as it was
  pub result_long : length (result_after n m σ l ws r w) ≡ length r
  result_long = go (accepts n m σ l ws r w) refl
    where
      go : (b : Bool) → accepts n m σ l ws r w ≡ b → length (cond b (overwritten (circuit_words n m σ (gates_of ws)) r) r) ≡ length r
      go false e = refl
      go true e =
          let c = circuit_words n m σ (gates_of ws) in
          omega (arith, length-append c (drop (length c) r), length-drop (length c) r, channel_room (sound n m σ l ws r w e))

-- wiped, it is what it was
pub wiped_again : {x r : List ℤ} {k : ℕ} → x ≡ zeros k → k ≡ length r → Blank r → x ≡ r
wiped_again e h z = e ∙ ap zeros h ∙ sym z
