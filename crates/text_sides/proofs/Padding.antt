-- A store at the start of a longer row of zeros, and the part of it that is the store of a circuit.
use mathlib.Core.Path.{◌≡◌, sym, ap, ◌∙◌, subst}
use mathlib.Core.List.{List, ◌++◌, append-nil}
use Prim.Native.Nat.{ℕ, ◌+◌, ◌-◌, ◌<◌, ◌≤◌, min}
use native.Mathlib.Nat.{zero-add}
use native.Mathlib.Omega.{arith}
use lib.ListN.{length, take, drop, replicate, length-replicate, replicate-append-replicate}
use lib.Seq.{sets, sets-eq, take-append-add, take-append_seam, take_at, drop_at}
use lib.IntN.{ℤ}
use Rattle.verdict.specs.Questions.{Verdict}
use Rattle.circuit.specs.declared.limits.Limits.{Limits}
use Rattle.judge.specs.Call.{verdict_of, result_after, work_after}
use Rattle.text_sides.specs.Sides.{max_bits, store_for}

-- ---- what was put at the start of a room
module _ (bs room : List ℕ) (h : length bs ≤ length room) where
  abbrev whole : sets room 0 bs ≡ bs ++ drop (length bs) room
  whole = sets-eq bs room 0 (omega arith) ∙ ap (λ (k : ℕ). bs ++ drop k room) (zero-add (length bs))

  pub at-start : take (length bs) (sets room 0 bs) ≡ bs
  at-start = ap (take (length bs)) whole ∙ take-append_seam bs (drop (length bs) room)

-- k bytes of n: the store, and zeros behind it
pub padded : (σ : List ℕ) (k n : ℕ) → length σ ≤ k → k ≤ n → take k (σ ++ drop (length σ) (replicate n 0)) ≡ σ ++ replicate (k - length σ) 0
padded σ k n h q =
    let a = length σ in
    let b = k - a in
    let c = n - k in
    let e : n ≡ a + (b + c) = omega arith in
    let f : k ≡ a + b = omega arith in
    let zero : ℕ = 0 in
    let rest : drop a (replicate n zero) ≡ replicate b zero ++ replicate c zero =
    ap (λ (j : ℕ). drop a (replicate j zero)) e
    ∙ ap (drop a) (sym (replicate-append-replicate a (b + c) zero))
    ∙ drop_at (replicate a zero) (replicate (b + c) zero) a (length-replicate a zero)
    ∙ sym (replicate-append-replicate b c zero) in
    ap (take k) (ap (λ (l : List ℕ). σ ++ l) rest)
    ∙ ap (λ (j : ℕ). take j (σ ++ (replicate b zero ++ replicate c zero))) f
    ∙ take-append-add σ (replicate b zero ++ replicate c zero) b
    ∙ ap (λ (l : List ℕ). σ ++ l) (take_at (replicate b zero) (replicate c zero) b (length-replicate b zero))

-- the store of a circuit of m bits: short of them it is filled up, and else it is as given
pub filled-up : (σ : List ℕ) (m : ℕ) {k : ℕ} {z : List ℕ} → k ≡ min m max_bits → length σ < k → z ≡ σ ++ drop (length σ) (replicate max_bits 0) → take k z ≡ store_for m σ
filled-up σ m {k} {z} e h q =
    ap (take k) q ∙ padded σ k max_bits (omega arith) (omega (arith, e)) ∙ ap (λ (j : ℕ). σ ++ replicate (j - length σ) 0) e

pub as_given : (σ : List ℕ) (m : ℕ) {k : ℕ} → k ≡ min m max_bits → k ≤ length σ → σ ≡ store_for m σ
as_given σ m e h = let q : 0 ≡ min m max_bits - length σ = omega (arith, e) in sym (append-nil σ) ∙ ap (λ (j : ℕ). σ ++ replicate j 0) q

-- ---- a call's reply and what it leaves in the two buffers, on a store that is another's
module _ (n m : ℕ) (l : Limits) (ws : List ℕ) (r w : List ℤ) where
  abbrev Ran : Verdict → List ℤ → List ℤ → List ℕ → Type 0
  Ran v r' w' σ = (v ≡ verdict_of n m σ l ws r w) × ((r' ≡ result_after n m σ l ws r w) × (w' ≡ work_after n m σ l ws r w))

  pub ran : {σ τ : List ℕ} → σ ≡ τ → (v : Verdict) (r' w' : List ℤ) → Ran v r' w' σ → Ran v r' w' τ
  ran e v r' w' q = subst (Ran v r' w') e q
