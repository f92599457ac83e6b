-- What is tried on every kind, and on every k of rz, holds of a gate.
use mathlib.Core.Path.{◌≡◌, sym}
use mathlib.Core.Bool.{Bool, true, false, cond, not, ◌&&◌, ◌||◌, true≢false}
use Prim.Native.Nat.{ℕ, suc, ◌<◌}
use native.Mathlib.Omega.{arith}
use lib.Dec.{eqb, leb}
use borrow.Author.Tests.{eqb-true, leb-true}
use Rattle.algebra.specs.Lists.{all_below, every}
use Rattle.algebra.proofs.Tests.{and_split, all-at}
use Rattle.gate.specs.Gate.{Gate, gate, last_kind, rz, unused, formed, supported}

abbrev pub plain : ℕ → ℕ → Gate
plain kind k = gate kind 0 0 0 k

abbrev pub all_kinds : (ℕ → ℕ → Bool) → Bool
all_kinds p = all_below (suc last_kind) (λ (kind : ℕ). all_below (cond (eqb kind rz) 9 1) (p kind))

-- of those that are supported
abbrev pub all_supported : (ℕ → ℕ → Bool) → Bool
all_supported p = all_kinds (λ (kind k : ℕ). not (supported (plain kind k)) || p kind k)

module _ (g : Gate) (form : formed g ≡ true) where
  words : (leb g.kind last_kind ≡ true) × (cond (eqb g.kind rz) (leb g.k 8) (eqb g.k 0) ≡ true)
  words =
      let rest = every (λ (w : ℕ). eqb w 0) (unused g) in
      let (a, b) = and_split (leb g.kind last_kind) (cond (eqb g.kind rz) (leb g.k 8) (eqb g.k 0) && rest) form in
      (a, (and_split (cond (eqb g.kind rz) (leb g.k 8) (eqb g.k 0)) rest b).0)

  k_below : g.k < cond (eqb g.kind rz) 9 1
  k_below = go (eqb g.kind rz) words.1
    where
      go : (b : Bool) → cond b (leb g.k 8) (eqb g.k 0) ≡ true → g.k < cond b 9 1
      go true e = omega (arith, leb-true g.k 8 e)
      go false e = omega (arith, eqb-true g.k 0 e)

  pub at-gate : (p : ℕ → ℕ → Bool) → all_kinds p ≡ true → p g.kind g.k ≡ true
  at-gate p e =
      let h : g.kind < suc last_kind = omega (arith, leb-true g.kind last_kind words.0) in
      all-at (cond (eqb g.kind rz) 9 1) (p g.kind) (all-at (suc last_kind) (λ (kind : ℕ). all_below (cond (eqb kind rz) 9 1) (p kind)) e g.kind h) g.k k_below

  pub at-supported : supported g ≡ true → (p : ℕ → ℕ → Bool) → all_supported p ≡ true → p g.kind g.k ≡ true
  at-supported able p e = go (supported g) able (at-gate (λ (kind k : ℕ). not (supported (plain kind k)) || p kind k) e)
    where
      go : (b : Bool) {c : Bool} → b ≡ true → not b || c ≡ true → c ≡ true
      go true f h = h
      go false f h = absurd (true≢false (sym f))
