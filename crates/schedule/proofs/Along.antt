-- A question of each position: the first that is answered by no is named.
use Rattle.std.specs.Prelude.{Ok, Err}
use mathlib.Core.Path.{◌≡◌, refl, sym, ap, ◌∙◌}
use mathlib.Core.Bool.{Bool, true, false, cond}
use Prim.Native.Nat.{ℕ, zero, suc, ◌+◌, ◌≤◌, ◌<◌}
use native.Mathlib.Decide.{dec_lt}
use native.Mathlib.Omega.{arith}
use Rattle.algebra.specs.Lists.{every}
use Rattle.algebra.proofs.Tests.{and_split}
use Rattle.verdict.specs.declared.Refusal.TheVariants.{NotScheduleAt}
use Rattle.verdict.specs.Questions.{first_no}
use Rattle.verdict.proofs.Questions as questions
use Rattle.schedule.specs.Questions.{along}

module _ (p : ℕ → Bool) where
  -- every answer is yes
  pub along-yes : (i n : ℕ) → ((k : ℕ) → i ≤ k → k < i + n → p k ≡ true) → first_no (along p i n) ≡ Ok tt
  along-yes i zero h = refl
  along-yes i (suc n) h =
      ap (λ (b : Bool). cond b (first_no (along p (suc i) n)) (Err (NotScheduleAt i))) (h i (omega arith) (omega arith))
      ∙ along-yes (suc i) n (λ k l m. h k (omega arith) (omega arith))

  pub along-all : (i n : ℕ) → every questions.yes (along p i n) ≡ true → (k : ℕ) → i ≤ k → k < i + n → p k ≡ true
  along-all i zero e k l m = absurd (omega arith)
  along-all i (suc n) e k l m = let (a, b) = and_split (p i) (every questions.yes (along p (suc i) n)) e in go a (along-all (suc i) n b k) (dec_lt i k)
    where
      go : p i ≡ true → (suc i ≤ k → k < suc i + n → p k ≡ true) → Dec (i < k) → p k ≡ true
      go a r (yes q) = r q (omega arith)
      go a r (no q) = let s : k ≡ i = omega arith in ap p s ∙ a

  -- position k is the first at which the answer is no
  pub record First (i n k : ℕ) : Type 0 where
    pub above : i ≤ k
    pub inside : k < i + n
    pub fails : p k ≡ false
    pub before : (j : ℕ) → i ≤ j → j < k → p j ≡ true

  pub along-first : (i n k : ℕ) → First i n k → first_no (along p i n) ≡ Err (NotScheduleAt k)
  along-first i zero k f = absurd (omega (arith, f.above, f.inside))
  along-first i (suc n) k f = go (along-first (suc i) n k) (dec_lt i k)
    where
      go : (First (suc i) n k → first_no (along p (suc i) n) ≡ Err (NotScheduleAt k)) → Dec (i < k) → first_no (along p i (suc n)) ≡ Err (NotScheduleAt k)
      go r (yes q) =
          ap (λ (b : Bool). cond b (first_no (along p (suc i) n)) (Err (NotScheduleAt i))) (f.before i (omega arith) q)
          ∙ r (record { above = q; inside = omega (arith, f.inside); fails = f.fails; before = λ j l m. f.before j (omega arith) m })
      go r (no q) =
          let s : i ≡ k = omega (arith, f.above) in
          ap (λ (b : Bool). cond b (first_no (along p (suc i) n)) (Err (NotScheduleAt i))) (ap p s ∙ f.fails) ∙ ap (λ (j : ℕ). Err (NotScheduleAt j)) s

  pub along-named : (i n k : ℕ) → first_no (along p i n) ≡ Err (NotScheduleAt k) → First i n k
  along-named i zero k e = absurd (cc)
  along-named i (suc n) k e = go (p i) refl e (along-named (suc i) n k)
    where
      later : p i ≡ true → First (suc i) n k → First i (suc n) k
      later h f = record { above = omega (arith, f.above); inside = omega (arith, f.inside); fails = f.fails; before = λ j l m. here j l m (dec_lt i j) }
        where
          here : (j : ℕ) → i ≤ j → j < k → Dec (i < j) → p j ≡ true
          here j l m (yes q) = f.before j q m
          here j l m (no q) = let s : j ≡ i = omega arith in ap p s ∙ h

      go : (b : Bool) → p i ≡ b → cond b (first_no (along p (suc i) n)) (Err (NotScheduleAt i)) ≡ Err (NotScheduleAt k) → (first_no (along p (suc i) n) ≡ Err (NotScheduleAt k) → First (suc i) n k) → First i (suc n) k
      go true h e r = later h (r e)
      go false h e r = let s : i ≡ k = cc in record { above = omega arith; inside = omega arith; fails = ap p (sym s) ∙ h; before = λ j l m. absurd (omega arith) }
