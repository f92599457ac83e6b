-- Laws of a replay under way: of n turns i are done, one turn more, and the last.
use Rattle.std.proofs.Common.{◌≡◌, refl, sym, ap, ◌∙◌, List, ℕ, zero, suc, ◌+◌, ◌-◌, ◌≤◌, ◌<◌, arith}
use Rattle.replay.specs.declared.record.Record.{Record}
use Rattle.replay.specs.declared.numeral.Word.{Word}
use Rattle.replay.specs.declared.progress.Progress.{Progress}
use Rattle.replay.specs.Numerals.{word_at}
use Rattle.replay.specs.Tally.{none}
use Rattle.replay.specs.Progress.{progress_of, with_next, with_nexts, replay_of}

module _ (case : ℕ → List ℕ → ℕ → Record) (t : List ℕ) where
  turns_step : (n k : ℕ) (p : Progress) → n ≡ suc k → with_nexts case t n p ≡ with_nexts case t k (with_next case t p)
  unfolding with_nexts
  turns_step n k p e = ap (λ (j : ℕ). with_nexts case t j p) e

  turns_last : (n : ℕ) (p : Progress) → n ≤ 0 → with_nexts case t n p ≡ p
  unfolding with_nexts
  turns_last zero p h = refl
  turns_last (suc n) p h = absurd (omega arith)

  pub turns_begin : {w : Word} {p : Progress} → w ≡ word_at t 0 → p ≡ progress_of 0 none w.next → replay_of case t ≡ with_nexts case t (w.size - 0) p
  turns_begin {w} {p} a b =
      let none_done : w.size ≡ w.size - 0 = omega arith in
      sym ((λ i. with_nexts case t (a i).size (b i)) ∙ (λ i. with_nexts case t (word_at t 0).size (progress_of 0 none (a i).next))) ∙ ap (λ (k : ℕ). with_nexts case t k p) none_done

  module _ (n i : ℕ) (p : Progress) (e : replay_of case t ≡ with_nexts case t (n - i) p) where
    pub turns_more : {q : Progress} → i < n → q ≡ with_next case t p → replay_of case t ≡ with_nexts case t (n - (i + 1)) q
    turns_more h d = e ∙ turns_step (n - i) (n - (i + 1)) p (omega arith) ∙ ap (with_nexts case t (n - (i + 1))) (sym d)

    pub turns_end : n ≤ i → p ≡ replay_of case t
    turns_end h = sym (e ∙ turns_last (n - i) p (omega arith))
