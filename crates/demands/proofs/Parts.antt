-- Two lists of questions, part by part: a part is the same in both, or is of questions whose numbers pass p and is answered by yes throughout in both or in neither.
use Rattle.std.specs.Prelude.{Ok, Err}
use mathlib.Core.Path.{◌≡◌, refl, sym, ap, ◌∙◌}
use mathlib.Core.Bool.{Bool, true, false, ◌&&◌, true≢false}
use mathlib.Core.List.{List, [], ◌++◌}
use Prim.Native.Nat.{ℕ}
use Rattle.algebra.specs.Lists.{All, every}
use Rattle.verdict.specs.Questions.{Verdict}
use Rattle.verdict.specs.Questions.{Question, first_by, first_no, decided_by}
use Rattle.verdict.proofs.Questions.{yes, every_append, append_yes, append_no, decided_among}

module _ (p : ℕ → Bool) where
  abbrev pub Named : List Question → Type 0
  Named = All (λ (q : Question). p q.number ≡ true)

  pub data Parts : List Question → List Question → Type 0 where
    none : Parts [] []
    same : {xs ys us vs : List Question} → ys ≡ xs → Parts us vs → Parts (xs ++ us) (ys ++ vs)
    faults : (xs ys : List Question) {us vs : List Question} → every yes ys ≡ every yes xs → Named xs → Named ys → Parts us vs → Parts (xs ++ us) (ys ++ vs)

  pub parts_accept : {xs ys : List Question} → Parts xs ys → every yes ys ≡ every yes xs
  parts_accept none = refl
  parts_accept (same {xs} {ys} {us} {vs} e h) = every_append ys vs ∙ (λ i. every yes (e i) && parts_accept h i) ∙ sym (every_append xs us)
  parts_accept (faults xs ys {us} {vs} e a b h) = every_append ys vs ∙ (λ i. e i && parts_accept h i) ∙ sym (every_append xs us)

  abbrev number : Question → ℕ
  number q = q.number

  abbrev refusal : Question → Verdict
  refusal q = Err q.refusal

  by : (xs us : List Question) → every yes xs ≡ false → Named xs → p (decided_by (xs ++ us)) ≡ true
  by xs us e a = ap p (append_no number 0 xs us e) ∙ decided_among p xs a e

  pub parts_fault : {xs ys : List Question} → Parts xs ys → p (decided_by ys) ≡ p (decided_by xs)
  parts_fault none = refl
  parts_fault (same {xs} {ys} {us} {vs} e h) = go (every yes xs) refl (parts_fault h)
    where
      go : (t : Bool) → every yes xs ≡ t → p (decided_by vs) ≡ p (decided_by us) → p (decided_by (ys ++ vs)) ≡ p (decided_by (xs ++ us))
      go true f r = ap p (append_yes number 0 ys vs (ap (every yes) e ∙ f)) ∙ r ∙ sym (ap p (append_yes number 0 xs us f))
      go false f r = ap p (append_no number 0 ys vs (ap (every yes) e ∙ f) ∙ ap decided_by e ∙ sym (append_no number 0 xs us f))
  parts_fault (faults xs ys {us} {vs} e a b h) = go (every yes xs) refl (parts_fault h)
    where
      go : (t : Bool) → every yes xs ≡ t → p (decided_by vs) ≡ p (decided_by us) → p (decided_by (ys ++ vs)) ≡ p (decided_by (xs ++ us))
      go true f r = ap p (append_yes number 0 ys vs (e ∙ f)) ∙ r ∙ sym (ap p (append_yes number 0 xs us f))
      go false f r = by ys vs (e ∙ f) b ∙ sym (by xs us f a)

  pub parts_refusal : {xs ys : List Question} → Parts xs ys → p (decided_by xs) ≡ false → first_no ys ≡ first_no xs
  parts_refusal none d = refl
  parts_refusal (same {xs} {ys} {us} {vs} e h) d = go (every yes xs) refl (λ k. parts_refusal h k)
    where
      go : (t : Bool) → every yes xs ≡ t → (p (decided_by us) ≡ false → first_no vs ≡ first_no us) → first_no (ys ++ vs) ≡ first_no (xs ++ us)
      go true f r = append_yes refusal (Ok tt) ys vs (ap (every yes) e ∙ f) ∙ r (sym (ap p (append_yes number 0 xs us f)) ∙ d) ∙ sym (append_yes refusal (Ok tt) xs us f)
      go false f r = append_no refusal (Ok tt) ys vs (ap (every yes) e ∙ f) ∙ ap first_no e ∙ sym (append_no refusal (Ok tt) xs us f)
  parts_refusal (faults xs ys {us} {vs} e a b h) d = go (every yes xs) refl (λ k. parts_refusal h k)
    where
      go : (t : Bool) → every yes xs ≡ t → (p (decided_by us) ≡ false → first_no vs ≡ first_no us) → first_no (ys ++ vs) ≡ first_no (xs ++ us)
      go true f r = append_yes refusal (Ok tt) ys vs (e ∙ f) ∙ r (sym (ap p (append_yes number 0 xs us f)) ∙ d) ∙ sym (append_yes refusal (Ok tt) xs us f)
      go false f r = absurd (true≢false (sym (by xs us f a) ∙ d))
