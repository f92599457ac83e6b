-- A fold over the front of a list: one element more, and all of them.
use Rattle.std.proofs.Common.{◌≡◌, List, ℕ, ◌+◌, ◌≤◌, ◌<◌, length, get_or, take, sym, ap, ◌∙◌}
use Rattle.std.proofs.lemmas.List.{take_all}
use Rattle.std.proofs.lemmas.List.Sums.{fold_more}
use Rattle.std.specs.List.{fold}

module _ {A B : Type 0} (f : B → A → B) (start : B) (l : List A) (i : ℕ) {s : B} (e : s ≡ fold f start (take i l)) where
  pub fold_step : (z : A) {r : B} → i < length l → r ≡ f s (get_or l i z) → r ≡ fold f start (take (i + 1) l)
  fold_step z h q = q ∙ ap (λ (b : B). f b (get_or l i z)) e ∙ sym (fold_more f start l i z h)

  pub fold_end : length l ≤ i → s ≡ fold f start l
  fold_end h = e ∙ ap (fold f start) (take_all i l h)
