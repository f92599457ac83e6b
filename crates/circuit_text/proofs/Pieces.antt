-- Laws of a text's pieces, and what is read once some of them are.
use mathlib.Core.Path.{◌≡◌, refl, sym, ap, ◌∙◌, subst}
use mathlib.Core.Bool.{Bool, true, false, cond, ◌&&◌}
use mathlib.Core.List.{List, [], ◌∷◌, map}
use Prim.Native.Nat.{ℕ, zero, suc, ◌+◌, ◌-◌, ◌<◌, ◌≤◌}
use Prim.Native.Char.{code}
use native.Mathlib.Numerals.{add-one}
use native.Mathlib.Omega.{arith}
use lib.Dec.{eqb}
use lib.ListN.{length, get_or, drop, set, drop_of_length-le, length-map, length-set}
use lib.Seq.{drop-cons, get_or-drop, sets}
use native.Mathlib.Nat.{add-zero}
use borrow.Author.Tests.{eq-eqb, ne_eqb}
use Rattle.algebra.specs.Lists.{every}
use Rattle.algebra.proofs.Tests.{and_split}
use Rattle.text.specs.Decimal.{is_blank, value, is_number}
use Rattle.circuit_text.specs.Text.{body_length, onto, pieces}
use Rattle.std.specs.Prelude.{Option, Some, None}
use Rattle.std.specs.List.{slice_split}
use Rattle.std.specs.Fn.{CalledAt}
use Rattle.std.specs.Iterator.{Yields}
use Rattle.std.specs.declared.slice.Split.{Split}
use Rattle.std.specs.Slice.Iter.{split_steps, split_rest, split_done, split_callee}
use Rattle.std.proofs.lemmas.Iterator.{YieldsList}
use Rattle.std.proofs.lemmas.Iterator.Splits.{YieldsList-from_slice_split}
use Rattle.std.proofs.lemmas.Iterator.Consumers.{YieldsList-turn, YieldsList-end}
use denote.Ref.{Bor}
use denote.Param.Members.{Mut}

-- ---- the text without its last newline
module _ (t : List ℕ) where
  pub body_empty : length t ≡ 0 → length t ≡ body_length t
  unfolding body_length
  body_empty e = by t e
    where
      by : (t : List ℕ) → length t ≡ 0 → length t ≡ cond (eqb (get_or t (length t - 1) 0) (code "\n")) (length t - 1) (length t)
      by [] e = refl
      by (b ∷ bs) e = absurd (omega arith)

  pub body_less : get_or t (length t - 1) 0 ≡ code "\n" → length t - 1 ≡ body_length t
  unfolding body_length
  body_less e = ap (λ (c : Bool). cond c (length t - 1) (length t)) (sym (eq-eqb _ (code "\n") e))

  pub body-whole : (get_or t (length t - 1) 0 ≡ code "\n" → ⊥) → length t ≡ body_length t
  unfolding body_length
  body-whole e = ap (λ (c : Bool). cond c (length t - 1) (length t)) (sym (ne_eqb _ (code "\n") e))

  pub body-inside : body_length t ≤ length t
  unfolding body_length
  body-inside = by (eqb (get_or t (length t - 1) 0) (code "\n"))
    where
      by : (c : Bool) → cond c (length t - 1) (length t) ≤ length t
      by true = omega arith
      by false = omega arith

-- ---- the pieces, as std cuts the text
pub pieces_split : (t : List ℕ) → slice_split is_blank t ≡ pieces t
unfolding pieces
pieces_split [] = refl
pieces_split (b ∷ bs) = ap (λ (ps : List (List ℕ)). cond (is_blank b) ([] ∷ ps) (onto b ps)) (pieces_split bs)

-- the pieces xs are given, and then r: the next piece, or none, as they are all
module _ {F : Type 0} (g : Mut F (Bor ℕ × Unit {0}) Bool) {f : F} (s u : Split ℕ F) (t : List ℕ) (xs : List (Bor (List ℕ))) (given : Yields (split_steps g) s xs u)
    (rest : split_rest s ≡ t) (more : split_done s ≡ false) (callee : split_callee s ≡ f) (tests : (x : ℕ) (b : Bool) (q : F) → CalledAt g f x b q → (q ≡ f) × (b ≡ is_blank x)) where
  abbrev cut : YieldsList (split_steps g) (λ x. x.now) s (slice_split is_blank t)
  cut = YieldsList-from_slice_split g is_blank t rest more callee tests

  pub next_piece : {r : Option (Bor (List ℕ))} (v : Split ℕ F) (x : Bor (List ℕ)) → r ≡ Some x → split_steps g u r v → (length xs < length (pieces t)) × (x.now ≡ get_or (pieces t) (length xs) x.now)
  next_piece {r} v x e step = subst (λ (ps : List (List ℕ)). (length xs < length ps) × (x.now ≡ get_or ps (length xs) x.now)) (pieces_split t) (YieldsList-turn cut xs u given r v x e step)

  pub no_piece : {r : Option (Bor (List ℕ))} (v : Split ℕ F) → r ≡ None → split_steps g u r v → length xs ≡ length (pieces t)
  no_piece {r} v e step = (YieldsList-end cut xs u given r v e step).1 ∙ ap length (pieces_split t)

-- ---- lists
drop-map : {A B : Type 0} (f : A → B) (xs : List A) (n : ℕ) → drop n (map f xs) ≡ map f (drop n xs)
drop-map f xs zero = refl
drop-map f [] (suc n) = refl
drop-map f (x ∷ xs) (suc n) = drop-map f xs n

first-drop : (xs : List ℕ) (n : ℕ) → get_or (drop n xs) 0 0 ≡ get_or xs n 0
first-drop xs n = get_or-drop n xs 0 0 ∙ ap (λ (k : ℕ). get_or xs k 0) (add-zero n)

-- ---- the first n pieces are numbers
pub record Along (ps : List (List ℕ)) (n : ℕ) : Type 0 where
  pub few : n ≤ length ps
  pub numbers : every is_number ps ≡ every is_number (drop n ps)

module _ (ps : List (List ℕ)) {n : ℕ} (a : Along ps n) where
  pub along-all : n ≡ length ps → every is_number ps ≡ true
  along-all e = a.numbers ∙ ap (every is_number) (drop_of_length-le ps (omega arith))

  -- the next piece is p
  module _ {p : List ℕ} (h : n < length ps) (e : p ≡ get_or ps n p) where
    next : drop n ps ≡ p ∷ drop (n + 1) ps
    next = drop-cons ps n p h ∙ (λ i. sym e i ∷ drop (sym (add-one n) i) ps)

    rest-numbers : every is_number ps ≡ (is_number p && every is_number (drop (n + 1) ps))
    rest-numbers = a.numbers ∙ ap (every is_number) next

    pub along_bad : is_number p ≡ false → every is_number ps ≡ false
    along_bad f = rest-numbers ∙ ap (λ (b : Bool). b && every is_number (drop (n + 1) ps)) f

    pub along-sound : every is_number ps ≡ true → is_number p ≡ true
    along-sound f = (and_split (is_number p) (every is_number (drop (n + 1) ps)) (sym rest-numbers ∙ f)).0

    pub along-more : is_number p ≡ true → Along ps (n + 1)
    along-more f = record { few = omega arith; numbers = rest-numbers ∙ ap (λ (b : Bool). b && every is_number (drop (n + 1) ps)) f }

    pub values-next : drop n (map value ps) ≡ value p ∷ drop (n + 1) (map value ps)
    values-next = drop-map value ps n ∙ ap (map value) next ∙ ap (λ (vs : List ℕ). value p ∷ vs) (sym (drop-map value ps (n + 1)))

    pub along-value : get_or (map value ps) n 0 ≡ value p
    along-value = sym (first-drop (map value ps) n) ∙ ap (λ (vs : List ℕ). get_or vs 0 0) values-next

-- ---- the numbers read into a room that was l₀
pub record Taken (ps : List (List ℕ)) (l₀ l : List ℕ) (n : ℕ) : Type 0 where
  pub along : Along ps n
  pub room : sets l₀ 0 (map value ps) ≡ sets l n (drop n (map value ps))
  pub same : length l ≡ length l₀

module _ (ps : List (List ℕ)) (l₀ l : List ℕ) {n : ℕ} (g : Taken ps l₀ l n) where
  pub taken-all : n ≡ length ps → l ≡ sets l₀ 0 (map value ps)
  taken-all e = sym (g.room ∙ ap (sets l n) (drop_of_length-le (map value ps) (omega (arith, length-map ps value))))

  pub taken_more : {p : List ℕ} → n < length ps → p ≡ get_or ps n p → is_number p ≡ true → Taken ps l₀ (set l n (value p)) (n + 1)
  taken_more {p} h e f = record {
    along = along-more ps g.along h e f;
    room = g.room ∙ ap (sets l n) (values-next ps g.along h e) ∙ ap (λ (k : ℕ). sets (set l n (value p)) k (drop (n + 1) (map value ps))) (sym (add-one n));
    same = length-set l n (value p) ∙ g.same;
  }
