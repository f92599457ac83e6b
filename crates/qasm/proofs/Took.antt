-- What is given where a piece is due.
use Rattle.std.specs.Prelude.{Option}
use Rattle.std.specs.Bool.{then_some}
use Rattle.std.proofs.Common.{◌≡◌, refl, sym, subst, Bool, true, false, cond, List, ℕ, length}
use Rattle.qasm.specs.declared.steps.Progress.{Progress}
use Rattle.qasm.specs.Tokens.{Token}
use Rattle.qasm.specs.Forms.{Piece}
use Rattle.qasm.specs.Reading.{fits, taken}
use Rattle.qasm.specs.Inner.Progress.{with_word, names_of, seen_of, Took}

-- what is given where the piece is p and the test of the token is c
module _ {s : Progress} {g : List ℕ} {p : Piece} {t : Token} (s' : Progress) (due : s'.due ≡ s.due) (words : s'.words ≡ s.words)
    (seen : (ws : List ℕ) → seen_of s' (with_word p t (length ws) ws) ≡ taken p (seen_of s ws) t) where
  by : (c : Bool) {g' : List ℕ} → c ≡ fits p (names_of s) t → g' ≡ cond c (with_word p t s.words g) g → Took s g p t (then_some c s') g'
  by true f w = record { fitting = f; stays = (due, words); seen = seen; written = w }
  by false f w = record { fitting = f; stays = tt; seen = tt; written = w }

  pub took : {q : Piece} {r : Option Progress} {g' : List ℕ} (c : Bool) → q ≡ p → r ≡ then_some c s' → c ≡ fits p (names_of s) t → g' ≡ cond c (with_word p t s.words g) g → Took s g q t r g'
  took {q} {r} {g'} c i e f w = subst (λ (q : Piece). Took s g q t r g') (sym i) (subst (λ (r : Option Progress). Took s g p t r g') (sym e) (by c f w))

-- a piece that says no word leaves the words as they were
pub kept : (g : List ℕ) (c : Bool) → g ≡ cond c g g
kept g true = refl
kept g false = refl
