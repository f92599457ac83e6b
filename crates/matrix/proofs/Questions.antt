-- The questions of the answer: what a well-formed matrix is, and the reply by their three answers.
use Rattle.std.specs.Prelude.{Result, Ok, Err}
use mathlib.Core.Path.{◌≡◌, refl, ap, ◌∙◌, subst}
use mathlib.Core.Bool.{Bool, true, false, not, cond, ◌&&◌, ◌||◌}
use mathlib.Core.List.{List, [], ◌∷◌}
use Prim.Native.Nat.{ℕ, ◌*◌, ◌≤◌}
use native.Mathlib.Nat.{mul-le-mul}
use native.Mathlib.Omega.{arith}
use lib.Dec.{T, eqb}
use lib.ListN.{length}
use lib.IntN.{ℤ}
use borrow.Author.Tests.{eqb-true}
use Rattle.algebra.specs.Lists.{all_below, some, All}
use Rattle.algebra.proofs.Tests.{and_split}
use Rattle.verdict.specs.declared.Refusal.{Refusal}
use Rattle.verdict.specs.declared.Refusal.TheVariants.{TooLarge, Malformed}
use Rattle.cells.specs.Cells.{well_formed_at, cell_size}
use Rattle.matrix.specs.declared.Phase.{Phase}
use Rattle.matrix.specs.declared.Phase.TheVariants.{Different}
use Rattle.matrix.specs.Phase.{is_dim, entry_of, well_formed_matrix, narrow_matrix, in_phase, phase_of, phase_answer}
use Rattle.matrix.specs.Inner.Operands.{Operands}
use Rattle.matrix.proofs.Operands.{operands}

-- ---- the dims
-- what follows from each element that passes, where some element does
some_elim : {A Q : Type 0} (p : A → Bool) (xs : List A) → some p xs ≡ true → All (λ (x : A). p x ≡ true → Q) xs → Q
some_elim p [] e h = absurd (subst (λ (b : Bool). T (not b)) e tt)
some_elim {A} {Q} p (x ∷ xs) e h = go (p x) refl e (λ f. some_elim p xs f h.1)
  where
    go : (b : Bool) → p x ≡ b → (b || some p xs) ≡ true → (some p xs ≡ true → Q) → Q
    go true f e r = h.0 f
    go false f e r = r e

pub dim_small : (d : ℕ) → is_dim d ≡ true → d ≤ 32
dim_small d e =
    some_elim (eqb d) (1 ∷ 2 ∷ 4 ∷ 8 ∷ 16 ∷ 32 ∷ []) e
    (λ h. omega (arith, eqb-true d 1 h), (λ h. omega (arith, eqb-true d 2 h), (λ h. omega (arith, eqb-true d 4 h), (λ h. omega (arith, eqb-true d 8 h), (λ h. omega (arith, eqb-true d 16 h), (λ h. omega (arith, eqb-true d 32 h), tt))))))

pub square_small : (d : ℕ) → is_dim d ≡ true → d * d ≤ 1024
square_small d e = mul-le-mul (dim_small d e) (dim_small d e)

-- ---- a well-formed matrix
pub record Formed (d : ℕ) (l : List ℤ) : Type 0 where
  pub dim : is_dim d ≡ true
  pub long : length l ≡ d * d * cell_size
  pub entries : all_below (d * d) (λ (i : ℕ). well_formed_at l (i * cell_size)) ≡ true

module _ {d : ℕ} {l : List ℤ} where
  pub formed : well_formed_matrix d l ≡ true → Formed d l
  formed e =
      let p = and_split (is_dim d) (eqb (length l) (d * d * cell_size) && all_below (d * d) (λ (i : ℕ). well_formed_at l (i * cell_size))) e in
      let q = and_split (eqb (length l) (d * d * cell_size)) (all_below (d * d) (λ (i : ℕ). well_formed_at l (i * cell_size))) p.1 in
      record { dim = p.0; long = eqb-true (length l) (d * d * cell_size) q.0; entries = q.1 }

  pub formed_operands : Formed d l → narrow_matrix d l ≡ true → Operands l (d * d)
  formed_operands f e = operands l (d * d) (omega (arith, f.long)) f.entries e

-- ---- the reply
abbrev pub agreed : Bool → Result Phase Refusal
agreed b = Ok (phase_of b)

pub agreeing : {p : Phase} {b k : Bool} → p ≡ phase_of b → b ≡ k → ◌≡◌ {A = Result Phase Refusal} (Ok p) (agreed k)
agreeing e f = (λ i. Ok (e i)) ∙ ap agreed f

module _ (d : ℕ) (l : List ℤ) (e : ℕ) (m : List ℤ) where
  -- by the answers of the three questions
  abbrev reply : Bool → Bool → Bool → Result Phase Refusal
  reply a b c = cond a (cond b (cond c (Ok (phase_of (in_phase (d * d) (entry_of l) (entry_of m)))) (Err TooLarge)) (Ok Different)) (Err Malformed)

  module _ {a b c : Bool} (f : (well_formed_matrix d l && well_formed_matrix e m) ≡ a) (g : eqb d e ≡ b) (h : (narrow_matrix d l && narrow_matrix e m) ≡ c) where
    pub replied : phase_answer d l e m ≡ reply a b c
    replied = λ i. reply (f i) (g i) (h i)
