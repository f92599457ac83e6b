-- The questions of one gate, at the kinds and arities that the code tells apart.
use Rattle.std.specs.Prelude.{Ok, Err}
use mathlib.Core.Path.{◌≡◌, sym, ◌∙◌}
use mathlib.Core.Bool.{Bool, true, not, ◌&&◌, ◌||◌, and-true, or-false, and_assoc}
use mathlib.Core.List.{[], ◌∷◌}
use Prim.Native.Nat.{ℕ, ◌≤◌}
use lib.Dec.{eqb, ltb}
use lib.ListN.{take}
use lib.Seq.{take_all}
use borrow.Author.Tests.{ne_eqb}
use Rattle.algebra.specs.Lists.{every}
use Rattle.algebra.proofs.Tests.{and_split}
use Rattle.verdict.specs.Questions.{Question, first_no}
use Rattle.verdict.proofs.Questions.{yes, first-none}
use Rattle.gate.specs.declared.judge.Asking.{Asking}
use Rattle.gate.specs.declared.judge.Asking.TheVariants.{Channel, Unitary, Placing}
use Rattle.gate.specs.Gate.{Gate, measure, qubits, distinct, placed, splits, bits}
use Rattle.gate.specs.Questions.{on_qubits, gate_questions}
use Rattle.gate.specs.Inner.Entries.{valid}
use Rattle.gate.specs.Inner.Accepted.{bits_asked, may_split, accepted}
use Rattle.gate.proofs.Gate.{valid-split}

-- ---- question 5
abbrev on : ℕ → ℕ → ℕ → ℕ → ℕ → Bool
on n u a b c = every (λ (q : ℕ). ltb q n) (take u (a ∷ b ∷ c ∷ [])) && distinct (take u (a ∷ b ∷ c ∷ []))

pub on_one : (n a b c u : ℕ) → u ≡ 1 → ltb a n ≡ on n u a b c
on_one n a b c u e = rw e (simp and-true)

pub on-two : (n a b c u : ℕ) → u ≡ 2 → (ltb a n && ltb b n) && not (eqb a b) ≡ on n u a b c
on-two n a b c u e = rw e (simp (and-true, or-false))

pub on-three : (n a b c u : ℕ) → 3 ≤ u → (ltb a n && (ltb b n && ltb c n)) && (not (eqb a b || eqb a c) && not (eqb b c)) ≡ on n u a b c
on-three n a b c u l = rw (take_all u (a ∷ b ∷ c ∷ [])) (simp (and-true, or-false))

placed-both : (n m : ℕ) (g : Gate) (r s : Bool) → r ≡ on_qubits n g → s ≡ every (λ (i : ℕ). ltb i m) (bits g) → r && s ≡ placed n m g
placed-both n m g r s e f = (λ i. e i && f i) ∙ and_assoc (every (λ (q : ℕ). ltb q n) (qubits g)) (distinct (qubits g)) (every (λ (i : ℕ). ltb i m) (bits g))

pub placed-other : (n m : ℕ) (g : Gate) (r : Bool) → (g.kind ≡ measure → ⊥) → r ≡ on_qubits n g → r ≡ placed n m g
placed-other n m g r e f = sym (and-true r) ∙ placed-both n m g r true f (rw (ne_eqb g.kind measure e))

pub placed_on : (n m : ℕ) (g : Gate) → placed n m g ≡ true → on_qubits n g ≡ true
placed_on n m g e =
    let a = and_split (every (λ (q : ℕ). ltb q n) (qubits g)) (distinct (qubits g) && every (λ (i : ℕ). ltb i m) (bits g)) e in
    let b = and_split (distinct (qubits g)) (every (λ (i : ℕ). ltb i m) (bits g)) a.1 in
    λ i. a.0 i && b.0 i

-- ---- a gate of which every answer is yes
pub accepted_passes : (a : Asking) (n i : ℕ) (g : Gate) → accepted n (bits_asked a) (may_split a) g ≡ true → Ok tt ≡ first_no (gate_questions a n i g)
accepted_passes a n i g e = sym (first-none (λ (q : Question). Err q.refusal) (Ok tt) (gate_questions a n i g) (all a e))
  where
    all : (a : Asking) → accepted n (bits_asked a) (may_split a) g ≡ true → every yes (gate_questions a n i g) ≡ true
    all (Channel m) e =
        let v = valid-split n m g (and_split (valid n m g) _ e).0 in
        λ j. v.form j && (v.place j && (v.support j && true))
    all (Placing m) e =
        let v = valid-split n m g (and_split (valid n m g) _ e).0 in
        λ j. v.form j && (v.place j && true)
    all Unitary e =
        let (a, b) = and_split (valid n 0 g) _ e in
        let v = valid-split n 0 g a in
        λ j. v.form j && (placed_on n 0 g v.place j && ((v.support j && (sym (or-false (eqb (splits g) 0)) ∙ b) j) && true))
