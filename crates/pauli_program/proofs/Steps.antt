-- An operation goes ways whose operators are complete and weigh what the operation does.
use mathlib.Core.Path.{◌≡◌, refl, sym, subst}
use mathlib.Core.Bool.{Bool, true, false, cond}
use mathlib.Core.List.{List, [], ◌∷◌, map}
use Prim.Native.Nat.{ℕ, zero, suc, ◌^◌, ◌≤◌, ◌<◌}
use native.Mathlib.Omega.{arith}
use lib.Dec.{eqb}
use lib.ListN.{get_or}
use lib.IntN.{ℤ, pos, negsuc}
use Rattle.algebra.specs.Dyadic.{frac}
use Rattle.algebra.specs.Quadratic.{Pair, pair}
use Rattle.algebra.specs.Sum.{list_sum, δ}
use Rattle.algebra.specs.Lists.{All}
use Rattle.algebra.proofs.Tests.{exhaust, holds-true}
use Rattle.algebra.proofs.Adjoint.{dot}
use Rattle.exact.specs.Exact.{Exact, exact, number, conj, equal}
use Rattle.exact.proofs.Exact.{exacts, mul-lowest, one-by}
use Rattle.exact.proofs.Equal.{equal-true}
use Rattle.gate.specs.Operators.{one, none}
use Rattle.gate.specs.Embedding.{Matrix}
use Rattle.gate.proofs.Complete.{conjugation}
use Rattle.kraus.specs.Branch.{KrausOperator}
use Rattle.kraus.proofs.Complete.{Complete}
use Rattle.kraus.proofs.Weigh.{Weighing}
use Rattle.kraus.proofs.Weights.{graded}
use Rattle.pauli_nodes.specs.Nodes.{Reference, Node, Placed, turned, hermitian, node_matrix, axis_matrix}
use Rattle.pauli_nodes.specs.Operations.{Operation, rotate, rotate_if, measure, axis, turn_weight, weight}
use Rattle.pauli_nodes.proofs.Nodes.{axis-squares}
use Rattle.pauli_nodes.proofs.Hermitian.{hermitian_test}
use Rattle.pauli_program.specs.Operators.{Coefficients, mixed, turn_by, onto}
use Rattle.pauli_program.specs.Program.{Way, turning, ways}
use Rattle.pauli_program.specs.Claims.{Eighths}
use Rattle.pauli_program.proofs.Mixed.{Axis, mixed-complete}
use Rattle.pauli_program.proofs.Weights.{Weighs, axis-part, mixed-part}

-- the operators of ways
abbrev pub operators_of : List Way → List KrausOperator
operators_of = map (λ (w : Way). w.operator)

pub record Good (n w : ℕ) (ws : List Way) : Type 0 where
  pub complete : Complete n (operators_of ws)
  pub weighing : Weighing graded n w (operators_of ws)

-- ---- coefficients
abbrev squares : Coefficients → Exact
squares q = exact.◌⊕◌ (exact.◌⊗◌ (conj q.own) q.own) (exact.◌⊗◌ (conj q.other) q.other)

abbrev crosses : Coefficients → Exact
crosses q = exact.◌⊕◌ (exact.◌⊗◌ (conj q.own) q.other) (exact.◌⊗◌ (conj q.other) q.own)

abbrev Lights : ℕ → Coefficients → Type 0
Lights w q = graded.Part w q.own × graded.Part w q.other

pub record Row (w : ℕ) (qs : List Coefficients) : Type 0 where
  pub norms : list_sum exact squares qs ≡ one
  pub mixtures : list_sum exact crosses qs ≡ none
  pub lights : All (Lights w) qs

-- a + b i + (c + e i) ω
abbrev zω : ℤ → ℤ → ℤ → ℤ → Pair (Pair ℤ)
zω a b c e = pair (pair a b) (pair c e)

abbrev pub o : ℤ
o = pos 0

abbrev pub i : ℤ
i = pos 1

abbrev pub m : ℤ
m = negsuc 0

-- the coefficients of each rotation, computed
abbrev pub plain : ℤ → ℤ → Exact
plain x y = frac (number x o y o) 1

abbrev pub rooted : ℤ → ℤ → Exact
rooted x y = frac (number (pos 2) x o y) 2

abbrev pub both : Exact → Exact → Coefficients
both x y = record { own = x; other = y }

abbrev pub table : List Coefficients
table =
    both one none ∷ both (rooted i i) (rooted m m) ∷ both (plain i i) (plain i m) ∷ both (rooted m i) (rooted i m)
    ∷ both none one ∷ both (rooted m m) (rooted i i) ∷ both (plain i m) (plain i i) ∷ both (rooted i m) (rooted m i) ∷ []

abbrev pub entry : ℕ → Coefficients
entry k = get_or table k (both one none)

pub table_is : (k : ℕ) → k < 8 → turn_by k ≡ entry k
table_is k l =
    let a = equal-true (turn_by k).own (entry k).own (holds-true (exhaust (λ (k : ℕ). equal (turn_by k).own (entry k).own) 8 tt k l)) in
    let b = equal-true (turn_by k).other (entry k).other (holds-true (exhaust (λ (k : ℕ). equal (turn_by k).other (entry k).other) 8 tt k l)) in
    λ t. both (a t) (b t)

table-row : (k : ℕ) → k < 8 → Row (turn_weight k) (entry k ∷ [])
table-row zero l = record { norms = refl; mixtures = refl; lights = (((zω i o o o, refl), (zω o o o o, refl)), tt) }
table-row (suc zero) l = record { norms = refl; mixtures = refl; lights = (((zω i o i o, refl), (zω i o m o, refl)), tt) }
table-row (suc (suc zero)) l = record { norms = refl; mixtures = refl; lights = (((zω o o i o, refl), (zω o o o m, refl)), tt) }
table-row (suc (suc (suc zero))) l = record { norms = refl; mixtures = refl; lights = (((zω i o o i, refl), (zω i o o m, refl)), tt) }
table-row (suc (suc (suc (suc zero)))) l = record { norms = refl; mixtures = refl; lights = (((zω o o o o, refl), (zω i o o o, refl)), tt) }
table-row (suc (suc (suc (suc (suc zero))))) l = record { norms = refl; mixtures = refl; lights = (((zω i o m o, refl), (zω i o i o, refl)), tt) }
table-row (suc (suc (suc (suc (suc (suc zero)))))) l = record { norms = refl; mixtures = refl; lights = (((zω o o o m, refl), (zω o o i o, refl)), tt) }
table-row (suc (suc (suc (suc (suc (suc (suc zero))))))) l = record { norms = refl; mixtures = refl; lights = (((zω i o o m, refl), (zω i o o i, refl)), tt) }
table-row (suc (suc (suc (suc (suc (suc (suc (suc k)))))))) l = absurd (omega arith)

row : (k : ℕ) → k < 8 → Row (turn_weight k) (turn_by k ∷ [])
row k l = subst (λ (q : Coefficients). Row (turn_weight k) (q ∷ [])) (sym (table_is k l)) (table-row k l)

-- a rotation by nothing weighs nothing, and so what any other does
none_row : (k : ℕ) → k < 8 → Row (turn_weight k) (entry 0 ∷ [])
none_row zero l = table-row 0 l
none_row (suc zero) l = record { norms = refl; mixtures = refl; lights = (((zω (pos 2) o o o, refl), (zω o o o o, refl)), tt) }
none_row (suc (suc zero)) l = record { norms = refl; mixtures = refl; lights = (((zω o o i m, refl), (zω o o o o, refl)), tt) }
none_row (suc (suc (suc zero))) l = record { norms = refl; mixtures = refl; lights = (((zω (pos 2) o o o, refl), (zω o o o o, refl)), tt) }
none_row (suc (suc (suc (suc zero)))) l = table-row 0 (omega arith)
none_row (suc (suc (suc (suc (suc zero))))) l = record { norms = refl; mixtures = refl; lights = (((zω (pos 2) o o o, refl), (zω o o o o, refl)), tt) }
none_row (suc (suc (suc (suc (suc (suc zero)))))) l = record { norms = refl; mixtures = refl; lights = (((zω o o i m, refl), (zω o o o o, refl)), tt) }
none_row (suc (suc (suc (suc (suc (suc (suc zero))))))) l = record { norms = refl; mixtures = refl; lights = (((zω (pos 2) o o o, refl), (zω o o o o, refl)), tt) }
none_row (suc (suc (suc (suc (suc (suc (suc (suc k)))))))) l = absurd (omega arith)

results : Row 2 (onto 0 ∷ onto 1 ∷ [])
results = record { norms = refl; mixtures = refl; lights = (((zω i o o o, refl), (zω i o o o, refl)), (((zω i o o o, refl), (zω m o o o, refl)), tt)) }

-- ---- ways about an axis
module _ (n : ℕ) (nodes : List Node) (few : n ≤ 5) (placed : All (Placed n) nodes) (a : Reference) (own : hermitian n (axis_matrix n nodes a) ≡ true) where
  abbrev A : Matrix
  A = axis_matrix n nodes a

  axis_is : Axis exacts conjugation (2 ^ n) (axis_matrix n nodes a)
  axis_is = record {
    square = axis-squares n few nodes placed a own;
    adjoint = (hermitian_test n A).1 own;
    normal = λ r c. one-by (A r c) (mul-lowest (turned a.turns) (node_matrix n nodes a.node r c));
  }

  complete-by : (w : ℕ) (qs : List Coefficients) → Row w qs → (k l : ℕ) → k < 2 ^ n → l < 2 ^ n
      → list_sum exact (λ (q : Coefficients). dot exacts conjugation (2 ^ n) (mixed q (axis_matrix n nodes a)) k l) qs ≡ δ exact k l
  complete-by w qs r = mixed-complete exacts conjugation (2 ^ n) A axis_is (λ (q : Coefficients). q.own) (λ (q : Coefficients). q.other) qs r.norms r.mixtures

  weighs_by : (w : ℕ) (q : Coefficients) → Lights w q → Weighs w (mixed q (axis_matrix n nodes a))
  weighs_by w q (p, t) = mixed-part w q A (axis-part n nodes a) p t

  turning-good : (w k : ℕ) → Row w (turn_by k ∷ []) → Good n w (turning (axis_matrix n nodes a) k)
  turning-good w k r = record { complete = complete-by w (turn_by k ∷ []) r; weighing = (weighs_by w (turn_by k) r.lights.0, tt) }

  measure-good : (bs os : List ℕ) → Good n 2 (ways n nodes (measure a bs) os)
  measure-good bs os = record {
    complete = complete-by 2 (onto 0 ∷ onto 1 ∷ []) results;
    weighing = (weighs_by 2 (onto 0) results.lights.0, (weighs_by 2 (onto 1) results.lights.1.0, tt));
  }

  turning_if : (k : ℕ) → k < 8 → (b : Bool) → Good n (turn_weight k) (turning (axis_matrix n nodes a) (cond b k 0))
  turning_if k l true = turning-good (turn_weight k) k (row k l)
  turning_if k l false = turning-good (turn_weight k) 0 (subst (λ (q : Coefficients). Row (turn_weight k) (q ∷ [])) (sym (table_is 0 (omega arith))) (none_row k l))

pub good : (n : ℕ) (nodes : List Node) → n ≤ 5 → All (Placed n) nodes → (o : Operation) → hermitian n (axis_matrix n nodes (axis o)) ≡ true → Eighths o → (os : List ℕ) → Good n (weight o) (ways n nodes o os)
good n nodes few placed (rotate a k) h l os = turning-good n nodes few placed a h (turn_weight k) k (row k l)
good n nodes few placed (rotate_if a k j) h l os = turning_if n nodes few placed a h k l (eqb (get_or os j 0) 1)
good n nodes few placed (measure a bs) h l os = measure-good n nodes few placed a h bs os
