-- The entries of a circuit of the profile: those of one gate are on one side, odd for h and even for all others, and so are those of all Kraus matrices;
-- an entry of a block is a sum of products of two of them, on an even side.
use mathlib.Core.Path.{◌≡◌, refl, sym, subst}
use mathlib.Core.Bool.{Bool, true, false, cond, ◌&&◌, ◌||◌}
use mathlib.Core.List.{List, [], ◌∷◌, foldl}
use Prim.Native.Nat.{ℕ, ◌+◌, ◌*◌, ◌/◌, ◌%◌, ◌^◌}
use lib.Dec.{eqb}
use lib.ListN.{get_or}
use borrow.Author.Tests.{eqb-true}
use Rattle.algebra.specs.Lists.{All, every, filter_by}
use Rattle.algebra.specs.Sum.{δ}
use Rattle.algebra.proofs.Tests.{and_split}
use Rattle.algebra.proofs.Lists.{all_map, filter_all}
use Rattle.algebra.proofs.Perm.{gather}
use Rattle.exact.specs.Exact.{Exact, exact, conj, imaginary, inv_sqrt_two, omega as omegaPower}
use Rattle.gate.specs.Gate.{Gate, elem, qubits, rz, measure, reset}
use Rattle.gate.specs.Operators.{Small, one, none, two, controlled, hadamard, pauli_x, pauli_y, phase, root_x, no_unitary, unitaries, Operator, operator, projectors, resetters, operators}
use Rattle.gate.proofs.Gate.{elem_in}
use Rattle.kraus.specs.Branch.{Store, Branch, KrausOperator, start, kraus_operator, operators_of, gate_step, branches}
use Rattle.kraus.specs.Blocks.{survivors, alive, having, overlap, block}
use Rattle.kraus.proofs.Weigh.{Entries, Weighing, tabulate-all, embed-part, step-entries}
use Rattle.plain.specs.Profile.{plain_kinds, quarter_turns, in_profile, Plain}
use Rattle.plain.proofs.Sides.{Sided, sided, sided-conj, even-plain}
use Rattle.plain.proofs.Values.{Each, choose, each_two, each_controlled, each_swapped}

-- ---- small matrices
abbrev On : ℕ → Small → Type 0
On v = Each (Sided v)

one-even : Sided 0 one
one-even = (refl, refl)

none-on : (v : ℕ) → Sided v none
none-on = sided.zero

quarter : (k : ℕ) → elem k quarter_turns ≡ true → Sided 0 (omegaPower k)
quarter = elem_in (λ (k : ℕ). Sided 0 (omegaPower k)) quarter_turns ((refl, refl), ((refl, refl), ((refl, refl), ((refl, refl), tt))))

on-phase : (k : ℕ) → elem k quarter_turns ≡ true → On 0 (phase k)
on-phase k e = each_two (Sided 0) one none none (omegaPower k) one-even (none-on 0) (none-on 0) (quarter k e)

on-x : On 0 pauli_x
on-x = each_two (Sided 0) none one one none (none-on 0) one-even one-even (none-on 0)

on-y : On 0 pauli_y
on-y = each_two (Sided 0) none (exact.neg imaginary) imaginary none (none-on 0) (refl, refl) (refl, refl) (none-on 0)

on_sx : On 0 root_x
on_sx = each_two (Sided 0) _ _ _ _ (refl, refl) (refl, refl) (refl, refl) (refl, refl)

on_h : On 1 hadamard
on_h = each_two (Sided 1) _ _ _ _ (refl, refl) (refl, refl) (refl, refl) (refl, refl)

on-controlled : (u : Small) → On 0 u → On 0 (controlled u)
on-controlled = each_controlled (Sided 0) one-even (none-on 0)

-- ---- gates
pub record SomeSide (u : Small) : Type 0 where
  pub side : ℕ
  pub on : On side u

even-side : {u : Small} → On 0 u → SomeSide u
even-side h = record { side = 0; on = h }

no_unitary_lem : SomeSide no_unitary
no_unitary_lem = even-side (λ xs ys. none-on 0)

kind_side : (k kind : ℕ) → elem kind plain_kinds ≡ true → SomeSide (get_or (unitaries k) kind no_unitary)
kind_side k = elem_in (λ (kind : ℕ). SomeSide (get_or (unitaries k) kind no_unitary)) plain_kinds (
  record { side = 1; on = on_h },
  (
    even-side on-x,
    (
      even-side (on-phase 4 refl),
      (
        even-side (on-phase 2 refl),
        (
          even-side (on-phase 6 refl),
          (
            even-side (on-controlled pauli_x on-x),
            (
              even-side (on-controlled (phase 4) (on-phase 4 refl)),
              (
                no_unitary_lem,
                (
                  no_unitary_lem,
                  (
                    even-side on-y,
                    (
                      even-side on_sx,
                      (
                        even-side (each_swapped (Sided 0) one-even (none-on 0)),
                        (even-side (on-controlled pauli_y on-y), tt),
                      ),
                    ),
                  ),
                ),
              ),
            ),
          ),
        ),
      ),
    ),
  ),
)

unitary-side : (g : Gate) → in_profile g ≡ true → SomeSide (get_or (unitaries g.k) g.kind no_unitary)
unitary-side g e = go (elem g.kind plain_kinds) refl e
  where
    go : (b : Bool) → elem g.kind plain_kinds ≡ b → b || (eqb g.kind rz && elem g.k quarter_turns) ≡ true → SomeSide (get_or (unitaries g.k) g.kind no_unitary)
    go true f h = kind_side g.k g.kind f
    go false f h =
        let (p, q) = and_split (eqb g.kind rz) (elem g.k quarter_turns) h in
        subst (λ (kind : ℕ). SomeSide (get_or (unitaries g.k) kind no_unitary)) (sym (eqb-true g.kind rz p)) (even-side (on-phase g.k q))

-- all operators of a gate
pub record OneSide (os : List Operator) : Type 0 where
  pub side : ℕ
  pub on : All (λ (o : Operator). On side o.small) os

gate-side : (g : Gate) → in_profile g ≡ true → OneSide (operators g)
gate-side g e = go (eqb g.kind measure) (eqb g.kind reset)
  where
    i : Sided 0 one
    i = one-even

    z : Sided 0 none
    z = none-on 0

    u : SomeSide (get_or (unitaries g.k) g.kind no_unitary)
    u = unitary-side g e

    go : (a b : Bool) → OneSide (cond a projectors (cond b resetters (operator (get_or (unitaries g.k) g.kind no_unitary) 0 ∷ [])))
    go true b = record { side = 0; on = (each_two (Sided 0) one none none none i z z z, (each_two (Sided 0) none none none one z z z i, tt)) }
    go false true = record { side = 0; on = (each_two (Sided 0) one none none none i z z z, (each_two (Sided 0) none one none none z i z z, tt)) }
    go false false = record { side = u.side; on = (u.on, tt) }

-- ---- branches
pub record Branches (bs : List Branch) : Type 0 where
  pub side : ℕ
  pub on : All (Entries sided side) bs

module _ (n : ℕ) where
  operators-side : (g : Gate) (s : OneSide (operators g)) → Weighing sided n s.side (operators_of n g)
  operators-side g s =
      all_map (λ (o : Operator). On s.side o.small) (λ (K : KrausOperator). (r c : ℕ) → Sided s.side (K.entry r c)) (kraus_operator n g)
      (λ o h. embed-part sided n s.side (qubits g) o.small h) (operators g) s.on

  steps_side : (gs : List Gate) → every in_profile gs ≡ true → (bs : List Branch) → Branches bs → Branches (foldl (gate_step n) bs gs)
  steps_side [] e bs b = b
  steps_side (g ∷ gs) e bs b =
      let (p, q) = and_split (in_profile g) (every in_profile gs) e in
      let s = gate-side g p in
      steps_side gs q (gate_step n bs g) (record { side = s.side + b.side; on = step-entries sided n s.side (operators_of n g) (operators-side g s) b.side bs b.on })

  start-side : (σ : Store) → Branches (start n σ)
  start-side σ = record {
    side = 0;
    on = (
      tabulate-all (Sided 0) (2 ^ n * 2 ^ n) 0 (λ (p : ℕ). δ exact (p / 2 ^ n) (p % 2 ^ n)) none
          (λ p. choose (Sided 0) (eqb (p / 2 ^ n) (p % 2 ^ n)) one none one-even (none-on 0)) (none-on 0),
      tt,
    );
  }

-- ---- blocks
module _ (v i j : ℕ) where
  overlap-side : (b : Branch) → Entries sided v b → Sided (v + v) (overlap i j b)
  overlap-side b h =
      let x = get_or b.matrix i exact.𝟘 in
      let y = get_or b.matrix j exact.𝟘 in
      sided.mul v v x (conj y) (h i) (sided-conj v y (h j))

  gather-side : (bs : List Branch) → All (Entries sided v) bs → (x : Exact) → Sided (v + v) x → Sided (v + v) (gather exact.◌⊕◌ (overlap i j) x bs)
  gather-side [] h x k = k
  gather-side (b ∷ bs) h x k = gather-side bs h.1 (exact.◌⊕◌ x (overlap i j b)) (sided.add (v + v) x (overlap i j b) k (overlap-side b h.0))

-- no entry of a block has a √2 part
pub plain-block : (n : ℕ) (σ : Store) (gs : List Gate) → every in_profile gs ≡ true → (τ : Store) (i j : ℕ) → Plain (block (survivors (branches n σ gs)) τ i j)
plain-block n σ gs e τ i j =
    let b = steps_side n gs e (start n σ) (start-side n σ) in
    even-plain b.side _ (gather-side b.side i j (filter_by (having τ) (survivors (branches n σ gs)))
    (filter_all (Entries sided b.side) (having τ) (survivors (branches n σ gs)) (filter_all (Entries sided b.side) alive (branches n σ gs) b.on))
    exact.𝟘 (none-on (b.side + b.side)))
