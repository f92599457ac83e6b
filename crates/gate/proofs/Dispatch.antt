-- The kinds of each arity, their qubits, and their entries by the matrices that the code embeds.
use mathlib.Core.Path.{◌≡◌, refl, sym, ap, ◌∙◌, subst}
use mathlib.Core.Bool.{Bool, true, false, not, ◌&&◌, ◌||◌, or-false, true≢false}
use mathlib.Core.List.{List, [], ◌∷◌}
use Prim.Native.Nat.{ℕ, suc, ◌≤◌, ◌<◌}
use native.Mathlib.Omega.{arith}
use lib.Dec.{T, eqb, leb, ltb}
use lib.ListN.{length, get_or}
use borrow.Author.Tests.{leb-true, ltb-true, eqb-true, eq-eqb, not-true}
use Rattle.algebra.specs.Lists.{all_below}
use Rattle.algebra.proofs.Tests.{exhaust, and_split, holds-true}
use Rattle.exact.specs.Exact.{Exact, exact}
use Rattle.gate.specs.Gate.{Gate, gate, arity, elem, last_kind, rz, measure, reset, formed, placed, supported}
use Rattle.gate.specs.Inner.Kinds.{one_qubit, controlled_once, controlled_twice, swap, cswap}
use Rattle.gate.specs.Operators.{Small, operator, operators, no_unitary, controlled, swapped, operator_at}
use Rattle.gate.specs.Embed.{embed, gate_entry}
use Rattle.gate.specs.Inner.Entries.{valid, table_of, core_of, small_of, unitary_of, target_of, Ready, Apart2, Apart3}
use Rattle.gate.proofs.Gate.{elem_in}
use Rattle.gate.proofs.Placed.{one_table, two-table, three-table}
use Rattle.gate.proofs.Questions.{on_one, on-two, on-three, placed_on}

-- ---- kinds
abbrev angles : List ℕ
angles = 14 ∷ 17 ∷ 18 ∷ 21 ∷ 22 ∷ 23 ∷ 24 ∷ []

abbrev only : ℕ → List ℕ → ℕ → Bool
only u kinds m = not (eqb (arity m) u && not (elem m angles)) || elem m kinds

module _ {n : ℕ} {g : Gate} {j : ℕ} (ready : Ready n g j) where
  kind_low : g.kind < suc last_kind
  kind_low = let l : g.kind ≤ last_kind = leb-true g.kind last_kind (and_split (leb g.kind last_kind) _ ready.known).0 in omega arith

  able : elem g.kind angles ≡ false
  able = not-true (elem g.kind angles) (and_split (not (elem g.kind angles)) (not (eqb g.kind rz && eqb g.k 8)) ready.able).0

  kinds : (u : ℕ) (ks : List ℕ) → T (all_below (suc last_kind) (only u ks)) → arity g.kind ≡ u → elem g.kind ks ≡ true
  kinds u ks t e =
      go (eqb (arity g.kind) u) (elem g.kind angles) (elem g.kind ks) (eq-eqb (arity g.kind) u e) able
      (holds-true (exhaust (only u ks) (suc last_kind) t g.kind kind_low))
    where
      go : (a b c : Bool) → a ≡ true → b ≡ false → (not (a && not b) || c) ≡ true → c ≡ true
      go true false c e f h = h
      go true true c e f h = absurd (true≢false f)
      go false b c e f h = absurd (true≢false (sym e))

  pub one-kinds : arity g.kind ≡ 1 → elem g.kind one_qubit ≡ true
  one-kinds = kinds 1 one_qubit tt

  pub two-kinds : arity g.kind ≡ 2 → elem g.kind (swap ∷ controlled_once) ≡ true
  two-kinds = kinds 2 (swap ∷ controlled_once) tt

  pub three-kinds : arity g.kind ≡ 3 → elem g.kind (cswap ∷ controlled_twice) ≡ true
  three-kinds = kinds 3 (cswap ∷ controlled_twice) tt

  pub three_else : (u : ℕ) → u ≡ arity g.kind → (u ≡ 1 → ⊥) → (u ≡ 2 → ⊥) → arity g.kind ≡ 3
  three_else u e f h = go (eqb (arity g.kind) 1) refl (eqb (arity g.kind) 2) refl (eqb (arity g.kind) 3) refl (holds-true (exhaust small (suc last_kind) tt g.kind kind_low))
    where
      small : ℕ → Bool
      small m = eqb (arity m) 1 || (eqb (arity m) 2 || eqb (arity m) 3)

      go : (x : Bool) → eqb (arity g.kind) 1 ≡ x → (y : Bool) → eqb (arity g.kind) 2 ≡ y → (z : Bool) → eqb (arity g.kind) 3 ≡ z → (x || (y || z)) ≡ true → arity g.kind ≡ 3
      go true p y q z r t = absurd (f (e ∙ eqb-true (arity g.kind) 1 p))
      go false p true q z r t = absurd (h (e ∙ eqb-true (arity g.kind) 2 q))
      go false p false q true r t = eqb-true (arity g.kind) 3 r
      go false p false q false r t = absurd (true≢false (sym t))

  -- ---- qubits
  pub one_on : arity g.kind ≡ 1 → g.a < n
  one_on e = ltb-true g.a n (on_one n g.a g.b g.c (arity g.kind) e ∙ ready.on)

  pub two-on : arity g.kind ≡ 2 → Apart2 n g.a g.b
  two-on e =
      let h = and_split (ltb g.a n && ltb g.b n) (not (eqb g.a g.b)) (on-two n g.a g.b g.c (arity g.kind) e ∙ ready.on) in
      let k = and_split (ltb g.a n) (ltb g.b n) h.0 in
      record { first = ltb-true g.a n k.0; second = ltb-true g.b n k.1; other = not-true (eqb g.a g.b) h.1 }

  pub three-on : arity g.kind ≡ 3 → Apart3 n g.a g.b g.c
  three-on e =
      let h = and_split (ltb g.a n && (ltb g.b n && ltb g.c n)) (not (eqb g.a g.b || eqb g.a g.c) && not (eqb g.b g.c))
      (on-three n g.a g.b g.c (arity g.kind) (omega arith) ∙ ready.on) in
      let k = and_split (ltb g.a n) (ltb g.b n && ltb g.c n) h.0 in
      let m = and_split (ltb g.b n) (ltb g.c n) k.1 in
      let o = and_split (not (eqb g.a g.b || eqb g.a g.c)) (not (eqb g.b g.c)) h.1 in
      record {
        first = ltb-true g.a n k.0;
        others = record { first = ltb-true g.b n m.0; second = ltb-true g.c n m.1; other = not-true (eqb g.b g.c) o.1 };
        other = simp or-false (not-true (eqb g.a g.b || eqb g.a g.c) o.0);
      }

-- ---- entries
module _ (n j r s₀ : ℕ) where
  abbrev At : List ℕ → Small → Exact
  At qs u = embed exact n qs u r s₀

  -- of the only operator
  only_one : (qs : List ℕ) (u : Small) → j < 1 → At qs u ≡ At qs (get_or (operator u 0 ∷ []) j (operator no_unitary 0)).small
  only_one qs u l = let e : 0 ≡ j = omega arith in ap (λ (j : ℕ). embed exact n qs (get_or (operator u 0 ∷ []) j (operator no_unitary 0)).small r s₀) e

  module _ (a b c k : ℕ) where
    abbrev Entry : List ℕ → Small → ℕ → Type 0
    Entry qs u m = j < length (operators (gate m a b c k)) → At qs u ≡ gate_entry n (gate m a b c k) j r s₀

    -- by the two-by-two matrix of the gate
    pub one_entry : (m : ℕ) → elem m one_qubit ≡ true → Entry (a ∷ []) (small_of (core_of (gate m a b c k) j)) m
    one_entry = elem_in (λ (m : ℕ). Entry (a ∷ []) (small_of (core_of (gate m a b c k) j)) m) one_qubit
        (s measure, (s reset, (o 2, (o 3, (o 4, (o 5, (o 6, (o 7, (o 0, (o 1, (o 15, (o 16, tt))))))))))))
      where
        s : (m : ℕ) → j < 2 → At (a ∷ []) (small_of (table_of (operator_at (gate m 0 0 0 0) j).small)) ≡ At (a ∷ []) (operator_at (gate m 0 0 0 0) j).small
        s m l = one_table (operator_at (gate m 0 0 0 0) j).small n a r s₀

        o : (m : ℕ) → j < 1 → At (a ∷ []) (small_of (table_of (unitary_of m k))) ≡ At (a ∷ []) (get_or (operator (unitary_of m k) 0 ∷ []) j (operator no_unitary 0)).small
        o m l = one_table (unitary_of m k) n a r s₀ ∙ only_one (a ∷ []) (unitary_of m k) l

    pub controlled_core : (m : ℕ) → elem m controlled_once ≡ true → At (a ∷ b ∷ []) (controlled (small_of (core_of (gate m a b c k) j))) ≡ At (a ∷ b ∷ []) (controlled (target_of m))
    controlled_core = elem_in (λ (m : ℕ). At (a ∷ b ∷ []) (controlled (small_of (core_of (gate m a b c k) j))) ≡ At (a ∷ b ∷ []) (controlled (target_of m))) controlled_once (o 8, (o 9, (o 20, (o 25, tt))))
      where
        o : (m : ℕ) → At (a ∷ b ∷ []) (controlled (small_of (table_of (target_of m)))) ≡ At (a ∷ b ∷ []) (controlled (target_of m))
        o m = two-table (target_of m) n a b r s₀

    pub controlled-entry : (m : ℕ) → elem m controlled_once ≡ true → Entry (a ∷ b ∷ []) (controlled (target_of m)) m
    controlled-entry = elem_in (λ (m : ℕ). Entry (a ∷ b ∷ []) (controlled (target_of m)) m) controlled_once (o 8, (o 9, (o 20, (o 25, tt))))
      where
        o : (m : ℕ) → j < 1 → At (a ∷ b ∷ []) (controlled (target_of m)) ≡ At (a ∷ b ∷ []) (get_or (operator (controlled (target_of m)) 0 ∷ []) j (operator no_unitary 0)).small
        o m = only_one (a ∷ b ∷ []) (controlled (target_of m))

    pub swap-entry : (m : ℕ) → m ≡ swap → Entry (a ∷ b ∷ []) swapped m
    swap-entry m e = subst (Entry (a ∷ b ∷ []) swapped) (sym e) (only_one (a ∷ b ∷ []) swapped)

    pub twice_controlled_core : (m : ℕ) → elem m controlled_twice ≡ true → At (a ∷ b ∷ c ∷ []) (controlled (controlled (small_of (core_of (gate m a b c k) j)))) ≡ At (a ∷ b ∷ c ∷ []) (controlled (controlled (target_of m)))
    twice_controlled_core =
        elem_in (λ (m : ℕ). At (a ∷ b ∷ c ∷ []) (controlled (controlled (small_of (core_of (gate m a b c k) j)))) ≡ At (a ∷ b ∷ c ∷ []) (controlled (controlled (target_of m)))) controlled_twice
        (three-table (target_of 10) n a b c r s₀, (three-table (target_of 11) n a b c r s₀, tt))

    pub twice_controlled_entry : (m : ℕ) → elem m controlled_twice ≡ true → Entry (a ∷ b ∷ c ∷ []) (controlled (controlled (target_of m))) m
    twice_controlled_entry = elem_in (λ (m : ℕ). Entry (a ∷ b ∷ c ∷ []) (controlled (controlled (target_of m))) m) controlled_twice
        (only_one (a ∷ b ∷ c ∷ []) (controlled (controlled (target_of 10))), (only_one (a ∷ b ∷ c ∷ []) (controlled (controlled (target_of 11))), tt))

    pub controlled-swap-entry : (m : ℕ) → m ≡ cswap → Entry (a ∷ b ∷ c ∷ []) (controlled swapped) m
    controlled-swap-entry m e = subst (Entry (a ∷ b ∷ c ∷ []) (controlled swapped)) (sym e) (only_one (a ∷ b ∷ c ∷ []) (controlled swapped))

-- ---- a gate that is valid is ready
pub valid_ready : (n m : ℕ) (g : Gate) (j : ℕ) → valid n m g ≡ true → j < length (operators g) → Ready n g j
valid_ready n m g j e l =
    let a = and_split (formed g) (placed n m g && supported g) e in
    let b = and_split (placed n m g) (supported g) a.1 in
    record { known = a.0; on = placed_on n m g b.0; able = b.1; which = l }
