-- What the questions of a gate say: members of a list, lists that do not meet, and a valid gate's qubits.
use mathlib.Core.Path.{◌≡◌, refl, sym, ap}
use mathlib.Core.Bool.{Bool, true, false, ◌&&◌, ◌||◌, true≢false}
use mathlib.Core.List.{List, [], ◌∷◌}
use Prim.Native.Nat.{ℕ, ◌<◌}
use lib.Dec.{eqb, ltb}
use borrow.Author.Tests.{eqb-true, eq-eqb, ltb-true}
use Rattle.algebra.specs.Lists.{All, every}
use Rattle.algebra.proofs.Tests.{and_split, or_no, or_right}
use Rattle.algebra.proofs.Lists.{every-all}
use Rattle.gate.specs.Gate.{Gate, elem, distinct, meet, qubits, bits, formed, placed, supported}
use Rattle.gate.specs.Inner.Entries.{valid}

-- all of ss are in us
pub elem-all : (ss us : List ℕ) → ((q : ℕ) → elem q ss ≡ true → elem q us ≡ true) → All (λ (q : ℕ). elem q us ≡ true) ss
elem-all [] us h = tt
elem-all (s ∷ ss) us h =
    (h s (ap (λ (b : Bool). b || elem s ss) (eq-eqb s s refl)), elem-all ss us (λ q e. h q (or_right (eqb q s) (elem q ss) e)))

-- what holds of all holds of a member
pub elem_in : (P : ℕ → Type 0) (ss : List ℕ) → All P ss → (q : ℕ) → elem q ss ≡ true → P q
elem_in P [] h q e = absurd (true≢false (sym e))
elem_in P (s ∷ ss) h q e = go (eqb q s) refl e (elem_in P ss h.1 q)
  where
    go : (b : Bool) → eqb q s ≡ b → b || elem q ss ≡ true → (elem q ss ≡ true → P q) → P q
    go true f k r = rw (eqb-true q s f) h.0
    go false f k r = r k

pub meet_no : (ss ts : List ℕ) → meet ss ts ≡ false → (q : ℕ) → elem q ss ≡ true → elem q ts ≡ false
meet_no ss ts e = elem_in (λ (q : ℕ). elem q ts ≡ false) ss (apart ss e)
  where
    apart : (us : List ℕ) → meet us ts ≡ false → All (λ (q : ℕ). elem q ts ≡ false) us
    apart [] e = tt
    apart (u ∷ us) e = let (h, k) = or_no (elem u ts) (meet us ts) e in (h, apart us k)

-- the three questions of a valid gate
pub record Valid (n m : ℕ) (g : Gate) : Type 0 where
  pub form : formed g ≡ true
  pub place : placed n m g ≡ true
  pub support : supported g ≡ true

pub valid-split : (n m : ℕ) (g : Gate) → valid n m g ≡ true → Valid n m g
valid-split n m g e =
    let (f, h) = and_split (formed g) (placed n m g && supported g) e in
    let (p, s) = and_split (placed n m g) (supported g) h in
    record { form = f; place = p; support = s }

abbrev pub Fits : ℕ → Gate → Type 0
Fits n g = All (λ (q : ℕ). q < n) (qubits g)

pub valid-fits : (n m : ℕ) (g : Gate) → valid n m g ≡ true → Fits n g
valid-fits n m g e = every-all (λ (q : ℕ). ltb q n) (λ (q : ℕ). q < n) (λ q h. ltb-true q n h) (qubits g)
    (and_split (every (λ (q : ℕ). ltb q n) (qubits g)) (distinct (qubits g) && every (λ (i : ℕ). ltb i m) (bits g)) (valid-split n m g e).place).0

pub valid-distinct : (n m : ℕ) (g : Gate) → valid n m g ≡ true → distinct (qubits g) ≡ true
valid-distinct n m g e =
    let (q, r) = and_split (every (λ (q : ℕ). ltb q n) (qubits g)) (distinct (qubits g) && every (λ (i : ℕ). ltb i m) (bits g)) (valid-split n m g e).place in
    (and_split (distinct (qubits g)) (every (λ (i : ℕ). ltb i m) (bits g)) r).0
