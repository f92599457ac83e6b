-- A line that is written reads back, for each form of a gate.
use mathlib.Core.Path.{◌≡◌, refl, sym, ap, ◌∙◌}
use mathlib.Core.Bool.{Bool, true, false, cond, ◌&&◌}
use mathlib.Core.List.{List, [], ◌∷◌, ◌++◌, foldl, append_assoc}
use Prim.Native.Nat.{ℕ, suc, ◌+◌, ◌-◌, ◌≤◌}
use native.Mathlib.Nat.{zero-add, suc-add}
use native.Mathlib.Omega.{arith}
use lib.Dec.{eqb, leb}
use lib.ListN.{length, set, length-append}
use borrow.Author.Tests.{leb-true, eqb-true}
use Rattle.algebra.specs.Lists.{All, concat_map}
use Rattle.algebra.proofs.Tests.{and_split}
use Rattle.gate.specs.Gate.{gate, measure, reset, formed}
use Rattle.verdict.specs.declared.Refusal.TheVariants.{BadText}
use Rattle.text.specs.Ascii.{ascii}
use Rattle.text.specs.Decimal.{is_digit, value, max_number, decimal}
use Rattle.text.proofs.RoundTrip.{round_trip}
use Rattle.qasm.specs.Tokens.{arrow, run, Token, token, tokens, is_index}
use Rattle.qasm.specs.Forms.{Piece, fixed, sign, index, operand, one, two, three, measured, Entry, table}
use Rattle.qasm.specs.Reading.{Seen, seen, State, due, fault, step}
use Rattle.qasm.specs.Writing.{registers, print, words, line}
use Rattle.qasm.specs.Claims.{small}
use Rattle.qasm.proofs.Lexing.{number-token, index-written}

set_past : (xs ys : List ℕ) (i a : ℕ) → set (xs ++ ys) (length xs + i) a ≡ xs ++ set ys i a
set_past [] ys i a = ap (λ (k : ℕ). set ys k a) (zero-add i)
set_past (x ∷ xs) ys i a = ap (λ (k : ℕ). set (x ∷ (xs ++ ys)) k a) (suc-add (length xs) i) ∙ ap (λ (r : List ℕ). x ∷ r) (set_past xs ys i a)

-- ---- a line before other bytes, piece by piece
abbrev pub printed : List ℕ → List ℕ → List Piece → List ℕ → List ℕ
printed ns ws [] rest = rest
printed ns ws (p ∷ ps) rest = print ns ws p ++ printed ns ws ps rest

module _ (ns ws : List ℕ) where
  printed_is : (ps : List Piece) (rest : List ℕ) → concat_map (print ns ws) ps ++ rest ≡ printed ns ws ps rest
  printed_is [] rest = refl
  printed_is (p ∷ ps) rest = append_assoc (print ns ws p) (concat_map (print ns ws) ps) rest ∙ ap (λ (r : List ℕ). print ns ws p ++ r) (printed_is ps rest)

  pub line_is : (o : List ℕ) (ps : List Piece) (rest : List ℕ) → line ns ws o ps ++ rest ≡ o ++ (32 ∷ printed ns ws ps (10 ∷ rest))
  line_is o ps rest =
      append_assoc o (32 ∷ (concat_map (print ns ws) ps ++ (10 ∷ []))) rest
      ∙ ap (λ (r : List ℕ). o ++ (32 ∷ r)) (append_assoc (concat_map (print ns ws) ps) (10 ∷ []) rest ∙ printed_is ps (10 ∷ rest))

-- ---- from a state on
abbrev pub go : State → ℕ → List ℕ → State
go st at bs = foldl step st (tokens at 0 bs)

-- where a number is due and the digits of v stand, v is read
pub read_number : (st : State) (f : ℕ → State) → ((t : Token) → step st t ≡ cond (is_index t) (f (value t.bytes)) (fault BadText t.at))
    → (v : ℕ) → v ≤ max_number → (r : ℕ) (rs : List ℕ) (at : ℕ) → is_digit r ≡ false
    → (R : State) → ((at : ℕ) → go (f v) at (r ∷ rs) ≡ R) → go st at (decimal v ++ r ∷ rs) ≡ R
read_number st f e v h r rs at g R k =
    let s = round_trip v (omega arith) in
    ap (foldl step st) (number-token (decimal v) at r rs s.some s.digits g)
    ∙ ap (λ (q : State). foldl step q (tokens (at + length (decimal v)) 0 (r ∷ rs)))
    (e (token at (decimal v)) ∙ (λ i. cond (index-written v at h i) (f (s.is i)) (fault BadText at)))
    ∙ k (at + length (decimal v))

-- word w of the last gate
pub put : (ws : List ℕ) (k a b c d w v : ℕ) → set (ws ++ (k ∷ a ∷ b ∷ c ∷ d ∷ [])) (length (ws ++ (k ∷ a ∷ b ∷ c ∷ d ∷ [])) - 5 + w) v ≡ ws ++ set (k ∷ a ∷ b ∷ c ∷ d ∷ []) w v
put ws k a b c d w v =
    let G = k ∷ a ∷ b ∷ c ∷ d ∷ [] in
    let e : length (ws ++ G) - 5 + w ≡ length ws + w = omega (arith, length-append ws G) in
    ap (λ (j : ℕ). set (ws ++ G) j v) e ∙ set_past ws G w v

module _ (n m : ℕ) where
  abbrev pub declared-both : List ℕ → Seen
  declared-both ws = seen registers (n ∷ m ∷ []) ws

  abbrev pub between : List ℕ → State
  between ws = due [] (declared-both ws)

  -- an operand, whose number becomes word w of the last gate
  module _ (ws : List ℕ) (k a b c d w v : ℕ) (h : v ≤ max_number) (ps : List Piece) (rest : List ℕ) (at : ℕ) (R : State) where
    abbrev opening : List ℕ
    opening = ws ++ (k ∷ a ∷ b ∷ c ∷ d ∷ [])

    abbrev Then : Type 0
    Then = (at : ℕ) → go (due (ps) (declared-both (ws ++ set (k ∷ a ∷ b ∷ c ∷ d ∷ []) w v))) at rest ≡ R

    index_read : Then → (at : ℕ) → go (due (index w ∷ fixed (ascii "]") ∷ ps) (declared-both opening)) at (decimal v ++ 93 ∷ rest) ≡ R
    unfolding tokens run
    index_read q at =
        read_number (due (index w ∷ fixed (ascii "]") ∷ ps) (declared-both opening))
        (λ (v : ℕ). due (fixed (ascii "]") ∷ ps) (declared-both (set opening (length opening - 5 + w) v)))
        (λ t. refl) v h 93 rest at refl R
        (λ at. ap (λ (ws : List ℕ). go (due (ps) (declared-both ws)) (suc at) rest) (put ws k a b c d w v) ∙ q (suc at))

    qubit_read : Then → go (due (operand 0 w ps) (declared-both opening)) at (113 ∷ 91 ∷ (decimal v ++ 93 ∷ rest)) ≡ R
    unfolding tokens run
    qubit_read q = index_read q (suc (suc at))

    bit-read : Then → go (due (operand 1 w ps) (declared-both opening)) at (99 ∷ 91 ∷ (decimal v ++ 93 ∷ rest)) ≡ R
    unfolding tokens run
    bit-read q = index_read q (suc (suc at))

  -- ---- the four forms, after the name
  module _ (kind a b c k : ℕ) (ws rest : List ℕ) (at : ℕ) (R : State) where
    abbrev Back : List Piece → List ℕ → Type 0
    Back form g =
        ((at : ℕ) → go (between (ws ++ g)) at rest ≡ R)
        → go (due form (declared-both (ws ++ (kind ∷ 0 ∷ 0 ∷ 0 ∷ 0 ∷ [])))) at (printed [] (words (gate kind a b c k)) form (10 ∷ rest)) ≡ R

    pub one_back : a ≤ max_number → Back one (kind ∷ a ∷ 0 ∷ 0 ∷ 0 ∷ [])
    unfolding tokens run
    one_back ha q = qubit_read ws kind 0 0 0 0 1 a ha (sign ";" ∷ []) (59 ∷ 10 ∷ rest) at R (λ at. q (suc (suc at)))

    pub two_back : a ≤ max_number → b ≤ max_number → Back two (kind ∷ a ∷ b ∷ 0 ∷ 0 ∷ [])
    unfolding tokens run
    two_back ha hb q =
        qubit_read ws kind 0 0 0 0 1 a ha (sign "," ∷ operand 0 2 (sign ";" ∷ [])) (44 ∷ 113 ∷ 91 ∷ (decimal b ++ 93 ∷ 59 ∷ 10 ∷ rest)) at R
        (λ at. qubit_read ws kind a 0 0 0 2 b hb (sign ";" ∷ []) (59 ∷ 10 ∷ rest) (suc at) R (λ at. q (suc (suc at))))

    pub three_back : a ≤ max_number → b ≤ max_number → c ≤ max_number → Back three (kind ∷ a ∷ b ∷ c ∷ 0 ∷ [])
    unfolding tokens run
    three_back ha hb hc q =
        qubit_read ws kind 0 0 0 0 1 a ha (sign "," ∷ operand 0 2 (sign "," ∷ operand 0 3 (sign ";" ∷ []))) (44 ∷ 113 ∷ 91 ∷ (decimal b ++ 93 ∷ 44 ∷ 113 ∷ 91 ∷ (decimal c ++ 93 ∷ 59 ∷ 10 ∷ rest))) at R
        (λ at. qubit_read ws kind a 0 0 0 2 b hb (sign "," ∷ operand 0 3 (sign ";" ∷ [])) (44 ∷ 113 ∷ 91 ∷ (decimal c ++ 93 ∷ 59 ∷ 10 ∷ rest)) (suc at) R
        (λ at. qubit_read ws kind a b 0 0 3 c hc (sign ";" ∷ []) (59 ∷ 10 ∷ rest) (suc at) R (λ at. q (suc (suc at)))))

    pub measured_back : a ≤ max_number → b ≤ max_number → Back measured (kind ∷ a ∷ b ∷ 0 ∷ 0 ∷ [])
    unfolding tokens run
    measured_back ha hb q =
        qubit_read ws kind 0 0 0 0 1 a ha (fixed arrow ∷ operand 1 2 (sign ";" ∷ [])) (45 ∷ 62 ∷ 99 ∷ 91 ∷ (decimal b ++ 93 ∷ 59 ∷ 10 ∷ rest)) at R
        (λ at. bit-read ws kind a 0 0 0 2 b hb (sign ";" ∷ []) (59 ∷ 10 ∷ rest) (suc (suc at)) R (λ at. q (suc (suc at))))

  -- ---- a gate of a table's entry
  module _ (kind a b c k : ℕ) (h : small (words (gate kind a b c k)) ≡ true) where
    h₁ : (leb a max_number && (leb b max_number && (leb c max_number && (leb k max_number && true)))) ≡ true
    h₁ = (and_split (leb kind max_number) _ h).1

    h₂ : (leb b max_number && (leb c max_number && (leb k max_number && true))) ≡ true
    h₂ = (and_split (leb a max_number) _ h₁).1

    a_small : a ≤ max_number
    a_small = leb-true a max_number (and_split (leb a max_number) _ h₁).0

    b-small : b ≤ max_number
    b-small = leb-true b max_number (and_split (leb b max_number) _ h₂).0

    c_small : c ≤ max_number
    c_small = leb-true c max_number (and_split (leb c max_number) _ (and_split (leb b max_number) _ h₂).1).0

    abbrev Gate_back : List Piece → Type 0
    Gate_back form =
        (ws rest : List ℕ) (at : ℕ) (R : State) → ((at : ℕ) → go (between (ws ++ words (gate kind a b c k))) at rest ≡ R)
        → go (due form (declared-both (ws ++ (kind ∷ 0 ∷ 0 ∷ 0 ∷ 0 ∷ [])))) at (printed [] (words (gate kind a b c k)) form (10 ∷ rest)) ≡ R

    is_zero : (x : ℕ) (t : Bool) → (eqb x 0 && t) ≡ true → 0 ≡ x
    is_zero x t e = sym (eqb-true x 0 (and_split (eqb x 0) t e).0)

    gate-one : (eqb k 0 && (eqb b 0 && (eqb c 0 && true))) ≡ true → Gate_back one
    gate-one z ws rest at R q =
        let z₁ = (and_split (eqb k 0) _ z).1 in
        let z₂ = (and_split (eqb b 0) _ z₁).1 in
        one_back kind a b c k ws rest at R a_small
        (λ at. (λ i. go (between (ws ++ (kind ∷ a ∷ is_zero b _ z₁ i ∷ is_zero c _ z₂ i ∷ is_zero k _ z i ∷ []))) at rest) ∙ q at)

    module _ (z : (eqb k 0 && (eqb c 0 && true)) ≡ true) where
      rest-zero : (ws rest : List ℕ) (at : ℕ) → go (between (ws ++ (kind ∷ a ∷ b ∷ 0 ∷ 0 ∷ []))) at rest ≡ go (between (ws ++ words (gate kind a b c k))) at rest
      rest-zero ws rest at = λ i. go (between (ws ++ (kind ∷ a ∷ b ∷ is_zero c true (and_split (eqb k 0) _ z).1 i ∷ is_zero k _ z i ∷ []))) at rest

      gate-two : Gate_back two
      gate-two ws rest at R q = two_back kind a b c k ws rest at R a_small b-small (λ at. rest-zero ws rest at ∙ q at)

      gate-measured : Gate_back measured
      gate-measured ws rest at R q = measured_back kind a b c k ws rest at R a_small b-small (λ at. rest-zero ws rest at ∙ q at)

    gate-three : (eqb k 0 && true) ≡ true → Gate_back three
    gate-three z ws rest at R q =
        three_back kind a b c k ws rest at R a_small b-small c_small (λ at. (λ i. go (between (ws ++ (kind ∷ a ∷ b ∷ c ∷ is_zero k true z i ∷ []))) at rest) ∙ q at)

  abbrev pub Reads : Entry → Type 0
  Reads e =
      (a b c k : ℕ) → small (words (gate e.kind a b c k)) ≡ true → formed (gate e.kind a b c k) ≡ true
      → (ws rest : List ℕ) (at : ℕ) (R : State) → ((at : ℕ) → go (between (ws ++ words (gate e.kind a b c k))) at rest ≡ R)
      → go (between ws) at (e.name ++ (32 ∷ printed [] (words (gate e.kind a b c k)) e.form (10 ∷ rest))) ≡ R

  pub reads_all : All Reads table
  unfolding tokens run
  reads_all = (
    (λ a b c k h f ws rest at R q. gate-one 1 a b c k h f ws rest _ R q),
    (
      (λ a b c k h f ws rest at R q. gate-one 15 a b c k h f ws rest _ R q),
      (
        (λ a b c k h f ws rest at R q. gate-one 2 a b c k h f ws rest _ R q),
        (
          (λ a b c k h f ws rest at R q. gate-one 0 a b c k h f ws rest _ R q),
          (
            (λ a b c k h f ws rest at R q. gate-one 3 a b c k h f ws rest _ R q),
            (
              (λ a b c k h f ws rest at R q. gate-one 4 a b c k h f ws rest _ R q),
              (
                (λ a b c k h f ws rest at R q. gate-one 5 a b c k h f ws rest _ R q),
                (
                  (λ a b c k h f ws rest at R q. gate-one 6 a b c k h f ws rest _ R q),
                  (
                    (λ a b c k h f ws rest at R q. gate-two 8 a b c k h f ws rest _ R q),
                    (
                      (λ a b c k h f ws rest at R q. gate-two 9 a b c k h f ws rest _ R q),
                      (
                        (λ a b c k h f ws rest at R q. gate-two 20 a b c k h f ws rest _ R q),
                        (
                          (λ a b c k h f ws rest at R q. gate-two 25 a b c k h f ws rest _ R q),
                          (
                            (λ a b c k h f ws rest at R q. gate-two 19 a b c k h f ws rest _ R q),
                            (
                              (λ a b c k h f ws rest at R q. gate-three 10 a b c k h f ws rest _ R q),
                              (
                                (λ a b c k h f ws rest at R q. gate-three 26 a b c k h f ws rest _ R q),
                                (
                                  (λ a b c k h f ws rest at R q. gate-measured measure a b c k h f ws rest _ R q),
                                  (
                                    (λ a b c k h f ws rest at R q. gate-one reset a b c k h f ws rest _ R q),
                                    tt,
                                  ),
                                ),
                              ),
                            ),
                          ),
                        ),
                      ),
                    ),
                  ),
                ),
              ),
            ),
          ),
        ),
      ),
    ),
  )
