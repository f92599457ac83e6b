-- Two numbers mixed by their sum and their difference: sizes, what the two that are made are, and factors that are 2 + w and 2 − w.
use mathlib.Core.Path.{◌≡◌, sym, ap, ◌∙◌, subst, subst₂}
use mathlib.Core.Bool.{true}
use mathlib.Core.List.{List, [], ◌∷◌}
use Prim.Native.Nat.{ℕ, zero, suc, ◌+◌, ◌*◌, ◌%◌, ◌<◌, ◌≤◌}
use native.Mathlib.Omega.{arith}
use lib.Dec.{lit≤}
use lib.IntN.{ℤ, pos, negsuc, neg_ℤ, nat_abs, ◌+ℤ◌}
use Rattle.algebra.proofs.Tests.{and_split}
use Rattle.algebra.proofs.Ring.{CommRing, ℤR, mul-one, sub-zero}
use Rattle.algebra.proofs.Quadratic.{ℤ√2i}
use Rattle.algebra.proofs.Solver.{Expr, con, var, ◌⊞◌, ◌⊠◌, ⊟, eqn}
use Rattle.algebra.proofs.Bound.{bounded}
use Rattle.exact.specs.Exact.{Number, number, numbers, number_of, list_of, is_zero, narrow_numerator, max_numerator}
use Rattle.exact.specs.Inner.Sizes.{Within, room_numerator}
use Rattle.exact.proofs.Align.{widen, mul-within}
use Rattle.exact.proofs.IsZero.{zero_is}
use Rattle.rows.specs.Inner.Rows.{Mixing, mixed}
use Rattle.pauli_nodes.specs.Nodes.{turned}
use Rattle.pauli_steps.specs.Inner.Rows.{turned_number}
use Rattle.pauli_steps.proofs.Tables.{turned-within}
use Rattle.pauli_turns.specs.Inner.Turns.{root_part, more, less, are_apart}

-- ---- sizes
-- of a list that holds a number
held : {m : ℕ} (l : List ℤ) (z : Number) → l ≡ list_of z → Within m z → Within m (number_of l)
held {m} l z e w = subst (λ (l : List ℤ). Within m (number_of l)) (sym e) w

sum_within : (p q : ℕ) (x y : Number) → Within p x → Within q y → Within (p + q) (numbers.◌⊕◌ x y)
sum_within p q x y h k = record { w0 = one x.re.re y.re.re h.w0 k.w0; w1 = one x.re.im y.re.im h.w1 k.w1; w2 = one x.im.re y.im.re h.w2 k.w2; w3 = one x.im.im y.im.im h.w3 k.w3 }
  where
    one : (a b : ℤ) → nat_abs a ≤ p → nat_abs b ≤ q → nat_abs (a +ℤ b) ≤ p + q
    one a b u v = bounded (a ∷ b ∷ []) (p ∷ q ∷ []) (var 0 ⊞ var 1) (u, (v, tt))

neg_within : (p : ℕ) (x : Number) → Within p x → Within p (numbers.neg x)
neg_within p x h = record { w0 = one x.re.re h.w0; w1 = one x.re.im h.w1; w2 = one x.im.re h.w2; w3 = one x.im.im h.w3 }
  where
    one : (a : ℤ) → nat_abs a ≤ p → nat_abs (neg_ℤ a) ≤ p
    one a u = bounded (a ∷ []) (p ∷ []) (⊟ (var 0)) (u, tt)

root-within : (p : ℕ) (x : Number) → Within p x → Within p (root_part x)
root-within p x h = record { w0 = omega arith; w1 = h.w1; w2 = omega arith; w3 = h.w3 }

-- twice and four times a narrow number, and what a product is at most
abbrev two : ℕ
two = narrow_numerator + narrow_numerator

abbrev four : ℕ
four = two + two

abbrev most : ℕ
most = 6 * (narrow_numerator * two)

-- ---- the two numbers
module _ (𝓚 : CommRing) where
  infixl 60 ◌⊕◌
  infixl 70 ◌⊗◌
  open 𝓚.ops use {◌⊕◌, ◌⊗◌, neg, int, 𝟙}

  -- w·(s − v·i) and twice s + v·i, added, and the second less the first, times j
  abbrev difference : Expr
  difference = var 0 ⊠ (var 1 ⊞ ⊟ (var 2 ⊠ var 3))

  abbrev twice : Expr
  twice = (var 1 ⊞ var 2 ⊠ var 3) ⊞ (var 1 ⊞ var 2 ⊠ var 3)

  abbrev up : Expr
  up = con (pos 2) ⊞ var 0

  abbrev down : Expr
  down = con (pos 2) ⊞ ⊟ (var 0)

  module _ (w s v i : 𝓚.K) where
    first_ring : ((w ⊗ (s ⊕ neg (v ⊗ i))) ⊕ ((s ⊕ (v ⊗ i)) ⊕ (s ⊕ (v ⊗ i)))) ≡ (((int (pos 2) ⊕ w) ⊗ s) ⊕ (((int (pos 2) ⊕ neg w) ⊗ i) ⊗ v))
    first_ring = eqn 𝓚 (w ∷ s ∷ v ∷ i ∷ []) (difference ⊞ twice) (up ⊠ var 1 ⊞ down ⊠ var 3 ⊠ var 2) tt

    second_ring : (j : 𝓚.K) → (i ⊗ j) ≡ 𝟙
        → ((neg (w ⊗ (s ⊕ neg (v ⊗ i))) ⊕ ((s ⊕ (v ⊗ i)) ⊕ (s ⊕ (v ⊗ i)))) ⊗ j) ≡ (((int (pos 2) ⊕ w) ⊗ v) ⊕ (((int (pos 2) ⊕ neg w) ⊗ j) ⊗ s))
    second_ring j e =
        eqn 𝓚 (w ∷ s ∷ v ∷ i ∷ j ∷ []) ((⊟ difference ⊞ twice) ⊠ var 4) (up ⊠ var 2 ⊠ (var 3 ⊠ var 4) ⊞ down ⊠ var 4 ⊠ var 1) tt
        ∙ ap (λ (k : 𝓚.K). (((int (pos 2) ⊕ w) ⊗ v) ⊗ k) ⊕ (((int (pos 2) ⊕ neg w) ⊗ j) ⊗ s)) e
        ∙ ap (λ (k : 𝓚.K). k ⊕ (((int (pos 2) ⊕ neg w) ⊗ j) ⊗ s)) (mul-one 𝓚 ((int (pos 2) ⊕ w) ⊗ v))

-- i^t times i^u is 1
at : (t u s : ℕ) → u ≡ s → numbers.◌⊗◌ (turned t).num (turned u).num ≡ numbers.◌⊗◌ (turned t).num (turned s).num
at t u s e = ap (λ (s : ℕ). numbers.◌⊗◌ (turned t).num (turned s).num) e

pub inverse : (t u : ℕ) → t < 4 → u < 4 → (t + u) % 4 ≡ 0 → numbers.◌⊗◌ (turned t).num (turned u).num ≡ numbers.𝟙
inverse zero u h k e = at zero u 0 (omega arith)
inverse (suc zero) u h k e = at 1 u 3 (omega arith)
inverse (suc (suc zero)) u h k e = at 2 u 2 (omega arith)
inverse (suc (suc (suc zero))) u h k e = at 3 u 1 (omega arith)
inverse (suc (suc (suc (suc t)))) u h k e = absurd (omega arith)

-- what the code works out, step by step: from narrow numbers in both rows, and x
module _ (x s v : List ℤ) (t : ℕ) (hx : Within narrow_numerator (number_of x)) (hs : Within narrow_numerator (number_of s)) (hv : Within narrow_numerator (number_of v)) {b : List ℤ} (eb : b ≡ list_of (turned_number v t)) where
  abbrev R : Number
  R = root_part (number_of x)

  abbrev I : Number
  I = (turned t).num

  b-within : Within narrow_numerator (number_of b)
  b-within = held b (turned_number v t) eb (turned-within narrow_numerator (number_of v) t hv)

  pub to_add : Within room_numerator (number_of s) × Within max_numerator (number_of b)
  to_add = (widen narrow_numerator room_numerator _ (lit≤ tt) hs, widen narrow_numerator max_numerator _ (lit≤ tt) b-within)

  pub to_negate : Within room_numerator (number_of b)
  to_negate = widen narrow_numerator room_numerator _ (lit≤ tt) b-within

  module _ {sum : List ℤ} (es : sum ≡ list_of (numbers.◌⊕◌ (number_of s) (number_of b))) where
    sum-within : Within two (number_of sum)
    sum-within = held sum _ es (sum_within narrow_numerator narrow_numerator (number_of s) (number_of b) hs b-within)

    pub to_double : Within room_numerator (number_of sum) × Within max_numerator (number_of sum)
    to_double = (widen two room_numerator _ (lit≤ tt) sum-within, widen two max_numerator _ (lit≤ tt) sum-within)

  module _ {minus : List ℤ} (en : minus ≡ list_of (numbers.neg (number_of b))) where
    minus-within : Within narrow_numerator (number_of minus)
    minus-within = held minus _ en (neg_within narrow_numerator (number_of b) b-within)

    pub to_subtract : Within room_numerator (number_of s) × Within max_numerator (number_of minus)
    to_subtract = (widen narrow_numerator room_numerator _ (lit≤ tt) hs, widen narrow_numerator max_numerator _ (lit≤ tt) minus-within)

    module _ {apart : List ℤ} (ed : apart ≡ list_of (numbers.◌⊕◌ (number_of s) (number_of minus))) where
      pub to_multiply : Within two (number_of x) × Within two (number_of apart)
      to_multiply = (widen narrow_numerator two _ (lit≤ tt) hx, held apart _ ed (sum_within narrow_numerator narrow_numerator (number_of s) (number_of minus) hs minus-within))

      module _ {w : List ℤ} (ew : w ≡ list_of (numbers.◌⊗◌ R (number_of apart))) where
        w-within : Within most (number_of w)
        w-within = held w _ ew (mul-within narrow_numerator two R (number_of apart) (root-within narrow_numerator (number_of x) hx) to_multiply.1)

        pub to_change : Within room_numerator (number_of w)
        to_change = widen most room_numerator _ (lit≤ tt) w-within

        w_is : number_of w ≡ numbers.◌⊗◌ R (numbers.◌⊕◌ (number_of s) (numbers.neg (numbers.◌⊗◌ (number_of v) I)))
        w_is = ap number_of ew ∙ ap (numbers.◌⊗◌ R) (ap number_of ed ∙ ap (numbers.◌⊕◌ (number_of s)) (ap number_of en ∙ ap (λ (l : List ℤ). numbers.neg (number_of l)) eb))

        module _ {sum twice : List ℤ} (es : sum ≡ list_of (numbers.◌⊕◌ (number_of s) (number_of b))) (et : twice ≡ list_of (numbers.◌⊕◌ (number_of sum) (number_of sum))) where
          twice-within : Within four (number_of twice)
          twice-within = held twice _ et (sum_within two two (number_of sum) (number_of sum) (sum-within es) (sum-within es))

          sum_is : number_of sum ≡ numbers.◌⊕◌ (number_of s) (numbers.◌⊗◌ (number_of v) I)
          sum_is = ap number_of es ∙ ap (λ (l : List ℤ). numbers.◌⊕◌ (number_of s) (number_of l)) eb

          twice_is : number_of twice ≡ numbers.◌⊕◌ (numbers.◌⊕◌ (number_of s) (numbers.◌⊗◌ (number_of v) I)) (numbers.◌⊕◌ (number_of s) (numbers.◌⊗◌ (number_of v) I))
          twice_is = ap number_of et ∙ (λ i. numbers.◌⊕◌ (sum_is i) (sum_is i))

          pub to_first : Within room_numerator (number_of w) × Within max_numerator (number_of twice)
          to_first = (to_change, widen four max_numerator _ (lit≤ tt) twice-within)

          pub first_is : {l : List ℤ} → l ≡ list_of (numbers.◌⊕◌ (number_of w) (number_of twice))
              → number_of l ≡ numbers.◌⊕◌ (numbers.◌⊗◌ (more (number_of x)) (number_of s)) (numbers.◌⊗◌ (numbers.◌⊗◌ (less (number_of x)) I) (number_of v))
          first_is e = ap number_of e ∙ (λ i. numbers.◌⊕◌ (w_is i) (twice_is i)) ∙ first_ring ℤ√2i R (number_of s) (number_of v) I

          module _ {m : List ℤ} (em : m ≡ list_of (numbers.neg (number_of w))) where
            pub to_second : Within room_numerator (number_of m) × Within max_numerator (number_of twice)
            to_second = (held m _ em (neg_within room_numerator (number_of w) to_change), to_first.1)

            module _ {k : List ℤ} (ek : k ≡ list_of (numbers.◌⊕◌ (number_of m) (number_of twice))) where
              pub to_turn : Within room_numerator (number_of k)
              to_turn =
                  widen (most + four) room_numerator _ (lit≤ tt)
                  (held k _ ek (sum_within most four (number_of m) (number_of twice) (held m _ em (neg_within most (number_of w) w-within)) twice-within))

              pub second_is : {l : List ℤ} (u : ℕ) → numbers.◌⊗◌ I (turned u).num ≡ numbers.𝟙 → l ≡ list_of (turned_number k u)
                  → number_of l ≡ numbers.◌⊕◌ (numbers.◌⊗◌ (more (number_of x)) (number_of v)) (numbers.◌⊗◌ (numbers.◌⊗◌ (less (number_of x)) (turned u).num) (number_of s))
              second_is u o el =
                  let m_is = ap number_of em ∙ ap numbers.neg w_is in
                  ap number_of el ∙ ap (λ (z : Number). numbers.◌⊗◌ z (turned u).num) (ap number_of ek ∙ (λ i. numbers.◌⊕◌ (m_is i) (twice_is i)))
                  ∙ second_ring ℤ√2i R (number_of s) (number_of v) I (turned u).num o

-- ---- factors that are 2 + w and 2 − w
two_is : (a : ℤ) → a +ℤ negsuc 1 ≡ pos 0 → pos 2 ≡ a
two_is a e = sym (sub-zero ℤR a (pos 2) e)

opposite_is : (a b : ℤ) → a +ℤ b ≡ pos 0 → pos 0 +ℤ neg_ℤ a ≡ b
opposite_is a b e = ℤR.zero-add (neg_ℤ a) ∙ sym (sub-zero ℤR b (neg_ℤ a) (eqn ℤR (a ∷ b ∷ []) (var 1 ⊞ ⊟ (⊟ (var 0))) (var 0 ⊞ var 1) tt ∙ e))

module _ (x y : Number) (e : are_apart x y ≡ true) where
  -- what the test asks to be zero: of the whole parts, and of those before √2
  abbrev whole : Number
  whole = number (x.re.re +ℤ negsuc 1) x.im.re (y.re.re +ℤ negsuc 1) y.im.re

  abbrev root : Number
  root = number (x.re.im +ℤ y.re.im) (x.im.im +ℤ y.im.im) (pos 0) (pos 0)

  whole_zero : whole ≡ numbers.𝟘
  whole_zero = zero_is whole (and_split (is_zero whole) (is_zero root) e).0

  root_zero : root ≡ numbers.𝟘
  root_zero = zero_is root (and_split (is_zero whole) (is_zero root) e).1

  own_is : more x ≡ x
  own_is =
      let p0 = two_is x.re.re (ap (λ (z : Number). z.re.re) whole_zero) in
      let p2 = sym (ap (λ (z : Number). z.re.im) whole_zero) in
      λ i. number (p0 i) (ℤR.zero-add x.re.im i) (p2 i) (ℤR.zero-add x.im.im i)

  other_is : less x ≡ y
  other_is =
      let p0 = two_is y.re.re (ap (λ (z : Number). z.im.re) whole_zero) in
      let p1 = opposite_is x.re.im y.re.im (ap (λ (z : Number). z.re.re) root_zero) in
      let p2 = sym (ap (λ (z : Number). z.im.im) whole_zero) in
      let p3 = opposite_is x.im.im y.im.im (ap (λ (z : Number). z.re.im) root_zero) in
      λ i. number (p0 i) (p1 i) (p2 i) (p3 i)

  module _ (l : List ℤ) (t u p q d : ℕ) where
    pub apart_mixing : Mixing l x (numbers.◌⊗◌ y (turned t).num) p x (numbers.◌⊗◌ y (turned u).num) q d → Mixing l (more x) (numbers.◌⊗◌ (less x) (turned t).num) p (more x) (numbers.◌⊗◌ (less x) (turned u).num) q d
    apart_mixing m = subst₂ (λ (x y : Number). Mixing l x (numbers.◌⊗◌ y (turned t).num) p x (numbers.◌⊗◌ y (turned u).num) q d) (sym own_is) (sym other_is) m

    pub apart_mixed : mixed l (more x) (numbers.◌⊗◌ (less x) (turned t).num) p (more x) (numbers.◌⊗◌ (less x) (turned u).num) q d ≡ mixed l x (numbers.◌⊗◌ y (turned t).num) p x (numbers.◌⊗◌ y (turned u).num) q d
    apart_mixed = λ i. mixed l (own_is i) (numbers.◌⊗◌ (other_is i) (turned t).num) p (own_is i) (numbers.◌⊗◌ (other_is i) (turned u).num) q d
