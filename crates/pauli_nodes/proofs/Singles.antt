-- A Pauli of one qubit, placed on n, is the matrix of its mask form: where its entries lie and which power of i each is, computed at every row and column below 32.
use mathlib.Core.Path.{◌≡◌, refl, ap, ◌∙◌}
use mathlib.Core.Bool.{Bool, true, false, cond}
use mathlib.Core.List.{List, [], ◌∷◌}
use Prim.Native.Nat.{ℕ, zero, suc, ◌+◌, ◌-◌, ◌*◌, ◌/◌, ◌%◌, ◌^◌, ◌≤◌, ◌<◌}
use native.Mathlib.Nat.{mod-lt}
use native.Mathlib.Omega.{arith}
use lib.Bits.{bit_and, bit_xor}
use lib.Dec.{eqb}
use lib.ListN.{get_or}
use Rattle.exact.specs.Exact.{Exact, exact, imaginary, power_of}
use Rattle.gate.specs.Operators.{Small, none, pauli_x, pauli_y, phase}
use Rattle.gate.specs.Embed.{bit, embed}
use Rattle.gate.specs.Embedding.{Equal}
use Rattle.gate.proofs.Placed.{cleared, agree-one}
use Rattle.pauli_nodes.specs.Nodes.{turned, pauli}
use Rattle.pauli_nodes.specs.Inner.Masks.{Mask, mask, parity, mask_matrix, identity_mask, pauli_mask}
use Rattle.pauli_nodes.proofs.Computed.{small, equal3}

-- an entry by its code: a power of i, or 4 for 0
coded : ℕ → Exact
coded k = cond (eqb k 4) none (turned k)

-- the code of an entry of a mask form, and of a matrix on the qubit of weight 2^w with codes ks, row after row
abbrev mask_code : Mask → ℕ → ℕ → ℕ
mask_code m r c = cond (eqb r (bit_xor c m.x)) ((m.turns + 2 * parity (bit_and m.z c)) % 4) 4

abbrev clr : ℕ → ℕ → ℕ
clr w r = r - r / 2 ^ w % 2 * 2 ^ w

abbrev placed_code : List ℕ → ℕ → ℕ → ℕ → ℕ
placed_code ks w r c = cond (eqb (clr w r) (clr w c)) (get_or ks (2 * (r / 2 ^ w % 2) + c / 2 ^ w % 2) 4) 4

mask_coded : (m : Mask) (r c : ℕ) → coded (mask_code m r c) ≡ mask_matrix m r c
unfolding coded
mask_coded m r c = go (eqb r (bit_xor c m.x))
  where
    t : ℕ
    t = m.turns + 2 * parity (bit_and m.z c)

    low : (k : ℕ) → k < 4 → coded k ≡ turned k
    low zero l = refl
    low (suc zero) l = refl
    low (suc (suc zero)) l = refl
    low (suc (suc (suc zero))) l = refl
    low (suc (suc (suc (suc k)))) l = absurd (omega arith)

    again : t % 4 % 4 ≡ t % 4
    again = omega arith

    go : (b : Bool) → coded (cond b (t % 4) 4) ≡ cond b (turned t) none
    go true = low (t % 4) (mod-lt t (omega arith)) ∙ ap (power_of imaginary) again
    go false = refl

-- the codes of a small matrix
abbrev Codes : Small → List ℕ → Type 0
Codes u ks = (u (0 ∷ []) (0 ∷ []) ≡ coded (get_or ks 0 4)) × (u (0 ∷ []) (1 ∷ []) ≡ coded (get_or ks 1 4)) × (u (1 ∷ []) (0 ∷ []) ≡ coded (get_or ks 2 4)) × (u (1 ∷ []) (1 ∷ []) ≡ coded (get_or ks 3 4))

codes_at : (u : Small) (ks : List ℕ) → Codes u ks → (x y : ℕ) → x < 2 → y < 2 → u (x ∷ []) (y ∷ []) ≡ coded (get_or ks (2 * x + y) 4)
codes_at u ks (a, b, c, d) zero zero l m = a
codes_at u ks (a, b, c, d) zero (suc zero) l m = b
codes_at u ks (a, b, c, d) (suc zero) zero l m = c
codes_at u ks (a, b, c, d) (suc zero) (suc zero) l m = d
codes_at u ks h (suc (suc x)) y l m = absurd (omega arith)
codes_at u ks h zero (suc (suc y)) l m = absurd (omega arith)
codes_at u ks h (suc zero) (suc (suc y)) l m = absurd (omega arith)

placed : (n q : ℕ) → n ≤ 5 → q < n → (u : Small) (ks : List ℕ) → Codes u ks → (m : Mask)
    → ((r c : ℕ) → r < 32 → c < 32 → placed_code ks (n - 1 - q) r c ≡ mask_code m r c) → Equal (2 ^ n) (embed exact n (q ∷ []) u) (mask_matrix m)
unfolding coded
placed n q few l u ks h m same r c hr hc =
    ap (λ (t : Bool). cond t (u (bit n q r ∷ []) (bit n q c ∷ [])) none) (agree-one n q r c l hr hc)
    ∙ go (eqb (cleared n q r) (cleared n q c))
    ∙ ap coded (same r c (small few r hr) (small few c hc)) ∙ mask_coded m r c
  where
    go : (b : Bool) → cond b (u (bit n q r ∷ []) (bit n q c ∷ [])) none ≡ coded (cond b (get_or ks (2 * bit n q r + bit n q c) 4) 4)
    go true = codes_at u ks h (bit n q r) (bit n q c) (mod-lt (r / 2 ^ (n - 1 - q)) (omega arith)) (mod-lt (c / 2 ^ (n - 1 - q)) (omega arith))
    go false = refl

module _ (n q : ℕ) (few : n ≤ 5) (l : q < n) where
  w-small : n - 1 - q < 5
  w-small = omega arith

  abbrev Stands : ℕ → Type 0
  Stands p = Equal (2 ^ n) (embed exact n (q ∷ []) (pauli p)) (mask_matrix (pauli_mask (2 ^ (n - 1 - q)) p))

  one_is : Equal (2 ^ n) (embed exact n (q ∷ []) (phase 0)) (mask_matrix identity_mask)
  unfolding coded
  one_is = placed n q few l (phase 0) (0 ∷ 4 ∷ 4 ∷ 0 ∷ []) (refl, refl, refl, refl) identity_mask
      (λ r c hr hc. equal3 (placed_code (0 ∷ 4 ∷ 4 ∷ 0 ∷ [])) (λ (w r c : ℕ). mask_code identity_mask r c) 5 32 32 tt (n - 1 - q) r c w-small hr hc)

  pub single_is : (p : ℕ) → Stands p
  unfolding coded
  single_is zero = one_is
  single_is (suc zero) = placed n q few l pauli_x (4 ∷ 0 ∷ 0 ∷ 4 ∷ []) (refl, refl, refl, refl) (mask (2 ^ (n - 1 - q)) 0 0)
      (λ r c hr hc. equal3 (placed_code (4 ∷ 0 ∷ 0 ∷ 4 ∷ [])) (λ (w r c : ℕ). mask_code (mask (2 ^ w) 0 0) r c) 5 32 32 tt (n - 1 - q) r c w-small hr hc)
  single_is (suc (suc zero)) = placed n q few l pauli_y (4 ∷ 3 ∷ 1 ∷ 4 ∷ []) (refl, refl, refl, refl) (mask (2 ^ (n - 1 - q)) (2 ^ (n - 1 - q)) 1)
      (λ r c hr hc. equal3 (placed_code (4 ∷ 3 ∷ 1 ∷ 4 ∷ [])) (λ (w r c : ℕ). mask_code (mask (2 ^ w) (2 ^ w) 1) r c) 5 32 32 tt (n - 1 - q) r c w-small hr hc)
  single_is (suc (suc (suc zero))) = placed n q few l (phase 4) (0 ∷ 4 ∷ 4 ∷ 2 ∷ []) (refl, refl, refl, refl) (mask 0 (2 ^ (n - 1 - q)) 0)
      (λ r c hr hc. equal3 (placed_code (0 ∷ 4 ∷ 4 ∷ 2 ∷ [])) (λ (w r c : ℕ). mask_code (mask 0 (2 ^ w) 0) r c) 5 32 32 tt (n - 1 - q) r c w-small hr hc)
  single_is (suc (suc (suc (suc p)))) = one_is
