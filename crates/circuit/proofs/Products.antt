-- Powers as products, and products of small numbers.
use mathlib.Core.Path.{◌≡◌, sym, ap, ◌∙◌}
use Prim.Native.Nat.{ℕ, suc, ◌*◌, ◌^◌, ◌≤◌}
use native.Mathlib.Nat.{mul-le-mul, pow-succ', mul_comm, one-mul, pow-zero}

one_more : (d k : ℕ) → d ^ k * d ≡ d ^ suc k
one_more d k = mul_comm (d ^ k) d ∙ sym (pow-succ' d k)

pub square_is : (d : ℕ) → d * d ≡ d ^ 2
square_is d = ap (λ (x : ℕ). x * d) (sym (one-mul d) ∙ ap (λ (x : ℕ). x * d) (sym (pow-zero d)) ∙ one_more d 0) ∙ one_more d 1

pub cube_is : (d : ℕ) → d * d * d ≡ d ^ 3
cube_is d = ap (λ (x : ℕ). x * d) (square_is d) ∙ one_more d 2

pub fourth_is : (d : ℕ) → d * d * d * d ≡ d ^ 4
fourth_is d = ap (λ (x : ℕ). x * d) (cube_is d) ∙ one_more d 3

module _ (d : ℕ) (l : d ≤ 32) where
  pub square_small : d * d ≤ 1024
  square_small = mul-le-mul l l

  pub cube_small : d * d * d ≤ 32768
  cube_small = mul-le-mul square_small l

  pub fourth_small : d * d * d * d ≤ 1048576
  fourth_small = mul-le-mul cube_small l
