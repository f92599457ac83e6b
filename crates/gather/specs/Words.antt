-- Tests of many words: each in range, each even, each zero; each the same as another.
use Rattle.std.specs.Prelude.{Bool, List, ℕ, ◌+◌, leb, get_or, ℤ, pos, nat_abs}
use Rattle.algebra.specs.Dyadic.{evenℤ}
use Rattle.algebra.specs.Lists.{all_below}
use Rattle.algebra.specs.Words.{eqℤ}
use Rattle.exact.specs.Exact.{max_numerator}
use Rattle.gather.specs.declared.Seen.{Seen}

-- p holds of each of n words of l from `at` on
abbrev pub each_word : (ℤ → Bool) → List ℤ → ℕ → ℕ → Bool
each_word p l at n = all_below n (λ (i : ℕ). p (get_or l (at + i) (pos 0)))

abbrev pub all_in_range : List ℤ → ℕ → ℕ → Bool
all_in_range = each_word (λ (x : ℤ). leb (nat_abs x) max_numerator)

abbrev pub all_even : List ℤ → ℕ → ℕ → Bool
all_even = each_word evenℤ

abbrev pub all_zero : List ℤ → ℕ → ℕ → Bool
all_zero = each_word (λ (x : ℤ). eqℤ x (pos 0))

abbrev pub seen_of : List ℤ → ℕ → ℕ → Seen
seen_of l at n = record { range = all_in_range l at n; even = all_even l at n; zero = all_zero l at n }

-- n words of l from a on are those of m from b on
abbrev pub same_at : List ℤ → ℕ → List ℤ → ℕ → ℕ → Bool
same_at l a m b i = eqℤ (get_or l (a + i) (pos 0)) (get_or m (b + i) (pos 0))

abbrev pub same_words : List ℤ → ℕ → List ℤ → ℕ → ℕ → Bool
same_words l a m b n = all_below n (same_at l a m b)
