-- Words that are cleared and have their first two set are those of no gate.
use mathlib.Core.Path.{◌≡◌, sym, ap, ◌∙◌}
use mathlib.Core.List.{List, [], ◌∷◌, ◌++◌}
use Prim.Native.Nat.{ℕ, suc, ◌+◌, ◌-◌, ◌≤◌}
use native.Mathlib.Omega.{arith}
use lib.ListN.{length, set, replicate, replicate-append-replicate}
use lib.IntN.{ℤ, pos}
use Rattle.circuit.specs.Footprint.{writes}
use Rattle.circuit.proofs.Counts.{marks_nil}
use Rattle.kept_circuit.specs.Kept.{max_bits, head_size, kept_words}
use Rattle.kept_circuit.proofs.Head.{measures-none}

pub started-words : (n m : ℕ) (l : List ℤ) → head_size ≤ length l → set (set (replicate (length l) (pos 0)) 0 (pos n)) 1 (pos m) ≡ kept_words n m [] (length l - head_size)
unfolding kept_words
started-words n m l h =
    let spare = length l - head_size in
    let size : length l ≡ suc (suc (suc (suc (suc (suc (max_bits + (length l - head_size))))))) = omega arith in
    (λ i. set (set (replicate (size i) (pos 0)) 0 (pos n)) 1 (pos m))
    ∙ (λ i. pos n ∷ pos m ∷ pos 0 ∷ pos 0 ∷ pos 0 ∷ pos (sym (marks_nil writes m) i)
    ∷ (sym (replicate-append-replicate max_bits spare (pos 0)) ∙ ap (λ (r : List ℤ). r ++ replicate spare (pos 0)) (sym (measures-none max_bits 0))) i)
