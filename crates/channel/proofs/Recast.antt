-- From form to form: what is written in one is taken to what is written in the other; half of a Hermitian block decides it.
use mathlib.Core.Path.{◌≡◌, refl, sym, ap, ◌∙◌}
use mathlib.Core.Bool.{Bool, true, cond}
use mathlib.Core.List.{List, [], ◌∷◌, ◌++◌}
use Prim.Native.Nat.{ℕ, zero, suc, ◌+◌, ◌*◌, ◌-◌, ◌/◌, ◌<◌, ◌≤◌}
use native.Mathlib.Decide.{dec_le}
use native.Mathlib.Omega.{arith}
use lib.Arith.{digits_div}
use lib.IntN.{ℤ, pos}
use borrow.Author.Tests.{ne_eqb}
use Rattle.algebra.proofs.Blocks.{joined_same}
use Rattle.exact.specs.Exact.{conj}
use Rattle.store.specs.Store.{before}
use Rattle.channel.specs.Shared.{shared}
use Rattle.channel.specs.Layout.{least, Form, form, block_size, record_size, record_at, link, next, record_words}
use Rattle.channel.specs.Recast.{relink, recast_record}
use Rattle.channel.specs.Forms.{RecastWritten, HalfDecides}
use Rattle.channel.proofs.Restore.{block_same}
use Rattle.channel.proofs.Written.{written, written_next, written_low, written_high, written-exponent, written-numbers}

pub relink_is : (F G : Form) (r : ℕ) → relink F G (pos (link F r)) ≡ pos (link G r)
relink_is F G zero = refl
relink_is F G (suc j) =
    ap (λ (b : Bool). pos (cond b 0 (record_at G ((record_at F j - 4) / record_size F)))) (ne_eqb (record_at F j) 0 (λ e. omega arith))
    ∙ ap (λ (k : ℕ). pos (record_at G k)) (by (block_size F))
  where
    by : (r : ℕ) → (4 + j * (4 + r) - 4) / (4 + r) ≡ j
    by r = let z : 4 + j * (4 + r) - 4 ≡ j * (4 + r) + 0 = omega arith in ap (λ (k : ℕ). k / (4 + r)) z ∙ digits_div j (omega arith)

pub recast-written : RecastWritten
recast-written w a b a' b' d m n block u rest =
    λ i. (pos d ∷ pos m ∷ pos n ∷ relink_is F G (least n (λ (j : ℕ). (block j).store) (λ (s : ℕ). true)) i ∷ []) ++ joined_same n _ _ record_is i
  where
    F : Form
    F = form w a b

    G : Form
    G = form w a' b'

    l : List ℤ
    l = written F d m n block rest

    record_is : (j : ℕ) → j < n → recast_record F G l (record_at F j) ≡ record_words G (next G d m n block j) (block j).store (shared (w * w) (block j).entry)
    record_is j h =
        λ i. (ap (relink F G) (written_next F d m n block rest j h) ∙ relink_is F G (least n (λ (j : ℕ). (block j).store) (before (block j).store))) i
        ∷ written_low F d m n block rest j h i ∷ written_high F d m n block rest j h i ∷ written-exponent F d m n block rest j h i
        ∷ block_same G _ (shared (w * w) (block j).entry).num (written-numbers F d m n block rest j h (u j h)) i

pub half_decides : HalfDecides
half_decides w x y hx hy e r c p q = go (dec_le r c)
  where
    go : Dec (r ≤ c) → x (r * w + c) ≡ y (r * w + c)
    go (yes l) = e r c l q
    go (no l) = hx r c p q ∙ ap conj (e c r (omega arith) p) ∙ sym (hy r c p q)
