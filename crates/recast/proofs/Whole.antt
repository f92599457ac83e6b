-- The words of a record and of the whole in another form.
use mathlib.Core.Path.{◌≡◌, refl, ap, ◌∙◌}
use mathlib.Core.List.{List, [], ◌∷◌, ◌++◌}
use Prim.Native.Nat.{ℕ, suc, ◌+◌, ◌*◌, ◌≤◌}
use native.Mathlib.Nat.{zero-add}
use native.Mathlib.Omega.{arith}
use lib.ListN.{length, drop}
use lib.Seq.{sets, sets-eq}
use lib.IntN.{ℤ}
use Rattle.algebra.specs.Words.{blocks, joined}
use Rattle.algebra.proofs.Blocks.{length-joined, blocks-joined, append_block}
use Rattle.channel.specs.Layout.{Form, header_size, block_size, record_size, record_at, word, count_at, block_words, numbers_at}
use Rattle.channel.specs.Recast.{relink, recast_record, recast}
use Rattle.channel.proofs.Restore.{length-block}
use Rattle.channel.proofs.Suffix.{word-from, first-from, numbers-from}
use Rattle.recast.specs.Words.{size_in, recast_into}

module _ (F G : Form) (l : List ℤ) where
  pub record_long : (at : ℕ) → length (recast_record F G l at) ≡ record_size G
  record_long at = ap (λ (k : ℕ). suc (suc (suc (suc k)))) (length-block G (numbers_at F l at)) ∙ by (block_size G)
    where
      by : (k : ℕ) → suc (suc (suc (suc k))) ≡ 4 + k
      by k = omega arith

  -- read from its first word on
  pub recast-from : (at : ℕ) → recast_record F G (drop at l) 0 ≡ recast_record F G l at
  recast-from at = λ j. relink F G (first-from l at j) ∷ word-from l at 1 j ∷ word-from l at 2 j ∷ word-from l at 3 j ∷ block_words G (numbers-from F l at j)

  abbrev recorded : ℕ → List ℤ
  recorded j = recast_record F G l (record_at F j)

  pub whole_long : length (recast F G l) ≡ size_in G l
  whole_long = ap (λ (k : ℕ). suc (suc (suc (suc k)))) (length-joined (record_size G) recorded (λ j. record_long (record_at F j)) (count_at l)) ∙ by (count_at l * record_size G)
    where
      by : (k : ℕ) → suc (suc (suc (suc k))) ≡ 4 + k
      by k = omega arith

  -- the header, then the records
  pub whole_is : (res b c : List ℤ) (n : ℕ) → n ≡ count_at l → b ≡ sets res 0 (word l 0 ∷ word l 1 ∷ word l 2 ∷ relink F G (word l 3) ∷ []) → c ≡ blocks (record_size G) b header_size n recorded → c ≡ recast_into F G l res
  whole_is res b c n e p q =
      append_block res (word l 0 ∷ word l 1 ∷ word l 2 ∷ relink F G (word l 3) ∷ []) (joined (count_at l) recorded) 0 4 refl p
      (q ∙ blocks-joined (record_size G) recorded (λ j. record_long (record_at F j)) b header_size n ∙ ap (λ (k : ℕ). sets b header_size (joined k recorded)) e)

  -- and what is kept after them
  pub into_is : (res : List ℤ) → size_in G l ≤ length res → recast_into F G l res ≡ recast F G l ++ drop (size_in G l) res
  into_is res h = sets-eq (recast F G l) res 0 (by (length (recast F G l)) whole_long) ∙ ap (λ (k : ℕ). recast F G l ++ drop k res) (zero-add (length (recast F G l)) ∙ whole_long)
    where
      by : (n : ℕ) → n ≡ size_in G l → 0 + n ≤ length res
      by n e = omega arith
