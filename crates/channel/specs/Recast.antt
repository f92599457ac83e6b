-- From form to form, in the order of the records: packing is from `channels` to `packed`, unpacking back.
use Rattle.std.specs.Prelude.{cond, List, [], ◌∷◌, ◌++◌, ℕ, ◌+◌, ◌-◌, ◌/◌, eqb, ℤ, pos, nat_abs}
use Rattle.algebra.specs.Words.{joined}
use Rattle.channel.specs.Layout.{Form, header_size, word, count_at, block_words, record_size, record_at, numbers_at}

module _ (F G : Form) where
  -- the index in G that matches an index in F
  abbrev pub relink : ℤ → ℤ
  relink z = pos (cond (eqb (nat_abs z) 0) 0 (record_at G ((nat_abs z - header_size) / record_size F)))

  abbrev pub recast_record : List ℤ → ℕ → List ℤ
  recast_record l at = relink (word l at) ∷ word l (at + 1) ∷ word l (at + 2) ∷ word l (at + 3) ∷ block_words G (numbers_at F l at)

  abbrev pub recast : List ℤ → List ℤ
  recast l = (word l 0 ∷ word l 1 ∷ word l 2 ∷ relink (word l 3) ∷ []) ++ joined (count_at l) (λ (j : ℕ). recast_record l (record_at F j))
