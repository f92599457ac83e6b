-- What is claimed of the two forms of effects.
use Rattle.std.specs.Prelude.{◌≡◌, true, false, List, ℕ, ◌+◌, ◌*◌, ◌≤◌, ◌<◌, length, ℤ, is_ok}
use Rattle.channel.specs.Layout.{effects, header_size, record_head, entry_size, record_at, word, dim_at, count_at}
use Rattle.effects.specs.Effects.{effects_verdict, result_of, povm_of}

-- where the numerators of entry k of effect j begin
abbrev pub numerator_place : ℕ → ℕ → ℕ → ℕ
numerator_place d j k = record_at (effects d) j + record_head + k * entry_size false

-- words of n effects of dimension d: those of `new` are those of `old`, with the rows and columns of each effect exchanged
pub record Exchanged (d n : ℕ) (old new : List ℤ) : Type 0 where
  pub long : length new ≡ length old
  pub header : (i : ℕ) → i < header_size → word new i ≡ word old i
  pub head : (j i : ℕ) → j < n → i < record_head → word new (record_at (effects d) j + i) ≡ word old (record_at (effects d) j + i)
  pub entries : (j r c i : ℕ) → j < n → r < d → c < d → i < entry_size false → word new (numerator_place d j (r * d + c) + i) ≡ word old (numerator_place d j (c * d + r) + i)
  pub after : (i : ℕ) → record_at (effects d) n ≤ i → word new i ≡ word old i

-- of every channel that is accepted, Hermitian or not: what povm_effects leaves, beside what classical_blocks leaves
abbrev pub Transposes : Type 0
Transposes = (l res : List ℤ) → is_ok (effects_verdict l res) ≡ true → Exchanged (dim_at l) (count_at l) (result_of l res) (povm_of l res)
