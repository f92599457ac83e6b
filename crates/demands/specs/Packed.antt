-- Channels kept in fewer words: what the calls deliver can be packed, since its blocks are Hermitian, and of the plain-gate profile be written without √2 parts. A short result alone is refused.
use Rattle.std.specs.Prelude.{◌≡◌, true, List, ℕ, ◌≤◌, length, ℤ, is_ok}
use Rattle.circuit.specs.declared.limits.Limits.{Limits}
use Rattle.channel.specs.Layout.{packed, plain_only, dim_at}
use Rattle.recast.specs.Words.{size_in}
use Rattle.packed.specs.Packed.{pack_verdict}
use Rattle.plain_words.specs.Plain.{plain_write_verdict}
use Rattle.judge.specs.Call.{accepts, result_after}
use Rattle.plain.specs.Call.{plain_accepts, plain_result}
use Rattle.pauli.specs.Call as pauli

-- with a result long enough the words l are packed
abbrev pub Packable : List ℤ → Type 0
Packable l = (res : List ℤ) → size_in (packed (dim_at l)) l ≤ length res → is_ok (pack_verdict l res) ≡ true

-- and written without √2 parts
abbrev pub Rational : List ℤ → Type 0
Rational l = (res : List ℤ) → size_in (plain_only (dim_at l)) l ≤ length res → is_ok (plain_write_verdict l res) ≡ true

-- every accepted circuit, every accepted Pauli program and every accepted circuit of the profile, whatever the buffers held
abbrev pub CircuitsPack : Type 0
CircuitsPack = (n m : ℕ) (σ : List ℕ) (l : Limits) (ws : List ℕ) (r w : List ℤ) → accepts n m σ l ws r w ≡ true → Packable (result_after n m σ l ws r w)

abbrev pub ProgramsPack : Type 0
ProgramsPack = (n m : ℕ) (σ : List ℕ) (l : Limits) (ns os : List ℕ) (r w : List ℤ) → pauli.accepts n m σ l ns os r w ≡ true → Packable (pauli.result_after n m σ l ns os r w)

abbrev pub PlainWrites : Type 0
PlainWrites = (n m : ℕ) (σ : List ℕ) (l : Limits) (ws : List ℕ) (r w : List ℤ) → plain_accepts n m σ l ws r w ≡ true → Rational (plain_result n m σ l ws r w)
