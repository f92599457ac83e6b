-- States of qubits as kets and bras, and stores as bits.
use Rattle.std.specs.Prelude.{List, [], ◌∷◌, ◌++◌, map, ℕ, zero, suc, ◌+◌, ◌/◌, ◌%◌, ◌^◌}
use Prim.Native.Char.{code}
use Rattle.store.specs.Store.{bits}
use Rattle.answers.specs.Utf8.{utf8}

-- the bits of a store from bit 0 on, or "-" where there are none
unfoldable pub store_bits : ℕ → ℕ → List ℕ
store_bits zero s = utf8 "-"
store_bits (suc m) s = map (λ b. code "0" + b) (bits (suc m) s)

-- n binary digits of x, the most significant first: qubit q of n is the bit of weight 2^(n − 1 − q)
unfoldable pub binary : ℕ → ℕ → List ℕ
binary zero x = []
binary (suc n) x = (code "0" + x / 2 ^ n % 2) ∷ binary n x

-- on no qubits there is one state, with no digits: |⟩⟨|
abbrev pub outer : ℕ → ℕ → ℕ → List ℕ
outer n x y = utf8 "|" ++ binary n x ++ utf8 "⟩⟨" ++ binary n y ++ utf8 "|"

-- row and column of a Choi block on n qubits, each output · 2^n + input
abbrev pub entry_text : ℕ → ℕ → ℕ → List ℕ
entry_text n row column = utf8 "from input " ++ outer n (row % 2 ^ n) (column % 2 ^ n) ++ utf8 " to output " ++ outer n (row / 2 ^ n) (column / 2 ^ n)
