-- The matrices of the kinds: phases by the powers of ω, all others by where they stand in a table; the tests of them; and the rows of a gate.
use Rattle.std.specs.Prelude.{Bool, cond, ◌&&◌, List, [], ◌∷◌, ℕ, ℤ, pos, negsuc, ◌^◌, eqb, leb, get_or, Option, Some, None}
use Rattle.std.specs.Int.Bits.{bit_and}
use Rattle.algebra.specs.Dyadic.{frac}
use Rattle.exact.specs.Exact.{number_of, equal, omega}
use Rattle.scalar.specs.declared.Scalar.{Scalar}
use Rattle.scalar.specs.Calls.{value, scalar_of}
use Rattle.gate.specs.declared.rows.Row.{Row}
use Rattle.gate.specs.declared.tables.Core.{Core}
use Rattle.gate.specs.Gate.{elem, rz}
use Rattle.gate.specs.Inner.Kinds.{swapping}
use Rattle.gate.specs.Inner.Entries.{Table, Pair, pair_of}
use Rattle.gate.specs.Inner.Rows.{Form, over}

-- the k of a kind that is the phase diag(1, ω^k); rz is given its own
abbrev pub phase_of : ℕ → ℕ → Option ℕ
phase_of kind k =
    cond (elem kind (2 ∷ 9 ∷ 11 ∷ [])) (Some 4) (cond (eqb kind 3) (Some 2) (cond (eqb kind 4) (Some 6) (cond (eqb kind 5) (Some 1) (cond (eqb kind 6) (Some 7)
    (cond (eqb kind rz) (Some k) (cond (elem kind swapping) (Some 0) None))))))

abbrev pub zeros : List ℤ
zeros = pos 0 ∷ pos 0 ∷ pos 0 ∷ pos 0 ∷ []

-- 1 over 2^e
abbrev pub one_over : ℕ → List ℤ
one_over e = pos (2 ^ e) ∷ pos 0 ∷ pos 0 ∷ pos 0 ∷ []

-- that phase, by the power of ω
abbrev pub phase_core : ℕ → Core
phase_core k =
    let w = scalar_of (omega k) in
    record {
      low = record { own = one_over w.e; other = zeros };
      high = record { own = w.n; other = zeros };
      e = w.e;
    }

-- where another kind stands
abbrev pub place : ℕ → ℕ
place kind = cond (elem kind (0 ∷ 25 ∷ [])) 0 (cond (elem kind (1 ∷ 8 ∷ 10 ∷ [])) 1 (cond (elem kind (15 ∷ 20 ∷ [])) 2 3))

-- the numerators are those of a number over 2^k, or of a pair of numbers
abbrev pub is_over : ℕ → List ℤ → Scalar → Bool
is_over k w x = leb x.e k && equal (frac (number_of w) k) (frac (over k (value x)) k)

abbrev pub is_row : ℕ → Row → Pair → Bool
is_row k w p = is_over k w.own p.own && is_over k w.other p.other

-- the rows are those of a two-by-two matrix
abbrev pub is_core : Core → Table → Bool
is_core c t = leb c.e 1 && (is_row c.e c.low (pair_of t 0) && is_row c.e c.high (pair_of t 1))

abbrev pub no_row : Row
no_row = record { own = []; other = [] }

abbrev pub no_core : Core
no_core = record { low = no_row; high = no_row; e = 0 }

-- the table: of h, x, y and sx
abbrev pub cores : List Core
cores =
    record { low = record { own = pos 0 ∷ pos 1 ∷ pos 0 ∷ pos 0 ∷ []; other = pos 0 ∷ pos 1 ∷ pos 0 ∷ pos 0 ∷ [] }; high = record { own = pos 0 ∷ negsuc 0 ∷ pos 0 ∷ pos 0 ∷ []; other = pos 0 ∷ pos 1 ∷ pos 0 ∷ pos 0 ∷ [] }; e = 1 }
    ∷ record { low = record { own = pos 0 ∷ pos 0 ∷ pos 0 ∷ pos 0 ∷ []; other = pos 1 ∷ pos 0 ∷ pos 0 ∷ pos 0 ∷ [] }; high = record { own = pos 0 ∷ pos 0 ∷ pos 0 ∷ pos 0 ∷ []; other = pos 1 ∷ pos 0 ∷ pos 0 ∷ pos 0 ∷ [] }; e = 0 }
    ∷ record { low = record { own = pos 0 ∷ pos 0 ∷ pos 0 ∷ pos 0 ∷ []; other = pos 0 ∷ pos 0 ∷ negsuc 0 ∷ pos 0 ∷ [] }; high = record { own = pos 0 ∷ pos 0 ∷ pos 0 ∷ pos 0 ∷ []; other = pos 0 ∷ pos 0 ∷ pos 1 ∷ pos 0 ∷ [] }; e = 0 }
    ∷ record { low = record { own = pos 1 ∷ pos 0 ∷ pos 1 ∷ pos 0 ∷ []; other = pos 1 ∷ pos 0 ∷ negsuc 0 ∷ pos 0 ∷ [] }; high = record { own = pos 1 ∷ pos 0 ∷ pos 1 ∷ pos 0 ∷ []; other = pos 1 ∷ pos 0 ∷ negsuc 0 ∷ pos 0 ∷ [] }; e = 1 }
    ∷ []

abbrev pub core_at : ℕ → Core
core_at p = get_or cores p no_core

-- ---- the rows of a gate, over 2^e
-- one that it leaves as it is, and one in which the bits of two qubits that change places differ
abbrev pub kept_row : ℕ → Row
kept_row e = record { own = one_over e; other = zeros }

abbrev pub exchanged_row : ℕ → Row
exchanged_row e = record { own = zeros; other = one_over e }

-- by its two-by-two matrix c: `held` are the controls, and m the bits that the gate may change
abbrev pub rows_by : ℕ → ℕ → Core → Form
rows_by held m c = record {
  row = λ r. cond (eqb (bit_and r held) held) (cond (eqb (bit_and r m) 0) c.low (cond (eqb (bit_and r m) m) c.high (exchanged_row c.e))) (kept_row c.e);
  exponent = c.e;
}
