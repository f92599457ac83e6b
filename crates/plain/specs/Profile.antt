-- The plain-gate profile: the gates of a rack that has no t gate and stores no √2 parts.
use Rattle.std.specs.Prelude.{◌≡◌, Bool, ◌&&◌, ◌||◌, List, [], ◌∷◌, ℕ, eqb, pos}
use Rattle.exact.specs.Exact.{Exact}
use Rattle.gate.specs.Gate.{Gate, elem, rz, measure, reset}

-- h, x, z, s, sdg, cnot, cz, measure, reset, y, sx, swap, cy; ccx, ccz and cswap have no √2, and are not admitted
abbrev pub plain_kinds : List ℕ
plain_kinds = 0 ∷ 1 ∷ 2 ∷ 3 ∷ 4 ∷ 8 ∷ 9 ∷ measure ∷ reset ∷ 15 ∷ 16 ∷ 19 ∷ 20 ∷ []

-- the k of rz by quarters of a turn
abbrev pub quarter_turns : List ℕ
quarter_turns = 0 ∷ 2 ∷ 4 ∷ 6 ∷ []

abbrev pub in_profile : Gate → Bool
in_profile g = elem g.kind plain_kinds || (eqb g.kind rz && elem g.k quarter_turns)

-- a number with no √2 part
pub record Plain (x : Exact) : Type 0 where
  pub n1 : x.num.re.im ≡ pos 0
  pub n3 : x.num.im.im ≡ pos 0
