-- Document 01's examples that are marked P, with more at the edges and document 02's of effects, as rows of one list, and the claim that all of them hold. Scalar
-- calls and verdicts are listed where their definitions are; the others are effects, and texts with the whole answer of the program.
use Rattle.std.specs.Prelude.{◌≡◌, Bool, true, ◌&&◌, List, [], ◌∷◌, ◌++◌, map, ℕ, ◌+◌, ◌*◌, replicate, ℤ, pos, negsuc}
use Rattle.algebra.specs.Lists.{every}
use Rattle.algebra.specs.Dyadic.{frac}
use Rattle.exact.specs.Exact.{Exact, number, exact, half, imaginary, equal}
use Rattle.scalar.specs.Claims as scalars
use Rattle.circuit.specs.Limits.{ceilings}
use Rattle.circuit.specs.Claims as circuits
use Rattle.channel.specs.Layout as layout
use Rattle.channel.specs.Claims.{look}
use Rattle.effects.specs.Effects.{result_of, povm_of}
use Rattle.judge.specs.Call.{result_after}
use Rattle.gate.specs.Operators.{same_bits}
use Rattle.text.specs.Ascii.{ascii}
use Rattle.listing.specs.Answer.{answer_of}

pub data Row : Type 0 where
  -- a call on scalars answers as document 01 says
  scalar : Bool → Row
  verdict : circuits.Row → Row
  -- a text and its answer
  listing : List ℕ → List ℕ → Row
  -- a circuit of one qubit and one bit, a store, a row and a column: the entry that classical_blocks leaves of its channel's effect, and the one that povm_effects leaves
  effect : List ℕ → ℕ → ℕ → ℕ → Exact → Exact → Row
  -- such a circuit and a basis state as its input: the odds of the stores 0 and 1, two diagonal entries, which total 1
  odds : List ℕ → ℕ → Exact → Exact → Row

-- the buffers that the program lends
abbrev pub words : ℕ → List ℤ
words n = replicate n (pos 0)

-- the channel that circuit_channel leaves of one qubit and one bit that starts as 0
abbrev pub channel_of : List ℕ → List ℤ
channel_of ws = result_after 1 1 (0 ∷ []) ceilings ws (words 200) (words 200)

-- entry i of the textbook's effect of the store s of that channel
abbrev pub povm_entry : List ℕ → ℕ → ℕ → Exact
povm_entry ws = look (layout.read_back_in (layout.effects 2) (povm_of (channel_of ws) (words 100)))

abbrev pub holds : Row → Bool
holds (scalar b) = b
holds (verdict r) = circuits.holds r
holds (listing t a) = same_bits (answer_of t (words 5200) (words 2000)) a
holds (effect ws s r c old new) =
    equal (look (layout.read_back_in (layout.effects 2) (result_of (channel_of ws) (words 100))) s (r * 2 + c)) old
    && equal (povm_entry ws s (r * 2 + c)) new
holds (odds ws c p q) = equal (povm_entry ws 0 (c * 2 + c)) p && equal (povm_entry ws 1 (c * 2 + c)) q && equal (exact.◌⊕◌ p q) exact.𝟙

abbrev pub listings : List Row
listings =
    -- no qubits, no bits, no gates
    listing (ascii "0 0 0") (ascii "dim 1 cbits 0 blocks 1\nstore -\n0 0 1 0 0 0 0\n")
    -- reset alone on 1 qubit
    ∷ listing (ascii "1 0 1 13 0 0 0 0") (ascii "dim 2 cbits 0 blocks 1\nstore -\n0 0 1 0 0 0 0\n1 1 1 0 0 0 0\n")
    -- h, then measure
    ∷ listing (ascii "1 1 0 2 0 0 0 0 0 12 0 0 0 0") (
    ascii "dim 2 cbits 1 blocks 2\n"
    ++ ascii "store 0\n0 0 1 0 0 0 1\n0 1 1 0 0 0 1\n1 0 1 0 0 0 1\n1 1 1 0 0 0 1\n"
    ++ ascii "store 1\n2 2 1 0 0 0 1\n2 3 -1 0 0 0 1\n3 2 -1 0 0 0 1\n3 3 1 0 0 0 1\n")
    ∷ []

-- sdg, h, then measure
abbrev pub in_y : List ℕ
in_y = circuits.gates 1 4 0 0 ++ circuits.gates 1 0 0 0 ++ circuits.gates 1 12 0 0

abbrev pub effects : List Row
effects =
    effect in_y 0 0 1 (half imaginary) (exact.neg (half imaginary))
    ∷ effect in_y 0 1 0 (exact.neg (half imaginary)) (half imaginary)
    ∷ effect in_y 1 0 1 (exact.neg (half imaginary)) (half imaginary)
    ∷ effect in_y 1 0 0 (half exact.𝟙) (half exact.𝟙)
    ∷ []

-- h, t, h, then measure
abbrev pub turned : List ℕ
turned = circuits.gates 1 0 0 0 ++ circuits.gates 1 5 0 0 ++ circuits.gates 1 0 0 0 ++ circuits.gates 1 12 0 0

-- (2 + √2) / 4
abbrev pub likely : Exact
likely = frac (number (pos 2) (pos 1) (pos 0) (pos 0)) 2

-- (2 − √2) / 4
abbrev pub unlikely : Exact
unlikely = frac (number (pos 2) (negsuc 0) (pos 0) (pos 0)) 2

abbrev pub chances : List Row
chances =
    odds turned 0 likely unlikely
    ∷ odds turned 1 unlikely likely
    ∷ []

abbrev pub rows : List Row
rows = map scalar scalars.rows ++ map verdict circuits.rows ++ listings ++ effects ++ chances

abbrev pub Examples : Type 0
Examples = every holds rows ≡ true
