-- Where the gates of a text stand: a statement ends with a semicolon, and each that declares nothing is a gate's.
use Rattle.std.specs.Prelude.{Bool, true, cond, not, ◌||◌, List, [], ◌∷◌, map, ℕ, ◌+◌, length, get_or, drop}
use Rattle.algebra.specs.Lists.{filter_by}
use Rattle.text.specs.Ascii.{ascii}
use Rattle.qasm.specs.Tokens.{same, is_blank, run, Token, tokens}
use Rattle.qasm.specs.Forms.{header}

-- the tokens behind the header
abbrev pub body : List ℕ → List Token
body t = let after = run is_blank t + length header in tokens after 0 (drop after t)

-- the tokens that open statements: one behind each semicolon, and the first if `now`
unfoldable pub opens : Bool → List Token → List Token
opens now [] = []
opens now (t ∷ ts) = let rest = opens (same (ascii ";") t.bytes) ts in cond now (t ∷ rest) rest

-- the words that open declarations
abbrev pub declares : List ℕ → Bool
declares word = (same (ascii "include") word || same (ascii "qreg") word) || same (ascii "creg") word

abbrev pub of_gates : List Token → List Token
of_gates ts = filter_by (λ (t : Token). not (declares t.bytes)) ts

-- the tokens that open gates, in the order of the gates
abbrev pub gate_tokens : List ℕ → List Token
gate_tokens t = of_gates (opens true (body t))

-- how many gates a text has, and the position of gate i; beyond the last, the text's end
abbrev pub gate_count : List ℕ → ℕ
gate_count t = length (gate_tokens t)

abbrev pub gate_position : List ℕ → ℕ → ℕ
gate_position t i = get_or (map (λ (k : Token). k.at) (gate_tokens t)) i (length t)
