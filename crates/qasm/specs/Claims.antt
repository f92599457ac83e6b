-- What holds of every circuit and every text: what is written reads back, and what is read can be written; blanks, comments and places mean nothing.
use Rattle.std.specs.Prelude.{◌≡◌, Bool, true, ◌&&◌, ℕ, suc, ◌+◌, ◌*◌, ◌%◌, ◌≤◌, eqb, leb, length, drop}
use mathlib.Core.List.{List, [], ◌∷◌, ◌++◌, foldl, map}
use Prim.Native.Char.{code}
use Rattle.algebra.specs.Lists.{every, total}
use Rattle.gate.specs.Gate.{Gate, gate_size, gates_of, formed}
use Rattle.text.specs.Decimal.{max_digits, max_number, decimal}
use Rattle.qasm.specs.Tokens.{is_blank, run, begins, in_line, Token, tokens}
use Rattle.qasm.specs.Forms.{header}
use Rattle.qasm.specs.Reading.{Outcome, circuit, refused, step, start, ended, read_of}
use Rattle.qasm.specs.Writing.{of_kind, gate_text, written}

-- ---- both directions
abbrev pub is_named : Gate → Bool
is_named g = leb 1 (length (of_kind g.kind))

-- questions 2 and 4, and a name for each kind
abbrev pub writable : List ℕ → Bool
writable ws = eqb (length ws % gate_size) 0 && (every formed (gates_of ws) && every is_named (gates_of ws))

-- numbers of 32 bits
abbrev pub small : List ℕ → Bool
small ws = every (λ (w : ℕ). leb w max_number) ws

pub record Circuit (n m : ℕ) (ws : List ℕ) : Type 0 where
  pub words : writable ws ≡ true
  pub numbers : small (n ∷ m ∷ ws) ≡ true

abbrev pub RoundTrip : Type 0
RoundTrip = (n m : ℕ) (ws : List ℕ) → Circuit n m ws → read_of (written n m (gates_of ws)) ≡ circuit n m ws

abbrev pub Sound : Type 0
Sound = (t : List ℕ) (n m : ℕ) (ws : List ℕ) → read_of t ≡ circuit n m ws → Circuit n m ws

-- how many bytes are written: those before the gates but for the two counts, and the most in a gate's line
abbrev pub frame_bytes : ℕ
frame_bytes = 56

abbrev pub max_line : ℕ
max_line = 49

pub record Bytes (n m : ℕ) (ws : List ℕ) : Type 0 where
  pub count : length (written n m (gates_of ws)) ≡ frame_bytes + (length (decimal n) + length (decimal m)) + total (λ (g : Gate). length (gate_text g)) (gates_of ws)
  pub most : Circuit n m ws → length (written n m (gates_of ws)) ≤ frame_bytes + 2 * max_digits + max_line * length (gates_of ws)

abbrev pub Written : Type 0
Written = (n m : ℕ) (ws : List ℕ) → Bytes n m ws

-- ---- blanks and comments before a token, and a comment at the text's end
pub record Gaps : Type 0 where
  pub blank : (b : ℕ) (bs : List ℕ) (at : ℕ) → is_blank b ≡ true → tokens at 0 (b ∷ bs) ≡ tokens (suc at) 0 bs
  pub comment : (c bs : List ℕ) (at : ℕ) → every in_line c ≡ true → tokens at 0 (code "/" ∷ code "/" ∷ c ++ code "\n" ∷ bs) ≡ tokens (at + 3 + length c) 0 bs
  pub last : (c : List ℕ) (at : ℕ) → every in_line c ≡ true → tokens at 0 (code "/" ∷ code "/" ∷ c) ≡ []

-- tokens of the same bytes read the same wherever they stand, but for the position of a fault
abbrev pub placeless : Outcome → Outcome
placeless (circuit n m ws) = circuit n m ws
placeless (refused r at) = refused r 0

abbrev pub Placeless : Type 0
Placeless =
    (n n' : ℕ) (ts us : List Token) → map (λ (t : Token). t.bytes) ts ≡ map (λ (t : Token). t.bytes) us
    → placeless (ended n (foldl step start ts)) ≡ placeless (ended n' (foldl step start us))

-- so texts that have the header, or lack it, alike and whose tokens after it have the same bytes read the same, but for the position of a fault
abbrev pub headed : List ℕ → Bool
headed t = begins header (drop (run is_blank t) t)

abbrev pub tokens_in : List ℕ → List (List ℕ)
tokens_in t = let after = run is_blank t + length header in map (λ (k : Token). k.bytes) (tokens after 0 (drop after t))

abbrev pub SameTokens : Type 0
SameTokens = (t u : List ℕ) → headed t ≡ headed u → tokens_in t ≡ tokens_in u → placeless (read_of t) ≡ placeless (read_of u)
