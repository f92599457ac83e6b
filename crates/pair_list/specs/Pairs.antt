-- Pairs of circuits in words: for each pair a head for both circuits, then the gates' words of both. The bytes of the initial stores stand in a list of their own.
use Rattle.std.specs.Prelude.{Bool, cond, ◌&&◌, List, [], ◌∷◌, ℕ, zero, suc, ◌+◌, eqb, leb, length, get_or, take, drop, Ok, Err}
use Rattle.verdict.specs.Questions.{Verdict}
use Rattle.verdict.specs.declared.Refusal.TheVariants.{MalformedAt}

pub record Circuit : Type 0 where
  pub qubits : ℕ
  pub bits : ℕ
  pub store : List ℕ
  pub gates : List ℕ

pub record Pair : Type 0 where
  pub left : Circuit
  pub right : Circuit

-- the head of a circuit: qubits, classical bits, gate words; of a pair: that of the left circuit, then that of the right one
abbrev pub circuit_head : ℕ
circuit_head = 3

abbrev pub pair_head : ℕ
pair_head = 6

-- n numbers from `from` on
abbrev pub part : List ℕ → ℕ → ℕ → List ℕ
part l from n = take n (drop from l)

-- of the words ws: a circuit has its head at `head`
module _ (ws : List ℕ) where
  -- its store has a byte for each bit
  abbrev pub bits_at : ℕ → ℕ
  bits_at head = get_or ws (head + 1) 0

  abbrev pub gate_words_at : ℕ → ℕ
  gate_words_at head = get_or ws (head + 2) 0

  -- the words and the bytes of the pair at `at`
  abbrev pub pair_words : ℕ → ℕ
  pair_words at = pair_head + (gate_words_at at + gate_words_at (at + circuit_head))

  abbrev pub pair_bytes : ℕ → ℕ
  pair_bytes at = bits_at at + bits_at (at + circuit_head)

-- of the words ws and the bytes bs: a pair has its words from `at` on, and its bytes from `from` on
module _ (ws bs : List ℕ) where
  -- with its gates from `gates` on, and its store from `store` on
  abbrev pub circuit_at : ℕ → ℕ → ℕ → Circuit
  circuit_at head gates store = record { qubits = get_or ws head 0; bits = bits_at ws head; store = part bs store (bits_at ws head); gates = part ws gates (gate_words_at ws head) }

  -- the left circuit's gates and store come before the right one's
  abbrev pub pair_at : ℕ → ℕ → Pair
  pair_at at from = record {
    left = circuit_at at (at + pair_head) from;
    right = circuit_at (at + circuit_head) (at + pair_head + gate_words_at ws at) (from + bits_at ws at);
  }

  -- the head is there, and all that it counts
  unfoldable pub framed : ℕ → ℕ → Bool
  framed at from = leb (at + pair_head) (length ws) && (leb (at + pair_words ws at) (length ws) && leb (from + pair_bytes ws at) (length bs))

  -- k pairs, one behind the other
  unfoldable pub pairs_from : ℕ → ℕ → ℕ → List Pair
  pairs_from zero at from = []
  pairs_from (suc k) at from = pair_at at from ∷ pairs_from k (at + pair_words ws at) (from + pair_bytes ws at)

  -- the place of the first of k pairs that is not there, numbered from i on; words or bytes behind the last pair are no pair either
  unfoldable pub framing_from : ℕ → ℕ → ℕ → ℕ → Verdict
  framing_from zero i at from = cond (eqb at (length ws) && eqb from (length bs)) (Ok tt) (Err (MalformedAt i))
  framing_from (suc k) i at from = cond (framed at from) (framing_from k (suc i) (at + pair_words ws at) (from + pair_bytes ws at)) (Err (MalformedAt i))

  abbrev pub pairs_of : ℕ → List Pair
  pairs_of count = pairs_from count 0 0

  abbrev pub framing : ℕ → Verdict
  framing count = framing_from count 0 0 0
