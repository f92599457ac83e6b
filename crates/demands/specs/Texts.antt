-- Two texts: what the answer of judge_texts says of the channels that their circuits have by the definitions. The texts are t and u, the bits given σ, the limits l.
use Rattle.std.specs.Prelude.{◌≡◌, Bool, true, List, ℕ, ◌+◌, ◌*◌, ◌^◌, ◌≤◌, ◌<◌, length, ℤ, Result, Ok, Err, is_ok}
use Rattle.exact.specs.Exact.{Exact}
use Rattle.scalar.specs.declared.Scalar.{Scalar}
use Rattle.scalar.specs.Calls.{scalar_of}
use Rattle.gate.specs.Gate.{gates_of}
use Rattle.kraus.specs.Branch.{branches}
use Rattle.kraus.specs.Blocks.{survivors, block}
use Rattle.verdict.specs.declared.Refusal.{Refusal}
use Rattle.circuit.specs.declared.limits.Limits.{Limits}
use Rattle.circuit.specs.Footprint.{footprint_of}
use Rattle.circuit.specs.Sizes.{result_words}
use Rattle.circuit.specs.Questions.{sizes_of, channel_verdict}
use Rattle.store.specs.Store as store
use Rattle.compare.specs.declared.Place.{Place}
use Rattle.compare.specs.declared.Comparison.{Comparison}
use Rattle.compare.specs.declared.Comparison.TheVariants.{Same, Dimensions, Differs}
use Rattle.channel.specs.Layout.{side}
use Rattle.compare.specs.Claims.{earlier}
use Rattle.judge.specs.Call.{worked}
use Rattle.qasm.specs.Reading.{circuit, read_of}
use Rattle.answer_lines.specs.Lines.{max_answer}
use Rattle.judge_texts.specs.declared.Answer.TheVariants.{Compared}
use Rattle.text_sides.specs.Sides.{store_for}
use Rattle.judge_texts.specs.Call.{answer_of}

-- ---- one text
-- the words of the result that question 10 asks for
abbrev pub delivered : ℕ → ℕ → List ℕ → ℕ
delivered n m ws = let s = sizes_of (footprint_of m (gates_of ws)) n in result_words s.stores s.rows

-- every question is answered by yes, where the buffers have just the words that question 10 asks for
abbrev pub acceptable : ℕ → ℕ → List ℕ → Limits → List ℕ → Bool
acceptable n m σ l ws = is_ok (channel_verdict n m σ l ws (delivered n m ws) (worked n m ws))

-- the text is read, and its circuit is accepted with this store and these limits
pub record Judged (t σ : List ℕ) (l : Limits) : Type 0 where
  pub qubits : ℕ
  pub bits : ℕ
  pub gates : List ℕ
  pub read : read_of t ≡ circuit qubits bits gates
  pub fine : acceptable qubits bits (store_for bits σ) l gates ≡ true

module _ {t σ : List ℕ} {l : Limits} (c : Judged t σ l) where
  -- the channel of its circuit by the definitions: entry (i, j) of the block of the store s
  abbrev pub entry_of : ℕ → ℕ → ℕ → Exact
  entry_of s i j = block (survivors (branches c.qubits (store_for c.bits σ) (gates_of c.gates))) (store.bits c.bits s) i j

  -- there is such a store, row and column
  abbrev pub Within : ℕ → ℕ → ℕ → Type 0
  Within s i j = (s < 2 ^ c.bits) × ((i < side (2 ^ c.qubits)) × (j < side (2 ^ c.qubits)))

  -- the place of a row and column in a block
  abbrev pub place : ℕ → ℕ → ℕ
  place i j = i * side (2 ^ c.qubits) + j

  -- words lent for gates, channel and work: as many as it asks for
  pub record Lent (g : List ℕ) (r w : List ℤ) : Type 0 where
    pub gates : length c.gates ≤ length g
    pub result : delivered c.qubits c.bits c.gates ≤ length r
    pub work : worked c.qubits c.bits c.gates ≤ length w

-- ---- two texts
module _ (t u σ : List ℕ) (l : Limits) where
  -- both are read, and both circuits accepted
  pub record Pair : Type 0 where
    pub left : Judged t σ l
    pub right : Judged u σ l

  abbrev pub SameCounts : Pair → Type 0
  SameCounts c = (c.left.qubits ≡ c.right.qubits) × (c.left.bits ≡ c.right.bits)

  -- same: the channels are equal at every store, row and column
  pub record DoTheSame : Type 0 where
    pub pair : Pair
    pub counts : SameCounts pair
    pub channels : (s i j : ℕ) → Within pair.left s i j → entry_of pair.left s i j ≡ entry_of pair.right s i j

  -- dimensions differ
  pub record OtherCounts : Type 0 where
    pub pair : Pair
    pub apart : SameCounts pair → ⊥

  -- different: p is the first place at which the channels differ, by stores, rows and columns, and x and y are the numbers of both there
  pub record DifferFirst (p : Place) (x y : Scalar) : Type 0 where
    pub pair : Pair
    pub counts : SameCounts pair
    pub within : Within pair.left p.store p.row p.col
    pub left_is : x ≡ scalar_of (entry_of pair.left p.store p.row p.col)
    pub right_is : y ≡ scalar_of (entry_of pair.right p.store p.row p.col)
    pub unequal : entry_of pair.left p.store p.row p.col ≡ entry_of pair.right p.store p.row p.col → ⊥
    pub before : (s i j : ℕ) → Within pair.left s i j → earlier s (place pair.left i j) p.store (place pair.left p.row p.col) ≡ true
        → entry_of pair.left s i j ≡ entry_of pair.right s i j

  -- ---- what a comparison found, said of the channels; a refusal is never found
  abbrev pub Means : Result Comparison Refusal → Type 0
  Means (Ok Same) = DoTheSame
  Means (Ok Dimensions) = OtherCounts
  Means (Ok (Differs d)) = DifferFirst d.place d.left d.right
  Means (Err r) = ⊥

  -- the answer, with the words lent for gates g, for both channels r and s and for the work w, and the room o
  module _ (g : List ℕ) (r s w : List ℤ) (o : List ℕ) where
    pub record Answers : Type 0 where
      -- what is answered holds, whatever the buffers: "same" is answered of nothing else
      pub sound : (f : Result Comparison Refusal) → answer_of t u σ l g r s w o ≡ Compared f → Means f
      -- and "same" is answered, where the buffers are long enough
      pub complete : (h : DoTheSame) → Lent h.pair.left g r w → Lent h.pair.right g s w → max_answer ≤ length o → answer_of t u σ l g r s w o ≡ Compared (Ok Same)

abbrev pub Texts : Type 0
Texts = (t u σ : List ℕ) (l : Limits) (g : List ℕ) (r s w : List ℤ) (o : List ℕ) → Answers t u σ l g r s w o
