-- A list of pairs served under one allowance of multiply terms.
use Rattle.std.specs.Prelude.{cond, List, [], ◌∷◌, ℕ, ◌+◌, leb, length, replicate, ℤ, pos, Result, Ok, Err}
use Rattle.verdict.specs.Questions.{Verdict}
use Rattle.verdict.specs.declared.Refusal.{Refusal}
use Rattle.gate.specs.Gate.{gates_of}
use Rattle.circuit.specs.declared.limits.Limits.{Limits}
use Rattle.circuit.specs.Footprint.{footprint_of}
use Rattle.circuit.specs.Sizes.{terms_needed}
use Rattle.circuit.specs.Questions.{sizes_of, channel_verdict}
use Rattle.compare.specs.declared.Comparison.{Comparison}
use Rattle.compare.specs.Compare.{compare_of}
use Rattle.judge.specs.Call.{result_after}
use Rattle.pair_list.specs.Pairs.{Circuit, Pair}
use Rattle.work_list.specs.declared.Answer.{Answer}
use Rattle.work_list.specs.declared.Answer.TheVariants.{LeftRefused, RightRefused, PassedOver, Compared}

-- ---- costs
-- the terms of question 8
abbrev pub terms : Circuit → ℕ
terms c =
    let f = footprint_of c.bits (gates_of c.gates) in
    let s = sizes_of f c.qubits in
    terms_needed f.gates s.branches s.rows

abbrev pub cost : Pair → ℕ
cost p = terms p.left + terms p.right

-- ---- answers
-- what is spent on an answer: the cost of a pair that is served
abbrev pub charge : Answer → ℕ
charge (LeftRefused r) = 0
charge (RightRefused r) = 0
charge (PassedOver n) = 0
charge (Compared n c) = n

-- the answer f gives to a refusal, and otherwise this one
abbrev pub unless_refused : (Refusal → Answer) → Verdict → Answer → Answer
unless_refused f (Ok x) a = a
unless_refused f (Err r) a = f r

-- ---- serving
-- the most pairs of a list
abbrev pub max_pairs : ℕ
max_pairs = 32

-- what is lent: the limits, how many words for the left channel, for the right one and for the work, and the allowance
pub record Lent : Type 0 where
  pub limits : Limits
  pub left : ℕ
  pub right : ℕ
  pub work : ℕ
  pub allowance : ℕ

-- by limits, buffers and allowance
abbrev pub lent : Limits → List ℤ → List ℤ → List ℤ → ℕ → Lent
lent l r s w n = record { limits = l; left = length r; right = length s; work = length w; allowance = n }

abbrev pub zeros : ℕ → List ℤ
zeros n = replicate n (pos 0)

module _ (t : Lent) where
  -- the verdict of circuit_channel on a circuit, and what it delivers, in so many words that are zero
  abbrev pub verdict_on : ℕ → Circuit → Verdict
  verdict_on n c = channel_verdict c.qubits c.bits c.store t.limits c.gates n t.work

  abbrev pub channel_on : ℕ → Circuit → List ℤ
  channel_on n c = result_after c.qubits c.bits c.store t.limits c.gates (zeros n) (zeros t.work)

  abbrev pub left_verdict : Pair → Verdict
  left_verdict p = verdict_on t.left p.left

  abbrev pub right_verdict : Pair → Verdict
  right_verdict p = verdict_on t.right p.right

  -- what compare finds of both channels
  abbrev pub comparison : Pair → Result Comparison Refusal
  comparison p = compare_of (channel_on t.left p.left) (channel_on t.right p.right)

  -- the answer to a pair, where so much is spent: the left circuit's refusal, the right one's, passed over, or compared
  unfoldable pub answer_to : ℕ → Pair → Answer
  answer_to spent p =
      unless_refused LeftRefused (left_verdict p)
      (unless_refused RightRefused (right_verdict p)
      (cond (leb (spent + cost p) t.allowance) (Compared (cost p) (comparison p)) (PassedOver (cost p))))

  -- the answers to pairs in their order
  unfoldable pub answers_from : ℕ → List Pair → List Answer
  answers_from spent [] = []
  answers_from spent (p ∷ ps) = let a = answer_to spent p in a ∷ answers_from (spent + charge a) ps

  abbrev pub answers_to : List Pair → List Answer
  answers_to ps = answers_from 0 ps
