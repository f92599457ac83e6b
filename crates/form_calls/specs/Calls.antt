-- A channel's words written in a form that keeps less, and read from there: what is asked, in order, and what is left in the result.
use Rattle.std.specs.Prelude.{cond, not, List, [], ◌∷◌, ℕ, leb, length, ℤ, Option, is_none, unwrap_or, is_ok}
use Rattle.verdict.specs.Questions.{Verdict}
use Rattle.verdict.specs.declared.Refusal.{Refusal}
use Rattle.verdict.specs.declared.Refusal.TheVariants.{ShortBuffer, Malformed, ZeroBlock, NotHermitianAt, NotPlainAt}
use Rattle.verdict.specs.Questions.{Question, question, first_no}
use Rattle.channel.specs.Layout.{Form, channels, dim_at, form_in}
use Rattle.channel.specs.WellFormed.{well_formed_in, well_formed, has_zero_block}
use Rattle.channel.specs.declared.forms.Parts.{Parts}
use Rattle.recast.specs.Words.{size_in, recast_into}
use Rattle.form_judge.specs.Faults.{fault_of}

-- the channel's own form
abbrev pub own : List ℤ → Form
own l = channels (dim_at l)

module _ (f : Parts) where
  -- the refusal of the block at place i along the chain
  abbrev pub refusal : ℕ → Refusal
  refusal i = cond f.half (NotHermitianAt i) (NotPlainAt i)

  -- the place of the first block that the form does not restore
  abbrev pub fault : List ℤ → Option ℕ
  fault l = fault_of (own l) (form_in f l) l

  abbrev pub write_questions : List ℤ → List ℤ → List Question
  write_questions l res =
      question 10 (well_formed l) Malformed
      ∷ question 16 (not (has_zero_block l)) ZeroBlock
      ∷ question (cond f.half 22 23) (is_none (fault l)) (refusal (unwrap_or (fault l) 0))
      ∷ question 8 (leb (size_in (form_in f l) l) (length res)) ShortBuffer
      ∷ []

  abbrev pub read_questions : List ℤ → List ℤ → List Question
  read_questions p res =
      question 10 (well_formed_in (form_in f p) p) Malformed
      ∷ question 8 (leb (size_in (own p) p) (length res)) ShortBuffer
      ∷ []

  abbrev pub write_verdict : List ℤ → List ℤ → Verdict
  write_verdict l res = first_no (write_questions l res)

  abbrev pub read_verdict : List ℤ → List ℤ → Verdict
  read_verdict p res = first_no (read_questions p res)

  -- a refusal leaves the result as it was
  abbrev pub write_result : List ℤ → List ℤ → List ℤ
  write_result l res = cond (is_ok (write_verdict l res)) (recast_into (own l) (form_in f l) l res) res

  abbrev pub read_result : List ℤ → List ℤ → List ℤ
  read_result p res = cond (is_ok (read_verdict p res)) (recast_into (form_in f p) (own p) p res) res
