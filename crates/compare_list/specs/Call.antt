-- A call of compare_list: its verdict, the total of what is spent, and what it leaves in the lent buffers.
use Rattle.std.specs.Prelude.{Bool, cond, ◌&&◌, List, ℕ, ◌*◌, leb, length, ℤ, Result, Ok, Err, is_ok}
use Rattle.std.specs.Result.{result_and}
use Rattle.std.proofs.lemmas.List.Edits.{sets}
use Rattle.algebra.specs.Lists.{total, concat_map}
use Rattle.verdict.specs.Questions.{Verdict}
use Rattle.verdict.specs.declared.Refusal.{Refusal}
use Rattle.verdict.specs.declared.Refusal.TheVariants.{ShortBuffer, TooManyPairs}
use Rattle.circuit.specs.declared.limits.Limits.{Limits}
use Rattle.pair_list.specs.Pairs.{pairs_of, framing}
use Rattle.work_list.specs.declared.Answer.{Answer}
use Rattle.work_list.specs.Serving.{max_pairs, charge, zeros, lent, answers_to}
use Rattle.compare_list.specs.Words.{answer_size, scalars_size, answer_words, entry_words}

-- 24, then 5 with the pair's place, then 8: `answers` and `scalars` are the lengths of those buffers
abbrev pub list_verdict : ℕ → List ℕ → List ℕ → ℕ → ℕ → Verdict
list_verdict count ws bs answers scalars =
    let places = leb (count * answer_size) answers && leb (count * scalars_size) scalars in
    cond (leb count max_pairs) (result_and (framing ws bs count) (cond places (Ok tt) (Err ShortBuffer))) (Err TooManyPairs)

-- so many pairs in the words ws and the bytes bs, the limits l and the allowance n; the words lent for both channels r and s, for the work w, for the answers o and for their scalars z
module _ (count : ℕ) (ws bs : List ℕ) (l : Limits) (n : ℕ) (r s w : List ℤ) (o : List ℕ) (z : List ℤ) where
  abbrev pub verdict_of : Verdict
  verdict_of = list_verdict count ws bs (length o) (length z)

  abbrev pub taken : Bool
  taken = is_ok verdict_of

  abbrev pub answers_of : List Answer
  answers_of = answers_to (lent l r s w n) (pairs_of ws bs count)

  -- the sum of what is spent on the pairs that are served, or the refusal of the list
  abbrev pub reply_of : Result ℕ Refusal
  reply_of = result_and verdict_of (Ok (total charge answers_of))

  -- the answers stand in their order at the start of their words; the words behind them are as they were
  abbrev pub answers_after : List ℕ
  answers_after = cond taken (sets o 0 (concat_map answer_words answers_of)) o

  abbrev pub scalars_after : List ℤ
  scalars_after = cond taken (sets z 0 (concat_map entry_words answers_of)) z

  -- a lent buffer, all zero; a list that is refused leaves it as it was
  abbrev pub cleared : List ℤ → List ℤ
  cleared b = cond taken (zeros (length b)) b
