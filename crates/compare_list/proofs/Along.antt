-- The loop along a list: what is answered so far, and what is left.
use Rattle.std.specs.Prelude.{is_ok, Err, Option, Some, None}
use mathlib.Core.Path.{◌≡◌, refl, sym, ap, ◌∙◌, subst}
use mathlib.Core.Bool.{Bool, true, false, cond, true≢false}
use mathlib.Core.List.{List, [], ◌∷◌, ◌++◌}
use Prim.Native.Nat.{ℕ, suc, ◌+◌, ◌*◌, ◌-◌, ◌<◌, ◌≤◌}
use native.Mathlib.Nat.{add_assoc, add-zero}
use native.Mathlib.Numerals.{add-one}
use native.Mathlib.Omega.{arith}
use lib.ListN.{length}
use lib.Seq.{sets, length-sets}
use lib.IntN.{ℤ}
use Rattle.algebra.specs.Lists.{total, concat_map}
use Rattle.algebra.proofs.Blocks.{sets_append}
use Rattle.verdict.specs.declared.Refusal.{Refusal}
use Rattle.verdict.specs.declared.Refusal.TheVariants.{MalformedAt}
use Rattle.pair_list.specs.Pairs.{pair_words, pair_bytes, pair_at, framed, pairs_from, pairs_of, framing_from}
use Rattle.pair_list.specs.Inner.Spots.{Framed}
use Rattle.pair_list.proofs.Framing.{framed-room}
use Rattle.compare.specs.declared.Difference.{Difference}
use Rattle.c_channels.specs.Channels.{place_words, scalar_words}
use Rattle.work_list.specs.declared.Answer.{Answer}
use Rattle.work_list.specs.Serving.{charge, Lent, answer_to, answers_from, answers_to}
use Rattle.work_list.proofs.Claims.{charge-within}
use Rattle.compare_list.specs.Words.{entry_of, refusal_of, refusal_words, answer_size, scalars_size, answer_words, entry_words}

-- the next pair is there, and the framing of those behind it
module _ (ws bs : List ℕ) where
  next-framed : (k i at from : ℕ) → is_ok (framing_from ws bs (suc k) i at from) ≡ true
      → (framed ws bs at from ≡ true) × (is_ok (framing_from ws bs k (i + 1) (at + pair_words ws at) (from + pair_bytes ws at)) ≡ true)
  unfolding framing_from
  next-framed k i at from e = go (framed ws bs at from) e
    where
      go : (t : Bool) → is_ok (cond t (framing_from ws bs k (suc i) (at + pair_words ws at) (from + pair_bytes ws at)) (Err (MalformedAt i))) ≡ true
          → (t ≡ true) × (is_ok (framing_from ws bs k (i + 1) (at + pair_words ws at) (from + pair_bytes ws at)) ≡ true)
      go true h = (refl, ap (λ (j : ℕ). is_ok (framing_from ws bs k j (at + pair_words ws at) (from + pair_bytes ws at))) (add-one i) ∙ h)
      go false h = absurd (true≢false (sym h))

-- how many words an answer has, and its scalars
pub answer_long : (a : Answer) → length (answer_words a) ≡ answer_size
answer_long a = by (entry_of a) (refusal_of a)
  where
    by : (d : Option Difference) (r : Option Refusal) → suc (suc (length (place_words d ++ refusal_words r))) ≡ 7
    by (Some d) (Some r) = refl
    by (Some d) None = refl
    by None (Some r) = refl
    by None None = refl

pub entry_long : (a : Answer) → length (entry_words a) ≡ scalars_size
entry_long a = by (entry_of a)
  where
    by : (d : Option Difference) → length (scalar_words d) ≡ 10
    by (Some d) = refl
    by None = refl

-- one answer more in its place
put_step : {A : Type 0} (f : Answer → List A) (s : ℕ) → ((a : Answer) → length (f a) ≡ s) → (o : List A) (i : ℕ) (x : Answer) (xs : List Answer)
    → sets o (i * s) (f x ++ concat_map f xs) ≡ sets (sets o (i * s) (f x)) (i * s + s) (concat_map f xs)
put_step f s h o i x xs = sets_append (f x) (concat_map f xs) o (i * s) ∙ ap (λ (k : ℕ). sets (sets o (i * s) (f x)) (i * s + k) (concat_map f xs)) (h x)

module _ (ws bs : List ℕ) (t : Lent) (count : ℕ) where
  -- the answers that are left, from pair i on
  abbrev rest : ℕ → ℕ → ℕ → ℕ → List Answer
  rest i at from spent = answers_from t spent (pairs_from ws bs (count - i) at from)

  abbrev all : List Answer
  all = answers_to t (pairs_of ws bs count)

  rest-step : (k at from spent : ℕ) → answers_from t spent (pairs_from ws bs (suc k) at from)
      ≡ answer_to t spent (pair_at ws bs at from) ∷ answers_from t (spent + charge (answer_to t spent (pair_at ws bs at from))) (pairs_from ws bs k (at + pair_words ws at) (from + pair_bytes ws at))
  unfolding pairs_from answers_from
  rest-step k at from spent = refl

  rest-none : (at from spent : ℕ) → answers_from t spent (pairs_from ws bs 0 at from) ≡ []
  unfolding pairs_from answers_from
  rest-none at from spent = refl

  -- i pairs are answered: o and z have their answers, and what is left to put there
  pub record Along (o₀ : List ℕ) (z₀ : List ℤ) (i at from spent : ℕ) (o : List ℕ) (z : List ℤ) : Type 0 where
    pub passed : i ≤ count
    pub pairs : is_ok (framing_from ws bs (count - i) i at from) ≡ true
    pub within : spent ≤ t.allowance
    pub answers : sets o₀ 0 (concat_map answer_words (answers_to t (pairs_of ws bs count))) ≡ sets o (i * answer_size) (concat_map answer_words (answers_from t spent (pairs_from ws bs (count - i) at from)))
    pub scalars : sets z₀ 0 (concat_map entry_words (answers_to t (pairs_of ws bs count))) ≡ sets z (i * scalars_size) (concat_map entry_words (answers_from t spent (pairs_from ws bs (count - i) at from)))
    pub spending : total charge (answers_to t (pairs_of ws bs count)) ≡ spent + total charge (answers_from t spent (pairs_from ws bs (count - i) at from))
    pub answers_long : length o ≡ length o₀
    pub scalars_long : length z ≡ length z₀

  module _ (o₀ : List ℕ) (z₀ : List ℤ) where
    module _ {i at from spent : ℕ} {o : List ℕ} {z : List ℤ} (g : Along o₀ z₀ i at from spent o z) where
      module _ (h : i < count) where
        left : count - i ≡ suc (count - (i + 1))
        left = omega arith

        both : (framed ws bs at from ≡ true) × (is_ok (framing_from ws bs (count - (i + 1)) (i + 1) (at + pair_words ws at) (from + pair_bytes ws at)) ≡ true)
        both = next-framed ws bs (count - (i + 1)) i at from (ap (λ (k : ℕ). is_ok (framing_from ws bs k i at from)) (sym left) ∙ g.pairs)

        -- the pair that is due
        pub due : Framed ws bs at from
        due = framed-room ws bs at from both.0

        abbrev x : Answer
        x = answer_to t spent (pair_at ws bs at from)

        abbrev behind : List Answer
        behind = answers_from t (spent + charge x) (pairs_from ws bs (count - (i + 1)) (at + pair_words ws at) (from + pair_bytes ws at))

        step : rest i at from spent ≡ x ∷ behind
        step = ap (λ (k : ℕ). answers_from t spent (pairs_from ws bs k at from)) left ∙ rest-step (count - (i + 1)) at from spent

        pub within-next : {a : Answer} → a ≡ answer_to t spent (pair_at ws bs at from) → spent + charge a ≤ t.allowance
        within-next e = subst (λ (a : Answer). spent + charge a ≤ t.allowance) (sym e) (charge-within t spent (pair_at ws bs at from) g.within)

        pub along-more : {a : Answer} → a ≡ answer_to t spent (pair_at ws bs at from) → {o' : List ℕ} → o' ≡ sets o (i * answer_size) (answer_words a) → {z' : List ℤ} → z' ≡ sets z (i * scalars_size) (entry_words a)
            → {c n m : ℕ} → c ≡ charge a → n ≡ at + pair_words ws at → m ≡ from + pair_bytes ws at → Along o₀ z₀ (i + 1) n m (spent + c) o' z'
        along-more {a} e {o'} p {z'} q {c} {n} {m} u v w =
            let c-is : c ≡ charge x = u ∙ ap charge e in
            let o_is : o' ≡ sets o (i * answer_size) (answer_words x) = p ∙ ap (λ (y : Answer). sets o (i * answer_size) (answer_words y)) e in
            let z-is : z' ≡ sets z (i * scalars_size) (entry_words x) = q ∙ ap (λ (y : Answer). sets z (i * scalars_size) (entry_words y)) e in
            let o-next : i * answer_size + answer_size ≡ (i + 1) * answer_size = omega arith in
            let z-next : i * scalars_size + scalars_size ≡ (i + 1) * scalars_size = omega arith in
            let same : behind ≡ answers_from t (spent + c) (pairs_from ws bs (count - (i + 1)) n m) =
            λ j. answers_from t (spent + sym c-is j) (pairs_from ws bs (count - (i + 1)) (sym v j) (sym w j)) in
            record {
              passed = omega arith;
              pairs = (λ j. is_ok (framing_from ws bs (count - (i + 1)) (i + 1) (v j) (w j))) ∙ both.1;
              within = subst (λ (k : ℕ). spent + k ≤ t.allowance) (sym c-is) (charge-within t spent (pair_at ws bs at from) g.within);
              answers = g.answers ∙ ap (λ (r : List Answer). sets o (i * answer_size) (concat_map answer_words r)) step ∙ put_step answer_words answer_size answer_long o i x behind
                  ∙ (λ j. sets (sym o_is j) (o-next j) (concat_map answer_words (same j)));
              scalars = g.scalars ∙ ap (λ (r : List Answer). sets z (i * scalars_size) (concat_map entry_words r)) step ∙ put_step entry_words scalars_size entry_long z i x behind
                  ∙ (λ j. sets (sym z-is j) (z-next j) (concat_map entry_words (same j)));
              spending = g.spending ∙ ap (λ (r : List Answer). spent + total charge r) step ∙ sym (add_assoc spent (charge x) (total charge behind))
                  ∙ (λ j. spent + sym c-is j + total charge (same j));
              answers_long = ap length o_is ∙ length-sets o (i * answer_size) (answer_words x) ∙ g.answers_long;
              scalars_long = ap length z-is ∙ length-sets z (i * scalars_size) (entry_words x) ∙ g.scalars_long;
            }

      -- all are answered
      module _ (h : count ≤ i) where
        over : rest i at from spent ≡ []
        over = let e : count - i ≡ 0 = omega arith in ap (λ (k : ℕ). answers_from t spent (pairs_from ws bs k at from)) e ∙ rest-none at from spent

        pub all_spent : spent ≡ total charge (answers_to t (pairs_of ws bs count))
        all_spent = sym (g.spending ∙ ap (λ (r : List Answer). spent + total charge r) over ∙ add-zero spent)

        pub all_answers : o ≡ sets o₀ 0 (concat_map answer_words (answers_to t (pairs_of ws bs count)))
        all_answers = sym (g.answers ∙ ap (λ (r : List Answer). sets o (i * answer_size) (concat_map answer_words r)) over)

        pub all_scalars : z ≡ sets z₀ 0 (concat_map entry_words (answers_to t (pairs_of ws bs count)))
        all_scalars = sym (g.scalars ∙ ap (λ (r : List Answer). sets z (i * scalars_size) (concat_map entry_words r)) over)
