-- What is claimed of a list that is served.
use Rattle.std.specs.Prelude.{◌≡◌, Bool, true, false, List, ℕ, ◌≤◌, ◌<◌, length, get_or, take}
use Rattle.algebra.specs.Lists.{total, every}
use Rattle.pair_list.specs.Pairs.{Pair}
use Rattle.work_list.specs.declared.Answer.{Answer}
use Rattle.work_list.specs.declared.Answer.TheVariants.{LeftRefused, RightRefused, PassedOver, Compared}
use Rattle.work_list.specs.Serving.{charge, Lent, answer_to, answers_to}

-- what is spent on the first i pairs
abbrev pub spent_before : Lent → List Pair → ℕ → ℕ
spent_before t ps i = total charge (answers_to t (take i ps))

-- each pair has an answer, by the pairs before it alone
abbrev pub InOrder : Type 0
InOrder = (t : Lent) (ps : List Pair) → (length (answers_to t ps) ≡ length ps)
    × ((i : ℕ) (a : Answer) (p : Pair) → i < length ps → get_or (answers_to t ps) i a ≡ answer_to t (spent_before t ps i) (get_or ps i p))

-- the sum of what is spent is never above the allowance
abbrev pub WithinAllowance : Type 0
WithinAllowance = (t : Lent) (ps : List Pair) → total charge (answers_to t ps) ≤ t.allowance

abbrev pub stays : Answer → Bool
stays (LeftRefused r) = true
stays (RightRefused r) = true
stays (PassedOver n) = false
stays (Compared n c) = true

-- a longer allowance changes none of the first k answers, where the shorter one passes over none of them
abbrev pub more : Lent → ℕ → Lent
more t n = record { limits = t.limits; left = t.left; right = t.right; work = t.work; allowance = n }

abbrev pub LongerServes : Type 0
LongerServes = (t : Lent) (n : ℕ) (ps : List Pair) (k : ℕ) → t.allowance ≤ n → every stays (take k (answers_to t ps)) ≡ true
    → take k (answers_to (more t n) ps) ≡ take k (answers_to t ps)
