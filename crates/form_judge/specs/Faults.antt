-- The first block along the chain that another form does not restore.
use Rattle.std.specs.Prelude.{cond, List, ℕ, zero, suc, ℤ, nat_abs, Option, Some, None}
use Rattle.std.specs.Option.{option_map}
use Rattle.channel.specs.Layout.{Form, word, count_at, numbers_at}
use Rattle.channel.specs.Forms.{restores}

-- words of the form F, and what the form G keeps
module _ (F G : Form) where
  -- of n blocks along the chain from index `at` on, the place of the first that G does not restore
  unfoldable pub fault_from : List ℤ → ℕ → ℕ → Option ℕ
  fault_from l zero at = None
  fault_from l (suc n) at = cond (restores G (numbers_at F l at)) (option_map suc (fault_from l n (nat_abs (word l at)))) (Some 0)

  -- of all blocks
  abbrev pub fault_of : List ℤ → Option ℕ
  fault_of l = fault_from l (count_at l) (nat_abs (word l 3))
