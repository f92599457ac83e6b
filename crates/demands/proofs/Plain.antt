-- The channel of a circuit of the profile is the full judge's, whose entries are those of the blocks, which have no √2 part.
use mathlib.Core.Path.{◌≡◌, sym, ◌∙◌, subst}
use mathlib.Core.Bool.{true}
use mathlib.Core.List.{List}
use Prim.Native.Nat.{ℕ, ◌+◌, ◌*◌, ◌^◌, ◌<◌}
use lib.IntN.{ℤ}
use Rattle.algebra.specs.Lists.{every}
use Rattle.algebra.proofs.Tests.{and_split}
use Rattle.algebra.proofs.Lists.{all_imp}
use Rattle.store.specs.Store.{bits}
use Rattle.gate.specs.Gate.{gates_of}
use Rattle.kraus.specs.Branch.{Branch, branches}
use Rattle.kraus.specs.Blocks.{survivors, block}
use Rattle.channel.specs.Layout.{Block, side, read_back}
use Rattle.judge.specs.Call.{accepts, result_after}
use Rattle.plain.specs.Profile.{in_profile, Plain}
use Rattle.plain.specs.Call.{plain_result}
use Rattle.plain.proofs.Claims.{plain_calls}
use Rattle.demands.specs.Demands.{IsChannel}
use Rattle.demands.specs.Plain.{PlainChannels}
use Rattle.demands.proofs.Demands.{demand2}

pub plain-channels : PlainChannels
plain-channels n m σ l ws r w e = record {
  full = full;
  result = same;
  work = (plain_calls n m σ l ws r w).work inside;
  channel = channel;
  entries = all_imp (λ (a : Block). (i j : ℕ) → i < side (2 ^ n) → j < side (2 ^ n) → a.entry (i * side (2 ^ n) + j) ≡ block bs (bits m a.store) i j)
      (λ (a : Block). (i j : ℕ) → i < side (2 ^ n) → j < side (2 ^ n) → Plain (a.entry (i * side (2 ^ n) + j))) (read_back (plain_result n m σ l ws r w))
      (λ a h i j p q. subst Plain (sym (h i j p q)) ((plain_calls n m σ l ws r w).blocks e (bits m a.store) i j)) channel.entries;
}
  where
    bs : List Branch
    bs = survivors (branches n σ (gates_of ws))

    both : (every in_profile (gates_of ws) ≡ true) × (accepts n m σ l ws r w ≡ true)
    both = and_split (every in_profile (gates_of ws)) (accepts n m σ l ws r w) (sym (plain_calls n m σ l ws r w).acceptance ∙ e)

    inside : every in_profile (gates_of ws) ≡ true
    inside = both.0

    full : accepts n m σ l ws r w ≡ true
    full = both.1

    same : plain_result n m σ l ws r w ≡ result_after n m σ l ws r w
    same = (plain_calls n m σ l ws r w).result inside

    channel : IsChannel n m bs (plain_result n m σ l ws r w)
    channel = subst (IsChannel n m bs) (sym same) (demand2 n m σ l ws r w full)
