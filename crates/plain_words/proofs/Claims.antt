-- The claims on channels written without √2 parts.
use mathlib.Core.Path.{refl, sym, ap}
use mathlib.Core.Bool.{true≢false}
use Prim.Native.Nat.{ℕ, ◌+◌, ◌*◌}
use Rattle.channel.specs.Layout.{dim_at, count_at}
use Rattle.channel.proofs.Sizes.{sizes}
use Rattle.form_calls.proofs.Claims as general
use Rattle.plain_words.specs.Plain.{kept}
use Rattle.plain_words.specs.Claims.{Keeps}

pub keeps : Keeps
keeps = record {
  reads_back = general.reads_back kept;
  writes_back = general.writes_back kept;
  names_first = general.names_first kept;
  never_unfit = general.never_unfit kept;
  formed_exactly = general.formed_exactly kept;
  rational = λ d x. ((λ s k l. s.rational k l refl), λ h. record { mirror = λ e. absurd (true≢false (sym e)); rational = λ k l e. h k l });
  sized = λ l. ap (λ (s : ℕ). 4 + count_at l * s) (sizes (dim_at l)).plain;
}
