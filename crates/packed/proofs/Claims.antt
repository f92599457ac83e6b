-- The claims on packed channels.
use mathlib.Core.Path.{refl, sym, ap}
use mathlib.Core.Bool.{true≢false}
use Prim.Native.Nat.{ℕ, ◌+◌, ◌*◌}
use Rattle.channel.specs.Layout.{dim_at, count_at}
use Rattle.channel.proofs.Sizes.{sizes}
use Rattle.form_calls.proofs.Claims as general
use Rattle.packed.specs.Packed.{kept}
use Rattle.packed.specs.Claims.{Packs}

pub packs : Packs
packs = record {
  reads_back = general.reads_back kept;
  writes_back = general.writes_back kept;
  names_first = general.names_first kept;
  never_unfit = general.never_unfit kept;
  formed_exactly = general.formed_exactly kept;
  hermitian = λ d x. ((λ s. s.mirror refl), λ h. record { mirror = λ e. h; rational = λ k l e. absurd (true≢false (sym e)) });
  sized = λ l. ap (λ (s : ℕ). 4 + count_at l * s) (sizes (dim_at l)).packed;
}
