-- All rows hold, by computation.
use mathlib.Core.Path.{refl}
use Rattle.scalar.specs.Claims.{Claim}

pub claim : Claim
claim = refl
