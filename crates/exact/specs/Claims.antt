-- What holds of exact numbers.
use Rattle.std.specs.Prelude.{◌≡◌, true}
use Rattle.exact.specs.Exact.{Exact, exact, well_formed, narrow}

-- a product of narrow numbers is in range
abbrev pub ProductsFit : Type 0
ProductsFit = (x y : Exact) → narrow x ≡ true → narrow y ≡ true → well_formed (exact.◌⊗◌ x y) ≡ true
