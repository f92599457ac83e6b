-- The number of a kind.
use Rattle.std.specs.Prelude.{◌≡◌, ℕ, ◌<◌, Option, MatchOption, Result, MatchResult}
use Rattle.gate.specs.declared.kinds.Kind.{Kind}
use Rattle.gate.specs.declared.kinds.Kind.TheVariants.{H, X, Z, S, Sdg, T, Tdg, Rz, Cnot, Cz, Ccx, Ccz, Measure, Reset, P, Y, Sx, Rx, Ry, Swap, Cy, Cp, Crx, Cry, Crz, Ch, Cswap}
use Rattle.gate.specs.declared.kinds.NoKind.{NoKind}
use Rattle.gate.specs.Gate.{last_kind}

abbrev pub number_of : Kind → ℕ
number_of H = 0
number_of X = 1
number_of Z = 2
number_of S = 3
number_of Sdg = 4
number_of T = 5
number_of Tdg = 6
number_of Rz = 7
number_of Cnot = 8
number_of Cz = 9
number_of Ccx = 10
number_of Ccz = 11
number_of Measure = 12
number_of Reset = 13
number_of P = 14
number_of Y = 15
number_of Sx = 16
number_of Rx = 17
number_of Ry = 18
number_of Swap = 19
number_of Cy = 20
number_of Cp = 21
number_of Crx = 22
number_of Cry = 23
number_of Crz = 24
number_of Ch = 25
number_of Cswap = 26

-- the kind with this number, or an error with a number that no kind has
abbrev pub Names : ℕ → Result Kind NoKind → Type 0
Names n r = MatchResult r (λ kind. number_of kind ≡ n) (λ e. (e.0 ≡ n) × (last_kind < n))

-- the kind with this number, if some kind has it
abbrev pub Known : ℕ → Option Kind → Type 0
Known n o = MatchOption o (last_kind < n) (λ kind. number_of kind ≡ n)
