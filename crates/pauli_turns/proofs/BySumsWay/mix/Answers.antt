-- `BySums::mix` meets its contract.
use mathlib.Core.Path.{sym, ◌∙◌}
use Rattle.exact.specs.Exact.{number_of}
use Rattle.pauli_turns.proofs.Mixed.{apart_mixing, apart_mixed}
use Rattle.pauli_turns.proofs.BySumsWay.mix.Goals as goal

pub mix_by_sums-requires-clause-mixing : goal.mix_by_sums-requires-clause-mixing
mix_by_sums-requires-clause-mixing c =
    let a = c.args in
    apart_mixing (number_of a.x) (number_of a.y) (sym c.are_apart.ensures ∙ c.if-are_apart.true) a.work.now a.t a.u a.p a.q a.d c.requires.mixing

pub returns-then-are_apart : goal.returns-then-are_apart
returns-then-are_apart c =
    let a = c.args in
    c.mix_by_sums.ensures ∙ apart_mixed (number_of a.x) (number_of a.y) (sym c.are_apart.ensures ∙ c.if-are_apart.true) a.work.now a.t a.u a.p a.q a.d
