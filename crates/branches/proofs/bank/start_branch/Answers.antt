-- `start_branch` meets its contract.
use mathlib.Core.Path.{ap, ◌∙◌}
use Prim.Native.Nat.{ℕ, ◌+◌}
use native.Mathlib.Numerals.{add-one}
use native.Mathlib.Omega.{arith}
use lib.ListN.{set}
use lib.IntN.{pos}
use mir.Syntax.{w64}
use mir.Facts.{to_z_pos}
use Rattle.algebra.specs.Words.{from_bits}
use Rattle.branches.specs.Inner.Bank.{matrix_size}
use Rattle.branches.proofs.Stores.{cut_low, cut_high, low_below, high_below}
use Rattle.branches.proofs.Banks.{started}
use Rattle.branches.proofs.bank.start_branch.Goals as goal

pub overflow_cast-work : goal.overflow_cast-work
overflow_cast-work c =
    let σ = c.args.store.now in
    omega (arith, c.pack.ensures ∙ ap from_bits c.split_at.ensures.front ∙ cut_low σ c.min.ensures, low_below σ c.requires.1.1.1)

pub overflow_cast-work-2 : goal.overflow_cast-work-2
overflow_cast-work-2 c =
    let σ = c.args.store.now in
    omega (arith, c.pack-2.ensures ∙ ap from_bits c.split_at.ensures.back ∙ cut_high σ c.min.ensures, high_below σ c.requires.1.1.1 c.requires.1.1.0)

pub returns : goal.returns
returns c =
    let a = c.args in
    let σ = a.store.now in
    let s = c.matrix_size.ensures in
    let low = c.pack.ensures ∙ ap from_bits c.split_at.ensures.front ∙ cut_low σ c.min.ensures in
    let high = c.pack-2.ensures ∙ ap from_bits c.split_at.ensures.back ∙ cut_high σ c.min.ensures in
    let first = to_z_pos w64 (omega (arith, low, low_below σ c.requires.1.1.1)) ∙ ap pos low in
    let second = to_z_pos w64 (omega (arith, high, high_below σ c.requires.1.1.1 c.requires.1.1.0)) ∙ ap pos high in
    let next = ap (λ (k : ℕ). a.at + k + 1) s ∙ add-one (a.at + matrix_size a.d) in
    started a.work.now a.at a.d σ c.identity_into.ensures (λ k. set (set c.identity_into.new.work (a.at + s k) (first k)) (next k) (second k))
