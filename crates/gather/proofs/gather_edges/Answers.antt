-- `gather_edges` meets its contract: what is gathered so far is what is gathered from i words.
use mathlib.Core.Path.{sym, ap, ◌∙◌, subst}
use Prim.Native.Nat.{ℕ, ◌+◌, ◌^◌, ◌<◌}
use native.Mathlib.Nat.{zero-add}
use lib.Bits.{or_lt}
use mir.Syntax.{w64}
use mir.Facts.{of_z-to_z}
use lib.ListN.{get_or}
use lib.IntN.{pos}
use Rattle.gather.specs.Inner.Gathered.{edge}
use Rattle.gather.proofs.Edges.{edge-word, edge-fits}
use Rattle.gather.proofs.Laws.{more}
use Rattle.gather.proofs.gather_edges.Goals as goal

pub loop-x-preserved : goal.loop-x-preserved
loop-x-preserved c =
    let s = c.args in
    let x = get_or s.s.now c.loop-x.x-index (pos 0) in
    let e = edge-word x c.x-1.given in
    let bits = c.loop-x.auto.g in
    let g = or_lt 64 c.loop-x.g-bits _ bits.fits (subst (λ (m : ℕ). m < 2 ^ 64) (sym e) (edge-fits x c.x-1.given)) in
    of_z-to_z {w = w64} (record { fits = g })
    ∙ more (λ (i : ℕ). edge (get_or s.s.now (0 + i) (pos 0))) (sym (of_z-to_z {w = w64} bits) ∙ c.loop-x.invariant) (e ∙ ap (λ (k : ℕ). edge (get_or s.s.now k (pos 0))) (sym (zero-add c.loop-x.x-index)))
