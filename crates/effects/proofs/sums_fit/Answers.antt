-- `sums_fit` meets its contract.
use mathlib.Core.Path.{sym, ap, ◌∙◌}
use Prim.Native.Nat.{ℕ, ◌+◌, ◌*◌}
use Rattle.algebra.proofs.Tests.{all_no}
use Rattle.channel.specs.Layout.{channels, header_size, record_at}
use Rattle.effects.specs.Effects.{record_fits}
use Rattle.effects.proofs.sums_fit.Goals as goal

pub returns-then-not-fits : goal.returns-then-not-fits
returns-then-not-fits c =
    let s = c.args in
    let tested = c.fits.ensures ∙ ap (λ (r : ℕ). record_fits s.s.now (header_size + c.loop-j.j * r) s.h.dim) c.record_size-size.ensures in
    sym (all_no s.h.count c.loop-j.j (λ (j : ℕ). record_fits s.s.now (record_at (channels s.h.dim) j) s.h.dim) c.loop-j-test.true (sym tested ∙ c.if-not-fits.true))
