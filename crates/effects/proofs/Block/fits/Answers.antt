-- `Block::fits` meets its contract.
use mathlib.Core.Path.{sym, ◌∙◌}
use Rattle.effects.proofs.Entries.{fits_by}
use Rattle.effects.proofs.Block.fits.Goals as goal

pub returns : goal.returns
returns c =
    let s = c.args in
    c.entries_fit.ensures ∙ sym (fits_by s.self.words.now s.self.at s.self.d (sym c.terms_fit.ensures ∙ c.if-not-terms_fit.false) _ c.exponent-e.ensures)
