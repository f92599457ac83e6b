-- `see` meets its contract: by the edges at once, or the range word by word.
use mathlib.Core.Path.{sym, subst}
use mathlib.Core.Bool.{true}
use Prim.Native.Nat.{ℕ, ◌^◌, ◌<◌}
use mir.Syntax.{w64}
use mir.Val.{of_z}
use lib.ListN.{length}
use Rattle.gather.proofs.Edges.{top-clear}
use Rattle.gather.proofs.Laws.{edges-within, seen_is}
use Rattle.gather.proofs.see.Goals as goal

pub returns-then-g-eq0 : goal.returns-then-g-eq0
returns-then-g-eq0 c =
    let g = c.gather_edges-g in
    let s = c.args in
    seen_is s.s.now 0 (length s.s.now) (of_z w64 g.result) g.ensures true
    (sym (edges-within s.s.now 0 (length s.s.now) (subst (λ (m : ℕ). m < 2 ^ 62) g.ensures (top-clear (of_z w64 g.result) c.if-g-eq0.true))))

pub returns : goal.returns
returns c =
    let g = c.gather_edges-g in
    let s = c.args in
    seen_is s.s.now 0 (length s.s.now) (of_z w64 g.result) g.ensures c.each_in_range-range.result c.each_in_range-range.ensures
