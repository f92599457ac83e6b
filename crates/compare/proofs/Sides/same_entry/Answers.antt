-- `compare::Sides::same_entry` meets its contract: by the words of blocks that are alike, else by lowest forms.
use Rattle.std.specs.Option.{option_copied}
use mathlib.Core.Path.{sym, ap, ◌∙◌}
use Prim.Native.Nat.{◌+◌, ◌*◌, ◌-◌}
use native.Mathlib.Omega.{arith}
use Rattle.gather.proofs.Laws.{same-cut}
use Rattle.compare.proofs.Alike.{held-inside, alike-entry}
use Rattle.compare.proofs.Sides.same_entry.Goals as goal

pub returns-in-Some-Some : goal.returns-in-Some-Some
returns-in-Some-Some c =
    let s = c.args.self.now in
    let m = c.in-Some-Some in
    let i = 4 + c.args.k * 4 in
    let p = ap option_copied m.is-0 in
    let q = ap option_copied m.is-1 in
    let x = held-inside (s.side * s.side) p s.left_held in
    let y = held-inside (s.side * s.side) q s.right_held in
    c.same_words.ensures ∙ same-cut m.l.now i m.r.now i 4 (i + 4 - i) (i + 4 - i) (omega arith) (omega arith) (omega arith) (omega arith) ∙ alike-entry p q (sym s.alike_is ∙ c.if-self.true) c.args.k
