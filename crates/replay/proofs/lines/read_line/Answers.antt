-- `lines::read_line` meets its contract.
use Rattle.std.proofs.Common.{◌≡◌, ℕ, ◌+◌, ◌-◌, List, arith, sym, ap, ◌∙◌, length, min, take, drop}
use Rattle.std.proofs.lemmas.List.{length-drop}
use Rattle.replay.proofs.Parts.{take-fitting, drop-fitting}
use Rattle.replay.proofs.lines.read_line.Goals as goal

line : (t : List ℕ) (next size start k : ℕ) → start ≡ min next (length t) → k ≡ min size (length t - start) → take ((start + k) - start) (drop start t) ≡ take size (drop next t)
line t next size start k e f =
    let whole : (start + k) - start ≡ k = omega arith in
    ap (λ (n : ℕ). take n (drop start t)) whole ∙ take-fitting k size (drop start t) (f ∙ ap (min size) (sym (length-drop start t))) ∙ ap (take size) (drop-fitting start next t e)

behind : (n next size start k j : ℕ) → start ≡ min next n → k ≡ min size (n - start) → j ≡ min 1 (n - (start + k)) → (start + k) + j ≡ min (next + size + 1) n
behind n next size start k j e f h = omega arith

pub returns-clause-bytes : goal.returns-clause-bytes
returns-clause-bytes c =
    let t = c.args.text.now in
    let size = c.read-size.result in
    line t size.next size.size c.fitting-start.result c.fitting.result c.fitting-start.ensures c.fitting.ensures ∙ (λ i. take (c.read-size.ensures i).size (drop (c.read-size.ensures i).next t))

pub returns-clause-next : goal.returns-clause-next
returns-clause-next c =
    let n = length c.args.text.now in
    let size = c.read-size.result in
    behind n size.next size.size c.fitting-start.result c.fitting.result c.fitting-2.result c.fitting-start.ensures c.fitting.ensures c.fitting-2.ensures
    ∙ (λ i. min ((c.read-size.ensures i).next + (c.read-size.ensures i).size + 1) n)
