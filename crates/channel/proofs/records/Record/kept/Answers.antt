-- `records::Record::kept` meets its contract.
use mathlib.Core.Path.{sym, ap, ◌∙◌}
use mathlib.Core.Bool.{Bool}
use Prim.Native.Nat.{ℕ, ◌+◌}
use native.Mathlib.Omega.{arith}
use Rattle.exact.specs.Exact.{list_of}
use Rattle.channel.specs.Layout.{record_head, entry_size, entry_from, word}
use Rattle.channel.proofs.Kept.{kept-inside, number-kept, read_is}
use Rattle.channel.proofs.records.Record.kept.Goals as goal

pub overflow_add-p : goal.overflow_add-p
overflow_add-p c = let q = kept-inside c.args.self.now.form c.requires _ c.place-p.ensures in let t = c.args.self.now.inside in omega arith

pub read_kept-requires : goal.read_kept-requires
read_kept-requires c =
    let F = c.args.self.now.form in
    let q = kept-inside F c.requires _ c.place-p.ensures in
    let t = c.args.self.now.inside in
    omega (arith, ap entry_size c.is_plain.ensures)

pub returns : goal.returns
returns c =
    let F = c.args.self.now.form in
    let l = c.args.self.now.words.now in
    c.read_kept.ensures ∙ ap (λ (b : Bool). list_of (entry_from b (λ (i : ℕ). word l (record_head + c.place-p.result + i)))) c.is_plain.ensures
    ∙ ap list_of (read_is F l 0 c.args.r c.args.c _ c.place-p.ensures ∙ sym (number-kept F l 0 c.args.r c.args.c c.requires.col c.requires.after))
