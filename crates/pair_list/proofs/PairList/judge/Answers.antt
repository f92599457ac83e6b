-- `judge` meets its contract.
use mathlib.Core.Path.{sym, ◌∙◌}
use Rattle.pair_list.proofs.Framing.{walk_more, walk_stop, walk_full, words_left, bytes_left, framed-room}
use Rattle.pair_list.proofs.PairList.judge.Goals as goal
use Rattle.pair_list.proofs.PairList.judge.Goals.{else-place-self-via-then-place-self+else-place-self-2, else-place-self-via-else-place-self}

pub returns-then-not-is_framed : goal.returns-then-not-is_framed
returns-then-not-is_framed c =
    let a = c.args in
    sym (walk_stop a.self.words.now a.self.stores.now c.loop-i.invariant c.loop-i-test.true (sym c.is_framed.ensures ∙ c.if-not-is_framed.true))

pub behind-place-requires : goal.behind-place-requires
behind-place-requires c = framed-room _ _ _ _ (sym c.is_framed.ensures ∙ c.if-not-is_framed.false)

pub loop-i-preserved : goal.loop-i-preserved
loop-i-preserved c =
    let a = c.args in
    let next = c.behind-place.ensures in
    walk_more a.self.words.now a.self.stores.now c.loop-i.invariant c.loop-i-test.true (sym c.is_framed.ensures ∙ c.if-not-is_framed.false) next.at next.from

pub returns-then-place-self-2 : goal.returns-then-place-self-2
returns-then-place-self-2 c =
    let a = c.args in
    sym (walk_full a.self.words.now a.self.stores.now c.loop-i.invariant c.loop-i-test.false c.if-place-self.true c.if-place-self-2.true)

pub returns : goal.returns
returns c =
    let a = c.args in
    elim c.else-place-self.branch [
      | else-place-self-via-then-place-self+else-place-self-2 w ↦ sym (bytes_left a.self.words.now a.self.stores.now c.loop-i.invariant c.loop-i-test.false w.if-place-self.true w.if-place-self-2.false)
      | else-place-self-via-else-place-self w ↦ sym (words_left a.self.words.now a.self.stores.now c.loop-i.invariant c.loop-i-test.false w.if-place-self.false)
    ]
