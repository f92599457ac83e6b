-- `is_framed` meets its contract.
use mathlib.Core.Path.{ap, sym, ◌∙◌}
use Prim.Native.Nat.{ℕ, ◌-◌}
use lib.Dec.{leb}
use lib.ListN.{length}
use borrow.Author.Tests.{lt-leb}
use native.Mathlib.Omega.{arith}
use Rattle.pair_list.proofs.Framing.{no_head, by_bytes, by_words}
use Rattle.pair_list.proofs.PairList.is_framed.Goals as goal

pub returns-then-words-lt-PAIR_HEAD : goal.returns-then-words-lt-PAIR_HEAD
returns-then-words-lt-PAIR_HEAD c =
    let a = c.args in
    sym (no_head a.self.words.now a.self.stores.now a.place.at a.place.from (omega arith))

pub returns-then-pair_words-words : goal.returns-then-pair_words-words
returns-then-pair_words-words c =
    let a = c.args in
    ap (λ (k : ℕ). leb k (length a.self.stores.now - a.place.from)) c.pair_bytes.ensures
    ∙ by_bytes a.self.words.now a.self.stores.now a.place.at a.place.from (omega arith) (omega arith) (omega (arith, c.pair_words.ensures))

pub returns-else-pair_words-words : goal.returns-else-pair_words-words
returns-else-pair_words-words c =
    let a = c.args in
    lt-leb c.pair_words.result (length a.self.words.now - a.place.at) (omega arith)
    ∙ by_words a.self.words.now a.self.stores.now a.place.at a.place.from (omega arith) (omega (arith, c.pair_words.ensures))
