-- `words::read_words` meets its contract.
use Rattle.std.proofs.Common.{sym, ◌∙◌, arith, take, drop}
use Rattle.replay.proofs.words.read_words.Goals as goal

pub returns : goal.returns
returns c =
    let filled = c.fill_words-filled.ensures in
    let split = c.split_at.ensures in
    record {
      words = split.front ∙ (λ i. take (filled.len i) (filled.words i));
      rest = split.back ∙ (λ i. drop (sym split.front_len i) (filled.words i));
      room = omega arith;
      next = filled.next;
    }
