-- `words::read_numbers` meets its contract.
use Rattle.std.proofs.Common.{◌≡◌, sym, ◌∙◌, arith, length, min}
use Rattle.replay.specs.Numerals.{word_at}
use Rattle.replay.specs.Words.{numbers_at}
use Rattle.replay.proofs.Filling.{numbers-length, read_part, rest_part}
use Rattle.replay.proofs.words.read_numbers.Goals as goal

pub returns : goal.returns
returns g c =
    let low = g.T.Number.low_of in
    let t = c.args.text.now in
    let at = c.args.at in
    let room = length c.args.buf.now in
    let filled = c.fill_numbers-filled.ensures in
    let len = c.fill_numbers-filled.result.len in
    let split = c.split_at.ensures in
    let read = (numbers_at low t at room).words in
    let long : length read ≡ len = numbers-length low t (min (word_at t at).size room) (word_at t at).next ∙ sym filled.len in
    record {
      words = read_part read c.args.buf.now len filled.words long split.front;
      rest = rest_part read c.args.buf.now len filled.words long (length c.split_at.result.0.now) split.front_len split.back;
      room = omega arith;
      next = filled.next;
    }
