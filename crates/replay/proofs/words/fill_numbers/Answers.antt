-- `words::fill_numbers` meets its contract.
use Rattle.std.proofs.Common.{◌≡◌, arith, ◌++◌, length}
use Rattle.replay.proofs.Filling.{fitted, none_yet, one_more, all_kept}
use Rattle.replay.proofs.words.fill_numbers.Goals as goal

pub loop-kept-init : goal.loop-kept-init
loop-kept-init g c =
    let words = c.split_at_mut-words.result.0.now in
    none_yet g.T.Number.low_of c.args.text.now c.read-count.result.next (length words) words (omega arith)

pub loop-kept-preserved : goal.loop-kept-preserved
loop-kept-preserved g c =
    one_more g.T.Number.low_of c.args.text.now c.read-count.result.next (length c.split_at_mut-words.result.0.now) c.loop-kept.invariant c.loop-kept-test.true c.read-word.ensures c.low.ensures

pub returns : goal.returns
returns g c =
    let room = length c.args.buf.now in
    let count = c.read-count.ensures in
    let fits = c.fitting-len.ensures in
    let split = c.split_at_mut-words in
    let n = length split.result.0.now in
    let cut : n ≡ c.fitting-len.result = omega arith in
    let all =
    all_kept g.T.Number.low_of c.args.text.now c.args.at room c.fitting-len.result n count fits cut c.loop-kept.auto.words c.loop-kept.invariant
    c.loop-kept-test.false c.loop-kept.auto.kept-index-end in
    record {
      len = fitted room fits count;
      room = omega arith;
      words = λ i. (all i).words ++ split.ensures.back i;
      next = λ i. (all i).next;
    }
