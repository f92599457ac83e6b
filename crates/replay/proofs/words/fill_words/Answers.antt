-- `words::fill_words` meets its contract.
use Rattle.std.proofs.Common.{◌≡◌, ◌-◌, suc, ◌+◌, arith, rules, ap, sym, ◌∙◌, length, min, replicate, pos, set}
use Rattle.replay.specs.Words.{placed}
use Rattle.replay.proofs.Reading.{a_word, following}
use Rattle.replay.proofs.Filling.{placed_end, placed-more}
use Rattle.replay.proofs.words.fill_words.Goals as goal

pub loop-i-preserved : goal.loop-i-preserved
loop-i-preserved c =
    let t = c.args.text.now in
    let n = c.read-count.result.size in
    let value = a_word t c.read-place.result.next c.read-word.ensures in
    let e = c.put.ensures ∙ ap (set c.loop-i.buf c.read-place.result.size) value in
    let one_less : n - c.loop-i._i ≡ suc (n - (c.loop-i._i + 1)) = omega arith in
    c.loop-i.invariant ∙ placed-more t (n - c.loop-i._i) (n - (c.loop-i._i + 1)) c.loop-i.next c.loop-i.buf one_less c.read-place.ensures c.read-word.ensures e

pub returns : goal.returns
returns c =
    let t = c.args.text.now in
    let n = length c.args.buf.now in
    let first = c.read-length.ensures in
    let count = following t c.args.at 0 first c.read-count.ensures in
    let zeros : c.fill.new.self ≡ replicate n (pos 0) = search rules in
    let all =
    sym (c.loop-i.invariant ∙ placed_end t (c.read-count.result.size - c.loop-i._i) c.loop-i.next c.loop-i.buf (omega arith))
    ∙ (λ i. placed t (count i).size (count i).next (zeros i)) in
    record {
      len = c.fitting-len.ensures ∙ (λ i. min (first i).size n);
      room = omega arith;
      words = λ i. (all i).words;
      next = λ i. (all i).next;
    }
