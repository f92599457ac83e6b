-- `numeral::read` meets its contract.
use Rattle.std.proofs.Common.{◌≡◌, arith, ◌+◌, drop, sym, ap, ◌∙◌}
use Rattle.replay.specs.declared.numeral.Digits.{Digits}
use Rattle.replay.specs.Numerals.{word_of, word_from}
use Rattle.replay.proofs.Reading.{from_start, from_end, from_blank, from_more}
use Rattle.replay.proofs.numeral.read.Goals as goal

pub loop-i-init : goal.loop-i-init
loop-i-init c = record { inside = omega arith; word = from_start c.args.text.now c.args.at }

pub returns-then-is_blank : goal.returns-then-is_blank
returns-then-is_blank c =
    c.word.ensures ∙ sym (c.loop-i.invariant.word ∙ from_blank c.args.text.now c.loop-i.digits c.loop-i.i c.loop-i-test.true (sym c.is_blank.ensures ∙ c.if-is_blank.true))

pub loop-i-preserved : goal.loop-i-preserved
loop-i-preserved c =
    let t = c.args.text.now in
    record {
      inside = omega arith;
      word = c.loop-i.invariant.word ∙ from_more t c.loop-i.digits c.loop-i.i c.loop-i-test.true (sym c.is_blank.ensures ∙ c.if-is_blank.false)
          ∙ ap (λ (d : Digits). word_from d (c.loop-i.i + 1) (drop (c.loop-i.i + 1) t)) (sym c.with-digits.ensures);
    }

pub returns : goal.returns
returns c =
    let e : c.loop-i.i ≡ c.max.result = omega arith in
    c.word-2.ensures ∙ ap (word_of c.loop-i.digits) (sym e) ∙ sym (c.loop-i.invariant.word ∙ from_end c.args.text.now c.loop-i.digits c.loop-i.i c.loop-i-test.false)
