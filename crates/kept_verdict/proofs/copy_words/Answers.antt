-- One word more is copied at each pass.
use Rattle.std.proofs.Common.{arith, length}
use Rattle.store.specs.Store.{max_word}
use Rattle.kept_circuit.proofs.Sound.{up_there, up_small}
use Rattle.kept_verdict.proofs.Copied.{copy_more}
use Rattle.kept_verdict.proofs.copy_words.Goals as goal

pub follow-requires : goal.follow-requires
follow-requires c = (omega arith, up_there c.args.words.now 0 (length c.args.words.now) max_word c.loop-k.k c.requires.1 (omega arith) (omega arith))

pub overflow_cast-out : goal.overflow_cast-out
overflow_cast-out c = record { fits = omega (arith, up_small c.args.words.now 0 (length c.args.words.now) max_word c.loop-k.k c.requires.1 (omega arith) (omega arith)) }

pub loop-k-preserved : goal.loop-k-preserved
loop-k-preserved c = copy_more c.args.words.now c.args.out.now c.loop-k.out c.loop-k.k c.follow.result c.loop-k.invariant (omega arith) c.follow.ensures
