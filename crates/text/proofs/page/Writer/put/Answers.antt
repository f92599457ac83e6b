-- `page::Writer::put` meets its contract.
use mathlib.Core.Path.{refl}
use Rattle.text.proofs.Put.{put_in, put_out}
use Rattle.text.proofs.page.Writer.put.Goals as goal

pub returns-then-at-self : goal.returns-then-at-self
returns-then-at-self c = record { same = refl; is = put_in c.args.self.now.room.now c.args.self.now.at c.args.b c.if-at-self.true }

pub returns-else-at-self : goal.returns-else-at-self
returns-else-at-self c = record { same = refl; is = put_out c.args.self.now.room.now c.args.self.now.at c.args.b c.if-at-self.false }
