-- `put_compared` meets its contract.
use Rattle.text.proofs.Put.{none}
use Rattle.judge_texts.proofs.put_compared.Goals as goal

pub returns-in-Err : goal.returns-in-Err
returns-in-Err c = rw c.in-Err.is (none c.args.out.now)
