-- `Tokens::behind` meets its contract.
use Rattle.qasm.proofs.Scanning.{from-min}
use Rattle.qasm.proofs.tokens.Tokens.behind.Goals as goal

pub returns : goal.returns
returns c = from-min c.args.text.now c.args.at c.min.ensures
