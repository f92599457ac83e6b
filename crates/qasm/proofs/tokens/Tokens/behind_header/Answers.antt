-- `Tokens::behind_header` meets its contract.
use Rattle.std.proofs.Common.{arith}
use Rattle.qasm.specs.Tokens.{is_blank}
use Rattle.qasm.proofs.Scanning.{run_most}
use Rattle.qasm.proofs.tokens.Tokens.behind_header.Goals as goal

pub overflow_add-blanks : goal.overflow_add-blanks
overflow_add-blanks c = omega (arith, c.blanks.ensures, run_most is_blank c.args.text.now)
