-- `find_gate` meets its contract.
use Rattle.std.proofs.Common.{◌≡◌, rules}
use Rattle.text.specs.Ascii.{ascii}
use Rattle.qasm.specs.Tokens.{same}
use Rattle.statements.proofs.Counting.{counting_end, counting_found, counting_more, counting_same}
use Rattle.statements.proofs.find_gate.Goals as goal
use Rattle.statements.proofs.find_gate.Goals.{then-opening-is_declaration+else-before-index, else-opening-is_declaration}

pub returns-then-before-index : goal.returns-then-before-index
returns-then-before-index c =
    let q = counting_found c.args.text.now c.args.index c.loop-token.invariant c.in-Some.ensures.steps c.is_declaration.ensures c.if-opening-is_declaration.true c.if-before-index.true in
    record { position = q.position; before = q.count }

pub loop-token-preserved : goal.loop-token-preserved
loop-token-preserved c =
    let a = c.args in
    let q : c.eq-opening.result ≡ same (ascii ";") c.in-Some.token.bytes.now = search rules in
    elim c.if-opening-is_declaration.branch [
      | then-opening-is_declaration+else-before-index w ↦
          counting_more a.text.now a.index c.loop-token.invariant c.in-Some.ensures.steps c.is_declaration.ensures q w.if-opening-is_declaration.true w.if-before-index.false w.before-is
      | else-opening-is_declaration w ↦ counting_same a.text.now a.index c.loop-token.invariant c.in-Some.ensures.steps c.is_declaration.ensures q w.if-opening-is_declaration.false w.before-is
    ]

pub returns : goal.returns
returns c = let q = counting_end c.args.text.now c.args.index c.loop-token.invariant c.in-None.ensures.steps.0 in record { position = q.position; before = q.count }
