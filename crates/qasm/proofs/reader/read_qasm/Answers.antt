-- `reader::read_qasm` meets its contract.
use Rattle.std.proofs.Common.{ℕ, ◌+◌, ap, ◌∙◌, length, arith}
use Rattle.qasm.specs.Tokens.{is_blank}
use Rattle.qasm.specs.Forms.{header}
use Rattle.qasm.specs.Reading.{reply, filled}
use Rattle.qasm.specs.Inner.Scanning.{from}
use Rattle.qasm.proofs.Scanning.{run_most}
use Rattle.qasm.proofs.Answer.{no_header, behind}
use Rattle.qasm.proofs.reader.read_qasm.Goals as goal

pub slice_bounds-starts_with-count : goal.slice_bounds-starts_with-count
slice_bounds-starts_with-count c = omega (arith, c.blanks-begin.ensures, run_most is_blank c.args.text.now)

pub overflow_add-begin : goal.overflow_add-begin
overflow_add-begin c = omega (arith, c.blanks-begin.ensures, run_most is_blank c.args.text.now)

pub returns-then-not-starts_with : goal.returns-then-not-starts_with
returns-then-not-starts_with c =
    let k = no_header c.args.text.now c.blanks-begin.ensures c.starts_with.ensures.value c.args.gates.now c.if-not-starts_with.true in
    record { reply = k.reply; gates = k.gates }

pub returns : goal.returns
returns c =
    let g = c.args.gates.now in
    let e = c.read_body.ensures in
    let tokens = c.behind-tokens.ensures ∙ ap (λ (i : ℕ). from c.args.text.now (i + length header)) c.blanks-begin.ensures in
    let k = behind c.args.text.now c.blanks-begin.ensures c.starts_with.ensures.value c.if-not-starts_with.false tokens in
    record { reply = e.reply ∙ ap (reply (length g)) k; gates = e.gates ∙ ap (filled g) k }
