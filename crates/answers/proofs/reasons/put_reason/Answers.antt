-- `reasons::put_reason` meets its contract.
use mathlib.Core.Path.{sym, ap}
use Rattle.text.proofs.Put.{text}
use Rattle.answers.specs.Reasons.{reason}
use Rattle.answers.proofs.reasons.put_reason.Goals as goal

pub returns-in-Ok : goal.returns-in-Ok
returns-in-Ok c = text (ap reason (sym c.in-Ok.is)) c.put_all.ensures
