-- The tokens that are left of a text.
use Rattle.std.specs.Prelude.{List}
use Rattle.qasm.specs.declared.tokens.Token as code
use Rattle.qasm.specs.declared.tokens.Tokens.{Tokens}
use Rattle.qasm.specs.Tokens.{Token, token}
use Rattle.qasm.specs.Inner.Scanning.{from}

abbrev pub token_of : code.Token → Token
token_of t = token t.at t.bytes.now

abbrev pub tokens_left : Tokens → List Token
tokens_left s = from s.text.now s.at
