-- Examples of texts with what is read from them, of circuits with what is written of them, and the claim that all of them hold.
use Rattle.std.specs.Prelude.{◌≡◌, Bool, true, false, ◌&&◌, List, [], ◌∷◌, ◌++◌, ℕ, ◌+◌, eqb, length}
use Prim.Native.String.{String}
use Rattle.algebra.specs.Lists.{every}
use Rattle.verdict.specs.declared.Refusal.{Refusal}
use Rattle.verdict.specs.declared.Refusal.TheVariants.{BadText, UnknownNameAt}
use Rattle.verdict.specs.Verdict.{refusal_number}
use Rattle.gate.specs.Gate.{Gate, gate}
use Rattle.text.specs.Ascii.{ascii}
use Rattle.qasm.specs.Tokens.{same}
use Rattle.qasm.specs.Reading.{Outcome, circuit, refused, read_of}
use Rattle.qasm.specs.Writing.{written}

pub data Row : Type 0 where
  -- a text and what is read from it
  reads : List ℕ → Outcome → Row
  -- both counts, gates and the text that is written
  writes : ℕ → ℕ → List Gate → List ℕ → Row

abbrev pub agree : Outcome → Outcome → Bool
agree (circuit n m ws) (circuit n' m' ws') = eqb n n' && (eqb m m' && same ws ws')
agree (circuit n m ws) (refused r at) = false
agree (refused r at) (circuit n m ws) = false
agree (refused r at) (refused r' at') = eqb (refusal_number r) (refusal_number r') && eqb at at'

abbrev pub holds : Row → Bool
holds (reads t r) = agree (read_of t) r
holds (writes n m gs t) = same (written n m gs) t

-- ---- texts that begin as most do
abbrev pub top : List ℕ
top = ascii "OPENQASM 2.0;\ninclude \"qelib1.inc\";\n"

abbrev pub sound : String → ℕ → ℕ → List ℕ → Row
sound s n m ws = reads (top ++ ascii s) (circuit n m ws)

-- a fault `at` bytes after these
abbrev pub faulty : String → Refusal → ℕ → Row
faulty s r at = reads (top ++ ascii s) (refused r (length top + at))

abbrev pub rows : List Row
rows =
    -- sound texts
    sound "qreg q[5];" 5 0 []
    ∷ sound "qreg a[2]; creg b_1[1]; h a[1]; measure a[1] -> b_1[0];" 2 1 (0 ∷ 1 ∷ 0 ∷ 0 ∷ 0 ∷ 12 ∷ 1 ∷ 0 ∷ 0 ∷ 0 ∷ [])
    ∷ sound "qreg q[3]; ccx q[2],q[0],q[1]; cy q[1] , q[2];" 3 0 (10 ∷ 2 ∷ 0 ∷ 1 ∷ 0 ∷ 20 ∷ 1 ∷ 2 ∷ 0 ∷ 0 ∷ [])
    ∷ sound "qreg//the\tqubits\nq\n[ 4 ]\r;// tdg q[0];\ntdg//\nq[3] ; // done" 4 0 (6 ∷ 3 ∷ 0 ∷ 0 ∷ 0 ∷ [])
    ∷ sound "qreg s[1];creg swap[0];s s[7];measure s[4294967295]->swap[2];" 1 0 (3 ∷ 7 ∷ 0 ∷ 0 ∷ 0 ∷ 12 ∷ 4294967295 ∷ 2 ∷ 0 ∷ 0 ∷ [])
    ∷ reads (ascii "\r\n\tOPENQASM 2.0;include\"qelib1.inc\";qreg q[10];") (circuit 10 0 [])
    -- the header and what follows it: 13
    ∷ reads [] (refused BadText 0)
    ∷ reads (ascii " // mine\nOPENQASM 2.0;include \"qelib1.inc\";qreg q[1];") (refused BadText 1)
    ∷ reads (ascii "OPENQASM 2.0 ;include \"qelib1.inc\";qreg q[1];") (refused BadText 0)
    ∷ reads (ascii "OPENQASM 2.0; include <qelib1.inc>;") (refused BadText 22)
    ∷ faulty "creg c[1];" BadText 0
    ∷ faulty "qregs q[1];" BadText 0
    ∷ faulty "qreg Wires[6];" BadText 5
    ∷ faulty "qreg q[2]; creg q[2];" BadText 16
    ∷ faulty "qreg wires[8589934592];" BadText 11
    ∷ faulty "qreg q[4294967296];" BadText 7
    ∷ faulty "qreg q[10000000000];" BadText 7
    ∷ faulty "qreg q[1]; x q[007];" BadText 15
    -- the text ends too soon: 13
    ∷ faulty "qreg // q[1];" BadText 13
    ∷ faulty "qreg q[1]; x q[0] // ;" BadText 22
    -- signs: 13
    ∷ faulty "qreg q[1]; / x q[0];" BadText 11
    ∷ faulty "qreg q[2]; cx q[0] q[1];" BadText 19
    ∷ faulty "qreg q[2]; h q;" BadText 14
    ∷ faulty "qreg q[2]; creg c[1]; measure q[0] - > c[0];" BadText 35
    -- another word for a gate or a register: 14
    ∷ faulty "qreg q[2]; creg c[1]; creg d[1];" (UnknownNameAt 0) 22
    ∷ faulty "qreg q[1]; sx q[0];" (UnknownNameAt 0) 11
    ∷ faulty "qreg q[2]; cx q[0],r[1];" (UnknownNameAt 0) 19
    ∷ faulty "qreg q[2]; measure q[0] -> c[0];" (UnknownNameAt 0) 27
    -- the earliest fault decides
    ∷ faulty "qreg q[1]; u q[00];" (UnknownNameAt 0) 11
    ∷ faulty "qreg q[1]; x q[00]; u q[0];" BadText 15
    -- written texts
    ∷ writes 0 0 [] (top ++ ascii "qreg q[0];\ncreg c[0];\n")
    ∷ writes 12 3 (gate 4 0 0 0 0 ∷ gate 26 2 10 1 0 ∷ gate 12 11 2 0 0 ∷ [])
    (top ++ ascii "qreg q[12];\ncreg c[3];\nsdg q[0];\ncswap q[2],q[10],q[1];\nmeasure q[11]->c[2];\n")
    ∷ []

abbrev pub Examples : Type 0
Examples = every holds rows ≡ true
