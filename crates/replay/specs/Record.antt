-- What a text records: numbers, scalars and bytes, each held against what a call answered.
use Rattle.std.specs.Prelude.{Bool, true, false, cond, ◌&&◌, ℕ, ◌+◌, ◌%◌, eqb, ltb, List, [], ◌∷◌, fold, length, get_or}
use Rattle.exact.specs.Exact.{equal}
use Rattle.cells.specs.Cells.{cell_size}
use Rattle.scalar.specs.declared.Scalar.{Scalar}
use Rattle.scalar.specs.Calls.{value}
use Rattle.replay.specs.declared.record.Record.{Record}
use Rattle.replay.specs.declared.record.Source.{Source}
use Rattle.replay.specs.declared.record.Source.TheVariants.{Rust, Document}
use Rattle.replay.specs.declared.scalars.ScalarRead.{ScalarRead}
use Rattle.replay.specs.Counts.{added}
use Rattle.replay.specs.Numerals.{word_at, word_no}

-- where a record comes from: 0 the Rust, else a document
abbrev pub source_of : ℕ → Source
source_of n = cond (eqb n 0) Rust Document

abbrev pub is_rust : Source → Bool
is_rust Rust = true
is_rust Document = false

-- n0 to n3 and e
abbrev pub scalar_at : List ℕ → ℕ → ScalarRead
scalar_at t at = record {
  value = record {
    n = (word_no t at 0).value ∷ (word_no t at 1).value ∷ (word_no t at 2).value ∷ (word_no t at 3).value ∷ [];
    e = (word_no t at 4).size % 4294967296;
  };
  next = (word_no t at 4).next;
}

-- whether all that was compared agrees, where the rest begins, and how many numbers were compared
abbrev pub record_of : Bool → ℕ → ℕ → Record
record_of agrees next compared = record { agrees = agrees; next = next; compared = compared }

-- nothing compared yet
abbrev pub begun : ℕ → Record
begun at = record_of true at 0

-- the next number is n
abbrev pub with_number : List ℕ → Record → ℕ → Record
with_number t r n = record_of (r.agrees && eqb (word_at t r.next).size n) (word_at t r.next).next (added r.compared 1)

abbrev pub with_numbers : List ℕ → Record → List ℕ → Record
with_numbers t r ns = fold (with_number t) r ns

-- the next numbers are the sizes of these
abbrev pub with_sizes : {A : Type 0} → (A → ℕ) → List ℕ → Record → List A → Record
with_sizes size t r ns = fold (λ s n. with_number t s (size n)) r ns

-- the next scalar is s: five numbers
abbrev pub with_scalar : List ℕ → Record → Scalar → Record
with_scalar t r s = record_of (r.agrees && equal (value s) (value (scalar_at t r.next).value)) (scalar_at t r.next).next (added r.compared cell_size)

-- the next byte is b; behind the text's end there is none to compare
abbrev pub with_byte : List ℕ → Record → ℕ → Record
with_byte t r b = cond (ltb r.next (length t)) (record_of (r.agrees && eqb (get_or t r.next 0) b) (r.next + 1) (added r.compared 1)) (record_of false r.next r.compared)

abbrev pub with_bytes : List ℕ → Record → List ℕ → Record
with_bytes t r bs = fold (with_byte t) r bs
