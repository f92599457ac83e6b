-- What the judge of a channel answers inside: the header or a refusal, and whether a record is blank; the room and the walk that its calls ask for.
use Rattle.std.specs.Prelude.{◌≡◌, Bool, true, false, cond, ◌&&◌, ◌||◌, List, ℕ, zero, suc, ◌+◌, ◌*◌, ◌≤◌, length, ℤ, pos, nat_abs, Option, Some, None, Result, Ok}
use Rattle.std.specs.Result.{result_and}
use Rattle.algebra.specs.Words.{up_to}
use Rattle.exact.specs.Exact.{max_exponent}
use Rattle.verdict.specs.Questions.{Verdict}
use Rattle.verdict.specs.declared.Refusal.{Refusal}
use Rattle.channel.specs.declared.Shape.{Shape}
use Rattle.channel.specs.declared.forms.Parts.{Parts}
use Rattle.gather.specs.Words.{all_zero as zero_words}
use Rattle.channel.specs.Layout.{Form, channels, form_in, record_head, record_at, block_size, exponent_place, entry_size, word, store_at, dim_at, bits_at, count_at}
use Rattle.channel.specs.WellFormed.{is_start, store_ok, rises, header_ok, chain_ok, well_formed_in, verdict_by, form_verdict}

abbrev pub shape_at : List ℤ → Shape
shape_at l = record { dim = dim_at l; bits = bits_at l; count = count_at l }

-- the header, where the verdict accepts
abbrev pub shape_by : Verdict → List ℤ → Result Shape Refusal
shape_by v l = result_and v (Ok (shape_at l))

abbrev pub shape_of : List ℤ → Result Shape Refusal
shape_of l = shape_by (form_verdict l) l

-- the header alone, of words of the form that keeps these parts
abbrev pub header_of : Parts → List ℤ → Result Shape Refusal
header_of f l = shape_by (verdict_by (header_ok (form_in f l) l) false) l

-- x, where a test holds
abbrev pub when : {A : Type 0} → Bool → A → Option A
when b x = cond b (Some x) None

-- index z is that of one of `count` records, whose store has at most m bits and comes after the one before it
abbrev pub enters : Form → List ℤ → ℕ → ℕ → ℤ → Bool → ℕ → Bool
enters F l m count z first prev = is_start F count z && (store_ok l (nat_abs z) m && rises first prev (store_at l (nat_abs z)))

-- all numerators that are kept of the record at `at` are 0
abbrev pub blank : Form → List ℤ → ℕ → Bool
blank F l at = zero_words l (at + record_head) (block_size F)

-- so are those of one of n records along the chain from index `at` on
abbrev pub some_blank : Form → List ℤ → ℕ → ℕ → Bool
some_blank F l zero at = false
some_blank F l (suc n) at = blank F l at || some_blank F l n (nat_abs (word l at))

-- room for `count` records of the form F
pub record Room (F : Form) (l : List ℤ) (m count : ℕ) : Type 0 where
  pub few : m ≤ 64
  pub inside : record_at F count ≤ length l

-- n entries of the record at `at` lie inside the words, and their exponent is one
pub record Entries (l : List ℤ) (at n : ℕ) : Type 0 where
  pub inside : at + record_head + n * entry_size false ≤ length l
  pub exponent : up_to max_exponent (word l (at + exponent_place)) ≡ true

-- a walk along a well-formed chain: n records are left, from index `at` on
pub record OnwardIn (F : Form) (l : List ℤ) (n at : ℕ) : Type 0 where
  pub right : well_formed_in F l ≡ true
  pub first : Bool
  pub prev : ℕ
  pub ahead : chain_ok F l (bits_at l) (count_at l) n (pos at) first prev ≡ true

abbrev pub Onward : List ℤ → ℕ → ℕ → Type 0
Onward l = OnwardIn (channels (dim_at l)) l
