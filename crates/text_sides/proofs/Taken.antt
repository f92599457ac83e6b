-- What is read of a text, from the reader's reply: a circuit that is run, or a fault.
use Rattle.std.specs.Prelude.{Result, Ok, Err, MatchResult, IsErrAnd}
use Rattle.std.specs.Result.{result_map_both}
use mathlib.Core.Path.{◌≡◌, refl, sym, ap, ◌∙◌, subst}
use mathlib.Core.Bool.{Bool, true, false, cond}
use mathlib.Core.List.{List}
use Prim.Native.Nat.{ℕ, ◌≤◌}
use native.Mathlib.Omega.{arith}
use lib.Dec.{leb}
use lib.ListN.{length, take}
use lib.Seq.{sets, length-sets}
use lib.IntN.{ℤ}
use borrow.Author.Tests.{leb-true}
use Rattle.verdict.specs.Questions.{Verdict}
use Rattle.verdict.specs.declared.Refusal.TheVariants.{ShortBuffer}
use Rattle.circuit.specs.declared.limits.Limits.{Limits}
use Rattle.judge.specs.Call.{verdict_of, result_after, work_after}
use Rattle.qasm.specs.declared.reader.Reading.{Reading}
use Rattle.qasm.specs.declared.reader.Fault.{Fault}
use Rattle.qasm.specs.Reading.{Outcome, circuit, refused, fault_at, reply, filled}
use Rattle.text_sides.specs.declared.NoChannel.{NoChannel}
use Rattle.text_sides.specs.declared.NoChannel.TheVariants.{Faulty, Refused}
use Rattle.text_sides.specs.Sides.{store_for, side_by, result_by, work_by}
use Rattle.text_sides.proofs.Padding.{at-start}

-- a circuit of the words ws
pub record Taken (g : List ℕ) (o : Outcome) (r : Reading) : Type 0 where
  pub ws : List ℕ
  pub is : o ≡ circuit r.qubits r.bits ws
  pub fits : leb (length ws) (length g) ≡ true
  pub words : r.words ≡ length ws

module _ (g : List ℕ) (r : Reading) where
  abbrev reading : ℕ → ℕ → List ℕ → Reading
  reading n m ws = record { qubits = n; bits = m; words = length ws }

  read_circuit : (n m : ℕ) (ws : List ℕ) → leb (length ws) (length g) ≡ true → r ≡ reading n m ws → Taken g (circuit n m ws) r
  read_circuit n m ws f e = record { ws = ws; is = ap (λ (x : Reading). circuit x.qubits x.bits ws) (sym e); fits = f; words = ap (λ (x : Reading). x.words) e }

  pub taken : (o : Outcome) → Ok r ≡ reply (length g) o → Taken g o r
  taken (refused x at) e = absurd (cc)
  taken (circuit n m ws) e = by (leb (length ws) (length g)) refl e
    where
      by : (b : Bool) → leb (length ws) (length g) ≡ b → Ok r ≡ cond b (Ok (reading n m ws)) (Err (fault_at ShortBuffer 0)) → Taken g (circuit n m ws) r
      by true f h = read_circuit n m ws f (cc)
      by false f h = absurd (cc)

-- what is answered, and what both buffers have
pub record Run (σ : List ℕ) (l : Limits) (g : List ℕ) (r w : List ℤ) (o : Outcome) (a : Result Reading NoChannel) (x y : List ℤ) : Type 0 where
  pub side : a ≡ side_by σ l g r w o
  pub res : x ≡ result_by σ l g r w o
  pub work : y ≡ work_by σ l g r w o

-- ---- a circuit that is run, on the words that were read
module _ {g : List ℕ} {o : Outcome} {r : Reading} (k : Taken g o r) {g' : List ℕ} (f : g' ≡ filled g o) where
  gates_are : g' ≡ sets g 0 k.ws
  gates_are = f ∙ ap (filled g) k.is ∙ ap (λ (b : Bool). cond b (sets g 0 k.ws) g) k.fits

  pub long : r.words ≤ length g'
  long = omega (arith, k.words, leb-true (length k.ws) (length g) k.fits, ap length gates_are ∙ length-sets g 0 k.ws)

  pub words_are : take r.words g' ≡ k.ws
  words_are = (λ i. take (k.words i) (gates_are i)) ∙ at-start k.ws g (leb-true (length k.ws) (length g) k.fits)

module _ (σ : List ℕ) (l : Limits) {g : List ℕ} (res w : List ℤ) {o : Outcome} {r : Reading} (k : Taken g o r) {gs : List ℕ} (e : gs ≡ k.ws) where
  abbrev store : List ℕ
  store = store_for r.bits σ

  abbrev whole : Reading
  whole = record { qubits = r.qubits; bits = r.bits; words = length k.ws }

  side-run : (v : Verdict) → v ≡ verdict_of r.qubits r.bits store l gs res w → result_map_both (λ _. r) (Refused r) v ≡ side_by σ l g res w o
  side-run v q =
      (λ i. result_map_both (λ _. record { qubits = r.qubits; bits = r.bits; words = k.words i }) (Refused (record { qubits = r.qubits; bits = r.bits; words = k.words i }))
      ((q ∙ ap (λ (x : List ℕ). verdict_of r.qubits r.bits store l x res w) e) i))
      ∙ sym (ap (side_by σ l g res w) k.is
      ∙ ap (λ (b : Bool). cond b (result_map_both (λ _. whole) (Refused whole) (verdict_of r.qubits r.bits store l k.ws res w)) (Err (Faulty (fault_at ShortBuffer 0)))) k.fits)

  result_run : {x : List ℤ} → x ≡ result_after r.qubits r.bits store l gs res w → x ≡ result_by σ l g res w o
  result_run q =
      q ∙ ap (λ (x : List ℕ). result_after r.qubits r.bits store l x res w) e
      ∙ sym (ap (result_by σ l g res w) k.is ∙ ap (λ (b : Bool). cond b (result_after r.qubits r.bits store l k.ws res w) res) k.fits)

  work_run : {x : List ℤ} → x ≡ work_after r.qubits r.bits store l gs res w → x ≡ work_by σ l g res w o
  work_run q =
      q ∙ ap (λ (x : List ℕ). work_after r.qubits r.bits store l x res w) e
      ∙ sym (ap (work_by σ l g res w) k.is ∙ ap (λ (b : Bool). cond b (work_after r.qubits r.bits store l k.ws res w) w) k.fits)

  -- all that the run of the circuit leaves
  pub run : {v : Verdict} {x y : List ℤ} → v ≡ verdict_of r.qubits r.bits store l gs res w → x ≡ result_after r.qubits r.bits store l gs res w → y ≡ work_after r.qubits r.bits store l gs res w
      → Run σ l g res w o (result_map_both (λ _. r) (Refused r) v) x y
  run {v} p q s = record { side = side-run v p; res = result_run q; work = work_run s }

-- ---- what the reader replies, with a fault of it as the reason that there is no channel
abbrev pub Handed : Result Reading Fault → Result Reading NoChannel → Type 0
Handed q m = MatchResult q (λ x. m ≡ Ok x) (λ f. m ≡ Err (Faulty f))

module _ {m : Result Reading NoChannel} where
  pub reads : (q : Result Reading Fault) {x : Reading} → Handed q m → m ≡ Ok x → q ≡ Ok x
  reads (Ok y) h e = cc
  reads (Err f) h e = absurd (cc)

  faulty : (q : Result Reading Fault) {a : NoChannel} → Handed q m → m ≡ Err a → (f : Fault) × ((q ≡ Err f) × (a ≡ Faulty f))
  faulty (Ok y) h e = absurd (cc)
  faulty (Err f) h e = (f, (refl, cc))

-- and that reason returned
is_returned : (v : Result Reading NoChannel) {a : NoChannel} {f : Fault} → IsErrAnd v (λ x. x ≡ a) → a ≡ Faulty f → v ≡ Err (Faulty f)
is_returned (Ok x) h e = absurd h
is_returned (Err x) h e = ap Err (h ∙ e)

-- ---- a text that is faulty leaves both buffers as they were
abbrev read_as : ℕ → ℕ → List ℕ → Reading
read_as n m ws = record { qubits = n; bits = m; words = length ws }

module _ (σ : List ℕ) (l : Limits) (g : List ℕ) (res w : List ℤ) where
  untouched : {f : Fault} (o : Outcome) → Err f ≡ reply (length g) o → Run σ l g res w o (Err (Faulty f)) res w
  untouched {f} (refused x at) e = let q : f ≡ fault_at x at = (cc) in record { side = ap (λ (f : Fault). Err (Faulty f)) q; res = refl; work = refl }
  untouched {f} (circuit n m ws) e = by (leb (length ws) (length g)) refl e
    where
      by : (b : Bool) → leb (length ws) (length g) ≡ b → Err f ≡ cond b (Ok (read_as n m ws)) (Err (fault_at ShortBuffer 0)) → Run σ l g res w (circuit n m ws) (Err (Faulty f)) res w
      by true k e = absurd (cc)
      by false k e =
          let q : f ≡ fault_at ShortBuffer 0 = (cc) in
          record {
            side = ap (λ (f : Fault). Err (Faulty f)) q ∙ ap (λ (b : Bool). cond b (result_map_both (λ _. read_as n m ws) (Refused (read_as n m ws)) (verdict_of n m (store_for m σ) l ws res w)) (Err (Faulty (fault_at ShortBuffer 0)))) (sym k);
            res = ap (λ (b : Bool). cond b (result_after n m (store_for m σ) l ws res w) res) (sym k);
            work = ap (λ (b : Bool). cond b (work_after n m (store_for m σ) l ws res w) w) (sym k);
          }

  pub unread : (o : Outcome) {q : Result Reading Fault} {m v : Result Reading NoChannel} {a : NoChannel} → q ≡ reply (length g) o → Handed q m → m ≡ Err a → IsErrAnd v (λ x. x ≡ a) → Run σ l g res w o v res w
  unread o {q} {v = v} r h e k = let f = faulty q h e in subst (λ (v : Result Reading NoChannel). Run σ l g res w o v res w) (sym (is_returned v k f.1.1)) (untouched o (sym f.1.0 ∙ r))
