-- Schedules of a circuit: gates that share nothing commute on branches, so every schedule has the same branches up to their order, and the same blocks.
use mathlib.Core.Path.{◌≡◌, refl, sym, ap, ap₂, ◌∙◌, fun_ext}
use mathlib.Core.Bool.{true, false}
use mathlib.Core.List.{List, [], ◌∷◌, map}
use Prim.Native.Nat.{ℕ, ◌^◌}
use lib.Dec.{eqb}
use lib.ListN.{set}
use lib.Seq.{set_comm}
use borrow.Author.Tests.{eqb-false}
use Rattle.algebra.specs.Lists.{All, every, concat_map}
use Rattle.algebra.specs.Schedule.{Schedule}
use Rattle.algebra.proofs.Tests.{or_no}
use Rattle.algebra.proofs.Lists.{every-all}
use Rattle.algebra.proofs.Trace.{Trace, join, same, foldl_of, all_back}
use Rattle.algebra.proofs.Schedule.{schedule_trace}
use Rattle.algebra.proofs.Perm.{Perm, perm_path, concat_of, steps_commute, split, splits_commute, filter_of}
use Rattle.exact.specs.Exact.{Exact, exact}
use Rattle.exact.proofs.Exact.{exacts}
use Rattle.gate.specs.Gate.{Gate, elem, meet, qubits, bits, share}
use Rattle.gate.specs.Operators.{Operator, operators}
use Rattle.gate.specs.Embed.{embed}
use Rattle.gate.specs.Inner.Entries.{valid}
use Rattle.gate.proofs.Gate.{meet_no, Fits, valid-fits}
use Rattle.gate.proofs.Embed.{embeds_commute}
use Rattle.kraus.specs.Branch.{Store, Branch, write, apply, start, kraus_operator, operators_of, gate_step, branches}
use Rattle.kraus.specs.Blocks.{alive, survivors}
use Rattle.kraus.proofs.Dense.{left_commute}

-- ---- writes to different bits
write-set : (is : List ℕ) (i v w : ℕ) (σ : Store) → elem i is ≡ false → set (write is w σ) i v ≡ write is w (set σ i v)
write-set [] i v w σ e = refl
write-set (j ∷ is) i v w σ e =
    let (h, k) = or_no (eqb i j) (elem i is) e in
    set_comm (write is w σ) j i w v (λ x. eqb-false i j h (sym x)) ∙ ap (λ (τ : Store). set τ j w) (write-set is i v w σ k)

write_commute : (is js : List ℕ) (v w : ℕ) (σ : Store) → meet is js ≡ false → write is v (write js w σ) ≡ write js w (write is v σ)
write_commute [] js v w σ e = refl
write_commute (i ∷ is) js v w σ e =
    let (h, k) = or_no (elem i js) (meet is js) e in
    ap (λ (τ : Store). set τ i v) (write_commute is js v w σ k) ∙ write-set js i v w (write is v σ) h

module _ (n : ℕ) where
  -- the products with the operators of a gate, listed by those on its own qubits
  abbrev acts : Gate → Operator → Branch → Branch
  acts g o b = apply n b (kraus_operator n g o)

  abbrev products : Gate → Branch → List Branch
  products g = split (acts g) (operators g)

  step-products : (bs : List Branch) (g : Gate) → gate_step n bs g ≡ concat_map (products g) bs
  step-products bs g = ap (λ (f : Branch → List Branch). concat_map f bs) (fun_ext (λ b. through b (operators g)))
    where
      through : (b : Branch) (os : List Operator) → map (apply n b) (map (kraus_operator n g) os) ≡ split (acts g) os b
      through b [] = refl
      through b (o ∷ os) = ap (λ (cs : List Branch). acts g o b ∷ cs) (through b os)

  acts_commute : (g h : Gate) → Fits n g → Fits n h → share g h ≡ false → (p q : Operator) (b : Branch) → acts g p (acts h q b) ≡ acts h q (acts g p b)
  acts_commute g h fg fh e p q b =
      let (s, t) = or_no (meet (qubits g) (qubits h)) (meet (bits g) (bits h)) e in
      ap₂ (λ (m : List Exact) (σ : Store). record { matrix = m; store = σ })
      (left_commute exacts (2 ^ n) (embed exact n (qubits g) p.small) (embed exact n (qubits h) q.small)
      (embeds_commute exacts n (qubits g) (qubits h) p.small q.small fg fh (meet_no (qubits g) (qubits h) s)) b.matrix)
      (write_commute (bits g) (bits h) p.out q.out b.store t)

  steps : (g h : Gate) → Fits n g → Fits n h → share g h ≡ false → (bs : List Branch) → Perm (gate_step n (gate_step n bs g) h) (gate_step n (gate_step n bs h) g)
  steps g h fg fh e bs =
      join (perm_path (step-products (gate_step n bs g) h ∙ ap (concat_map (products h)) (step-products bs g)))
      (join (steps_commute (products h) (products g) (splits_commute (acts h) (acts g) (operators h) (operators g) (λ p q b. sym (acts_commute g h fg fh e q p b))) bs)
      (perm_path (sym (step-products (gate_step n bs h) g ∙ ap (concat_map (products g)) (step-products bs h)))))

  -- gates that share nothing may change places
  pub trace_branches : {xs ys : List Gate} → Trace share ys xs → All (Fits n) xs → (σ : Store) → Perm (branches n σ ys) (branches n σ xs)
  trace_branches t fit σ =
      foldl_of share (gate_step n) (Fits n) Perm (λ bs. same bs) (λ bs cs ds p q. join p q) (λ g bs cs p. concat_of (λ (b : Branch). map (apply n b) (operators_of n g)) p)
      steps t (all_back (Fits n) t fit) (start n σ)

module _ (n m : ℕ) (σ : Store) {d : Gate} {xs ys : List Gate} {table : List ℕ} (sch : Schedule share d xs ys table) (ok : every (valid n m) xs ≡ true) where
  pub schedule_branches : Perm (branches n σ ys) (branches n σ xs)
  schedule_branches = trace_branches n (schedule_trace share d sch) (every-all (valid n m) (Fits n) (valid-fits n m) xs ok) σ

  pub schedule_survivors : Perm (survivors (branches n σ ys)) (survivors (branches n σ xs))
  schedule_survivors = filter_of alive schedule_branches
