-- A run as it is handed over, with the number of rows and the size of a branch: how it begins, what each operation may ask and leaves, and how it ends.
use mathlib.Core.Path.{◌≡◌, sym, ap, ◌∙◌, subst}
use mathlib.Core.Logic.{⊎_elim}
use mathlib.Core.List.{List}
use Prim.Native.Nat.{ℕ, ◌+◌, ◌*◌, ◌-◌, ◌/◌, ◌^◌, ◌≤◌, ◌<◌}
use native.Mathlib.Omega.{arith}
use lib.ListN.{length, get_or, take, length-map}
use lib.Seq.{sets, take_all, length-sets}
use lib.IntN.{ℤ, pos}
use Rattle.algebra.proofs.Totals.{sub_whole, sub_take, sub_total}
use Rattle.algebra.proofs.Blocks.{sets_above}
use Rattle.gate.specs.Gate.{gate_at, gates_of, gate_size}
use Rattle.gate.proofs.Listed.{gates-length}
use Rattle.kraus.specs.Branch.{Store}
use Rattle.branches.specs.Inner.Bank.{branch_size, branch_words, bank_words, identity_branch, Holds}
use Rattle.branches.proofs.Banks.{length-branch}
use Rattle.pauli_nodes.specs.Nodes.{Node}
use Rattle.pauli_nodes.specs.Operations.{Operation, axis, splits}
use Rattle.pauli_nodes.specs.Inner.Masks.{Mask, ref_mask}
use Rattle.pauli_words.specs.Words.{operation_of, operations_of}
use Rattle.pauli_program.specs.Program.{program_branches}
use Rattle.pauli_run.specs.Inner.Operators.{place_after, stepped}
use Rattle.pauli_run.specs.Inner.Run.{Operating, Runs, Ran}
use Rattle.pauli_run.proofs.Running.{Running, first_fits, running_begin, running_ready, running_more}

-- b is the buffer with the first branch written to l
module _ {b : List ℤ} {ws : List ℕ} {ms : List Mask} {σ : Store} {n d banks : ℕ} {nodes : List Node} (r₀ : Runs b ws ms σ n d banks nodes) where
  pub begins : (l : List ℤ) → b ≡ sets l 0 (branch_words d (identity_branch d σ)) → Running b ws σ n d banks nodes b 0 1 0 0
  begins l e = subst (λ (d : ℕ). Runs b ws ms σ n d banks nodes → b ≡ sets l 0 (branch_words d (identity_branch d σ)) → Running b ws σ n d banks nodes b 0 1 0 0) (sym r₀.dim) (λ r e. running_begin r l e) r₀ e

  module _ {l : List ℤ} {from count made i size : ℕ} (w : Running b ws σ n d banks nodes l from count made i) (h : i < length ws / gate_size) (e : size ≡ branch_size d) where
    pub place_le : from ≤ banks * size
    place_le = ⊎_elim (λ p. omega arith) (λ p. omega (arith, ap (λ (k : ℕ). banks * k) e)) w.place

    pub made_le : made ≤ 64
    made_le = omega (arith, w.making, r₀.few, sub_total splits (sub_take i (sub_whole (operations_of ws))))

    module _ {x : Operation} (read : x ≡ operation_of (gate_at ws (i * gate_size))) where
      pub ready : Operating l ms x made from (banks * size - from) d count
      ready =
          subst (λ (x : Operation). Operating l ms x made from (banks * size - from) d count) (sym read)
          (subst (λ (s : ℕ). Operating l ms (operation_of (gate_at ws (i * gate_size))) made from (banks * s - from) d count) (sym e)
          (subst
          (λ (d : ℕ). Runs b ws ms σ n d banks nodes → Running b ws σ n d banks nodes l from count made i
          → Operating l ms (operation_of (gate_at ws (i * gate_size))) made from (banks * branch_size d - from) d count)
          (sym r₀.dim)
          (λ r w. running_ready r w h) r₀ w))

      pub more : {q : List ℤ} {c s at : ℕ} → c ≡ count * 2 ^ splits x → s ≡ made + splits x → at ≡ place_after x from (banks * size - from)
          → q ≡ stepped l d (ref_mask ms (axis x)) made from at count x → Running b ws σ n d banks nodes q at c s (i + 1)
      more {q} {c} {s} {at} p f a g =
          subst (λ (d : ℕ). Runs b ws ms σ n d banks nodes → Running b ws σ n d banks nodes l from count made i
          → at ≡ place_after (operation_of (gate_at ws (i * gate_size))) from (banks * branch_size d - from)
          → q ≡ stepped l d (ref_mask ms (axis (operation_of (gate_at ws (i * gate_size))))) made from at count (operation_of (gate_at ws (i * gate_size)))
          → Running b ws σ n d banks nodes q at c s (i + 1)) (sym r₀.dim)
          (λ r w a g. running_more r w h (p ∙ ap (λ (x : Operation). count * 2 ^ splits x) read) (f ∙ ap (λ (x : Operation). made + splits x) read) a g) r₀ w
          (a ∙ (λ t. place_after (read t) from (banks * e t - from)))
          (g ∙ (λ t. stepped l d (ref_mask ms (axis (read t))) made from at count (read t)))

module _ {l₀ b : List ℤ} {ws : List ℕ} {ms : List Mask} {σ : Store} {n d banks : ℕ} {nodes : List Node} (r₀ : Runs l₀ ws ms σ n d banks nodes) (start_is : b ≡ sets l₀ 0 (branch_words d (identity_branch d σ))) where
  same : length b ≡ length l₀
  same = ap length start_is ∙ length-sets l₀ 0 (branch_words d (identity_branch d σ))

  pub runs : Runs b ws ms σ n d banks nodes
  runs = record {
    sound = r₀.sound;
    dim = r₀.dim;
    light = r₀.light;
    short = r₀.short;
    bytes = r₀.bytes;
    few = r₀.few;
    banked = r₀.banked;
    room = omega (arith, r₀.room, same);
    fits = r₀.fits;
    masks = r₀.masks;
    placed = r₀.placed;
  }

  pub ends : {l : List ℤ} {from count made i : ℕ} → Running b ws σ n d banks nodes l from count made i → length ws / gate_size ≤ i → Ran l₀ l ws σ n d banks from nodes
  ends {l} {from} {i = i} w h =
      let all : take i (operations_of ws) ≡ operations_of ws = take_all i (operations_of ws) (omega (arith, length-map (gates_of ws) operation_of, gates-length ws 0 (length ws / gate_size))) in
      record {
        held = subst (λ (os : List Operation). Holds l from (bank_words d (program_branches n nodes σ os))) all w.held;
        inside = ⊎_elim (λ p. omega arith) (λ p. omega arith) w.place;
        long = w.same_length ∙ same;
        kept = λ k q. w.past k q ∙ ap (λ (m : List ℤ). get_or m k (pos 0)) start_is ∙ sets_above (branch_words d (identity_branch d σ)) l₀ 0 k (pos 0) (omega (arith, length-branch d (identity_branch d σ), first_fits r₀));
      }
