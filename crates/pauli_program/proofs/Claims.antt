-- What is claimed of programs holds.
use mathlib.Core.Path.{refl, subst}
use Prim.Native.Nat.{ℕ, ◌*◌, ◌^◌, ◌<◌}
use mathlib.Core.List.{List}
use lib.ListN.{get_or, take, length}
use lib.Seq.{take-length}
use Rattle.algebra.proofs.Lists.{all_imp}
use Rattle.algebra.proofs.Perm.{perm_path}
use Rattle.algebra.proofs.Totals.{sub_whole, sub_filter}
use Rattle.exact.specs.Exact.{exact}
use Rattle.kraus.specs.Branch.{Branch}
use Rattle.kraus.specs.Blocks.{alive, survivors}
use Rattle.kraus.proofs.Effect.{effects-whole}
use Rattle.kraus.proofs.Hermitian.{hermitian}
use Rattle.kraus.proofs.Limits.{Kraus, Enough, kraus_exponent, block-fits}
use Rattle.pauli_nodes.specs.Operations.{Operation}
use Rattle.pauli_program.specs.Program.{program_branches}
use Rattle.pauli_program.specs.Claims.{ProgramNarrow, ProgramInRange, ProgramHermitian, ProgramEffects}
use Rattle.pauli_program.proofs.Whole.{program_gram, program_enough}

pub program_narrow : ProgramNarrow
program_narrow n σ nodes os s l k = all_imp (λ (b : Branch). (i : ℕ) → i < 2 ^ n * 2 ^ n → Kraus kraus_exponent (get_or b.matrix i exact.𝟘)) _ (program_branches n nodes σ (take k os))
    (λ b h i p. (h i p).is_narrow) (program_enough s l σ k).entries

pub program_in_range : ProgramInRange
program_in_range n σ nodes os s l τ i j p q =
    (block-fits (subst (λ (us : List Operation). Enough kraus_exponent n (program_branches n nodes σ us)) (take-length os) (program_enough s l σ (length os)))
    (sub_filter alive (sub_whole (program_branches n nodes σ os))) τ i j p q).well_formed_lem

pub program_hermitian : ProgramHermitian
program_hermitian n σ nodes os τ i j = hermitian (survivors (program_branches n nodes σ os)) τ i j

pub program_effects : ProgramEffects
program_effects n σ nodes os s r c hr hc = effects-whole n (program_branches n nodes σ os) (program_gram s σ) _ (perm_path refl) r c hr hc
