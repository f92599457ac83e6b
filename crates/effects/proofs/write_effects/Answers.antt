-- `write_effects` meets its contract.
use mathlib.Core.Path.{◌≡◌, sym, ap, ◌∙◌, subst}
use Prim.Native.Nat.{ℕ, ◌+◌, ◌*◌, ◌≤◌}
use native.Mathlib.Omega.{arith}
use lib.ListN.{length, length-set}
use Rattle.channel.specs.Layout.{effects, header_size, record_size}
use Rattle.channel.proofs.Chain.{header_long}
use Rattle.effects.proofs.Answers.{ready_linked, ready_records, ready_fit, ready_room}
use Rattle.effects.proofs.write_effects.Goals as goal

pub write_header-requires : goal.write_header-requires
write_header-requires c =
    let l = c.args.s.now in
    let r = c.requires.0 in
    let q = r.room in
    (ready_linked l _ _ _ r, (header_long l r.form, omega arith))

pub write_records-requires : goal.write_records-requires
write_records-requires c =
    let r = c.requires.0 in
    let e : length c.write_header.new.res ≡ length c.args.res.now = ap length c.write_header.ensures ∙ simp length-set in (
      ready_records _ _ _ _ r,
      (
        c.requires.1,
        (
          ready_fit _ _ _ _ r,
          subst (λ (m : ℕ). header_size + c.args.h.count * record_size (effects c.args.h.dim) ≤ m) (sym e) (ready_room _ _ _ _ r),
        ),
      ),
    )
