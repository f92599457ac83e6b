-- The effects of a channel's words, as they are read back: Σ K†K of each store's branches, as the textbook has it or transposed.
use Rattle.std.specs.Prelude.{is_ok}
use mathlib.Core.Path.{◌≡◌, refl, sym, ap, ◌∙◌, subst}
use mathlib.Core.Bool.{Bool, true, cond}
use mathlib.Core.List.{List, [], ◌∷◌, ◌++◌, map}
use Prim.Native.Nat.{ℕ, zero, suc, ◌+◌, ◌*◌, ◌/◌, ◌%◌, ◌^◌, ◌<◌}
use native.Mathlib.Nat.{div-lt_iff_lt-mul, mod-lt}
use native.Mathlib.Omega.{arith}
use lib.Arith.{digits_lt, digits_div, digits_mod}
use lib.Pow.{pow_pos}
use lib.IntN.{ℤ, nat_abs}
use Rattle.algebra.specs.Words.{from_bits}
use Rattle.algebra.specs.Sum.{sum}
use Rattle.exact.specs.Exact.{Exact, exact, is_lowest}
use Rattle.exact.proofs.Exact.{add-lowest}
use Rattle.gate.proofs.Bits.{Word}
use Rattle.kraus.specs.Branch.{Store, Branch}
use Rattle.kraus.specs.Blocks.{stores, povm}
use Rattle.kraus.proofs.Effect.{effect-povm}
use Rattle.store.specs.Store.{bits}
use Rattle.store.proofs.Bytes.{bits-word}
use Rattle.channel.specs.Layout.{Block, channels, effects, side, entry_at, effect_of, read_back_in, read_back}
use Rattle.effects.specs.Effects.{effect_at, povm_at, effects_words, effects_verdict, result_of, povm_of}
use Rattle.effects.proofs.Answers.{accepted_ready}
use Rattle.effects.proofs.Reading.{Matched, EffectOf, header-word, effects-read, effect-stores}
use Rattle.collect.specs.Delivered.{branches_words}
use Rattle.demands.specs.Demands.{AreEffects}
use Rattle.demands.proofs.Reading.{SameBlock, SameBlocks}
use Rattle.demands.proofs.Agreeing.{agrees_all}
use Rattle.demands.proofs.Along.{block_of, effect_is, Deliverable, along, along-blocks, along-words}

-- effects of blocks that agree with those of a list of stores
through : (form : ℕ → (ℕ → Exact) → ℕ → Exact) (d w : ℕ) (f g : Store → Block) → ((a b : Block) (τ : Store) → EffectOf form d a b → SameBlock w b (f τ) → SameBlock d a (g τ))
    → (xs ys : List Block) (ts : List Store) → Matched (EffectOf form d) xs ys → SameBlocks w ys (map f ts) → SameBlocks d xs (map g ts)
through form d w f g k [] [] [] h s = tt
through form d w f g k [] [] (τ ∷ ts) h s = absurd s
through form d w f g k [] (y ∷ ys) ts h s = absurd h
through form d w f g k (x ∷ xs) [] ts h s = absurd h
through form d w f g k (x ∷ xs) (y ∷ ys) [] h s = absurd s
through form d w f g k (x ∷ xs) (y ∷ ys) (τ ∷ ts) h s = (k x y τ h.0 s.0, through form d w f g k xs ys ts h.1 s.1)

-- the effect of a store, with entries x
abbrev pub effect_block : ℕ → (Store → ℕ → ℕ → Exact) → Store → Block
effect_block n x τ = record { store = from_bits τ; entry = λ (k : ℕ). x τ (k / 2 ^ n) (k % 2 ^ n) }

-- entries in lowest form, as every sum is
abbrev pub Lowest : (ℕ → (ℕ → Exact) → ℕ → Exact) → Type 0
Lowest form = (d : ℕ) (y : ℕ → Exact) (k : ℕ) → is_lowest (form d y k) ≡ true

pub sum-lowest : (n : ℕ) (f : ℕ → Exact) → is_lowest (sum exact n f) ≡ true
sum-lowest zero f = refl
sum-lowest (suc n) f = add-lowest (sum exact n f) (f n)

-- a number below d² has two digits
high : (n k : ℕ) → k < 2 ^ n * 2 ^ n → k / 2 ^ n < 2 ^ n
high n k h = (div-lt_iff_lt-mul (pow_pos n)).1 h

low : (n k : ℕ) → k % 2 ^ n < 2 ^ n
low n k = mod-lt k (pow_pos n)

-- the two forms, by the entries of a block, and what they are of a store's block
abbrev pub povm_form : ℕ → (ℕ → Exact) → ℕ → Exact
povm_form d y k = effect_of d y (k % d) (k / d)

abbrev pub effect_form : ℕ → (ℕ → Exact) → ℕ → Exact
effect_form d y k = effect_of d y (k / d) (k % d)

abbrev pub Gives : ℕ → List Branch → (ℕ → (ℕ → Exact) → ℕ → Exact) → (Store → ℕ → ℕ → Exact) → Type 0
Gives n bs form x = (b : Block) (τ : Store) → SameBlock (side (2 ^ n)) b (block_of n bs τ) → (k : ℕ) → k < 2 ^ n * 2 ^ n → form (2 ^ n) b.entry k ≡ x τ (k / 2 ^ n) (k % 2 ^ n)

pub povm_gives : (n : ℕ) (bs : List Branch) → Gives n bs povm_form (λ (τ : Store) (r c : ℕ). povm (2 ^ n) bs τ r c)
povm_gives n bs b τ g k h = effect_is n bs (k % 2 ^ n) (k / 2 ^ n) (low n k) (high n k h) b τ g ∙ effect-povm (2 ^ n) bs τ (k % 2 ^ n) (k / 2 ^ n)

pub effect_gives : (n : ℕ) (bs : List Branch) → Gives n bs effect_form (λ (τ : Store) (r c : ℕ). povm (2 ^ n) bs τ c r)
effect_gives n bs b τ g k h = effect_is n bs (k / 2 ^ n) (k % 2 ^ n) (high n k h) (low n k) b τ g ∙ effect-povm (2 ^ n) bs τ (k / 2 ^ n) (k % 2 ^ n)

-- a channel that was delivered, with a result in which its effects are left
module _ {n m : ℕ} {bs : List Branch} (dl : Deliverable n m bs) (rest res : List ℤ)
    (ok : is_ok (effects_verdict (branches_words (2 ^ n) m bs ++ rest) res) ≡ true) where
  abbrev l : List ℤ
  l = branches_words (2 ^ n) m bs ++ rest

  abbrev ts : List Store
  ts = along dl rest

  module _ (form : ℕ → (ℕ → Exact) → ℕ → Exact) (low : Lowest form) (x : Store → ℕ → ℕ → Exact) (is : Gives n bs form x) where
    abbrev entry : List ℤ → ℕ → ℕ → ℕ → Exact
    entry l at d k = form d (entry_at (channels d) l at) k

    abbrev left : List ℤ
    left = effects_words entry l res

    matched : Matched (EffectOf form (2 ^ n)) (read_back_in (effects (2 ^ n)) left) (read_back l)
    matched = effects-read form low l res (accepted_ready l res ok)

    pub effect-blocks : SameBlocks (2 ^ n) (read_back_in (effects (2 ^ n)) (effects_words (λ (l : List ℤ) (at d k : ℕ). form d (entry_at (channels d) l at) k) (branches_words (2 ^ n) m bs ++ rest) res)) (map (effect_block n x) (along dl rest))
    effect-blocks = through form (2 ^ n) (side (2 ^ n)) (block_of n bs) (effect_block n x)
        (λ a b τ e g. record { store = e.store ∙ g.store; entries = λ k h. e.entries k h ∙ is b τ g k h }) (read_back_in (effects (2 ^ n)) left) (read_back l) ts matched (along-blocks dl rest)

    pub effect-entry : (a : Block) (τ : Store) → SameBlock (2 ^ n) a (effect_block n x τ) → (r c : ℕ) → r < 2 ^ n → c < 2 ^ n → a.entry (r * 2 ^ n + c) ≡ x τ r c
    effect-entry a τ g r c p q = g.entries (r * 2 ^ n + c) (digits_lt p q) ∙ (λ i. x τ (digits_div r q i) (digits_mod r q i))

    are_effects : AreEffects n m l left x
    are_effects = record {
      dim = ap nat_abs (header-word entry l res (accepted_ready l res ok) 0 (omega arith));
      bit_count = ap nat_abs (header-word entry l res (accepted_ready l res ok) 1 (omega arith));
      stores = effect-stores form (2 ^ n) (read_back_in (effects (2 ^ n)) left) (read_back l) matched;
      entries = agrees_all (2 ^ n) (effect_block n x) _ (Word m) (λ a τ h g r c p q.
          effect-entry a τ g r c p q ∙ ap (λ (ρ : Store). x ρ r c) (sym (ap (bits m) g.store ∙ bits-word m τ h))) (read_back_in (effects (2 ^ n)) left) ts (along-words dl rest) effect-blocks;
    }

  pub textbook : AreEffects n m (branches_words (2 ^ n) m bs ++ rest) (povm_of (branches_words (2 ^ n) m bs ++ rest) res) (λ (τ : Store) (r c : ℕ). povm (2 ^ n) bs τ r c)
  textbook = subst (λ (t : Bool). AreEffects n m l (cond t (effects_words povm_at l res) res) (λ (τ : Store) (r c : ℕ). povm (2 ^ n) bs τ r c)) (sym ok) (are_effects povm_form (λ d y k. sum-lowest d _) _ (povm_gives n bs))

  pub transposed : AreEffects n m (branches_words (2 ^ n) m bs ++ rest) (result_of (branches_words (2 ^ n) m bs ++ rest) res) (λ (τ : Store) (r c : ℕ). povm (2 ^ n) bs τ c r)
  transposed = subst (λ (t : Bool). AreEffects n m l (cond t (effects_words effect_at l res) res) (λ (τ : Store) (r c : ℕ). povm (2 ^ n) bs τ c r)) (sym ok) (are_effects effect_form (λ d y k. sum-lowest d _) _ (effect_gives n bs))
