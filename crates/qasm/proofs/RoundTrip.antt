-- What is written reads back.
use mathlib.Core.Path.{◌≡◌, refl, sym, ap, ◌∙◌}
use mathlib.Core.Bool.{Bool, true, true≢false}
use mathlib.Core.List.{List, [], ◌∷◌, ◌++◌, append_assoc, append-nil}
use Prim.Native.Nat.{ℕ, suc, ◌%◌, ◌≤◌}
use lib.Dec.{eqb, leb}
use lib.ListN.{length}
use borrow.Author.Tests.{eqb-true, leb-true}
use Rattle.algebra.specs.Lists.{All, every, concat_map}
use Rattle.algebra.proofs.Lists.{filter_all, filter_true}
use Rattle.algebra.proofs.Tests.{and_split}
use Rattle.gate.specs.Gate.{Gate, gate, gate_size, gates_of, formed}
use Rattle.text.specs.Ascii.{ascii}
use Rattle.text.specs.Decimal.{max_number}
use Rattle.qasm.specs.Tokens.{run, tokens}
use Rattle.qasm.specs.Forms.{sign, size, header, included, declared, Entry, table}
use Rattle.qasm.specs.Reading.{seen, State, due, ended, circuit, read_of}
use Rattle.qasm.specs.Writing.{registers, words, line, of_kind, gate_line, gate_text, written}
use Rattle.qasm.specs.Claims.{is_named, small, RoundTrip}
use Rattle.qasm.proofs.Gates.{words_back, every_concat}
use Rattle.qasm.proofs.Lines.{printed, line_is, go, read_number, between, Reads, reads_all}

module _ (n m : ℕ) where
  -- ---- the gates
  gate-back : (g : Gate) → formed g ≡ true → is_named g ≡ true → small (words g) ≡ true
      → (ws rest : List ℕ) (at : ℕ) (R : State) → ((at : ℕ) → go (between n m (ws ++ words g)) at rest ≡ R) → go (between n m ws) at (gate_text g ++ rest) ≡ R
  gate-back g f l s ws rest at R q = by (of_kind g.kind) (filter_all (Reads n m) is_kind table (reads_all n m)) (filter_true is_kind table) l
    where
      is_kind : Entry → Bool
      is_kind e = eqb e.kind g.kind

      of : ℕ → Gate
      of kind = gate kind g.a g.b g.c g.k

      by : (es : List Entry) → All (Reads n m) es → All (λ (e : Entry). is_kind e ≡ true) es → leb 1 (length es) ≡ true → go (between n m ws) at (gate_line g es ++ rest) ≡ R
      by [] r k l = absurd (true≢false (sym l))
      by (e ∷ es) r k l =
          let same : e.kind ≡ g.kind = eqb-true e.kind g.kind k.0 in
          ap (λ (kind : ℕ). go (between n m ws) at (line [] (words (of kind)) e.name e.form ++ rest)) (sym same)
          ∙ ap (go (between n m ws) at) (line_is [] (words (of e.kind)) e.name e.form rest)
          ∙ r.0 g.a g.b g.c g.k (ap (λ (kind : ℕ). small (words (of kind))) same ∙ s) (ap (λ (kind : ℕ). formed (of kind)) same ∙ f) ws rest at R
          (λ at. ap (λ (kind : ℕ). go (between n m (ws ++ words (of kind))) at rest) same ∙ q at)

  lines-back : (gs : List Gate) → every formed gs ≡ true → every is_named gs ≡ true → every (λ (g : Gate). small (words g)) gs ≡ true
      → (ws : List ℕ) (at : ℕ) → go (between n m ws) at (concat_map gate_text gs) ≡ between n m (ws ++ concat_map words gs)
  unfolding tokens
  lines-back [] f l s ws at = ap (between n m) (sym (append-nil ws))
  lines-back (g ∷ gs) f l s ws at =
      let (f, fs) = and_split (formed g) (every formed gs) f in
      let (l, ls) = and_split (is_named g) (every is_named gs) l in
      let (s, ss) = and_split (small (words g)) _ s in
      gate-back g f l s ws (concat_map gate_text gs) at (between n m (ws ++ words g ++ concat_map words gs)) (λ at. lines-back gs fs ls ss (ws ++ words g) at)
      ∙ ap (between n m) (append_assoc ws (words g) (concat_map words gs))

  -- ---- the whole text
  module _ (gs : List Gate) where
    abbrev ns : List ℕ
    ns = n ∷ m ∷ []

    abbrev body : List ℕ
    body = concat_map gate_text gs

    abbrev creg : List ℕ → List ℕ
    creg rest = ascii "creg" ++ (32 ∷ printed ns [] (declared 1) (10 ∷ rest))

    abbrev qreg : List ℕ → List ℕ
    qreg rest = ascii "qreg" ++ (32 ∷ printed ns [] (declared 0) (10 ∷ rest))

    abbrev include : List ℕ → List ℕ
    include rest = ascii "include" ++ (32 ∷ printed ns [] included (10 ∷ rest))

    abbrev text : List ℕ
    text = header ++ (10 ∷ include (qreg (creg body)))

    text_is : written n m gs ≡ text
    text_is =
        ap (λ (r : List ℕ). header ++ (10 ∷ r))
        (line_is ns [] (ascii "include") included (line ns [] (ascii "qreg") (declared 0) ++ (line ns [] (ascii "creg") (declared 1) ++ body))
        ∙ ap include (line_is ns [] (ascii "qreg") (declared 0) (line ns [] (ascii "creg") (declared 1) ++ body) ∙ ap qreg (line_is ns [] (ascii "creg") (declared 1) body)))

    text-read : n ≤ max_number → m ≤ max_number → every formed gs ≡ true → every is_named gs ≡ true → every (λ (g : Gate). small (words g)) gs ≡ true
        → read_of text ≡ circuit n m (concat_map words gs)
    unfolding tokens run
    text-read hn hm f l s =
        ap (ended (length text))
        (read_number (due (size 0 ∷ sign "]" ∷ sign ";" ∷ []) (seen (ascii "q" ∷ [] ∷ []) (0 ∷ 0 ∷ []) []))
        (λ (v : ℕ). due (sign "]" ∷ sign ";" ∷ []) (seen (ascii "q" ∷ [] ∷ []) (v ∷ 0 ∷ []) []))
        (λ t. refl) n hn 93 (59 ∷ 10 ∷ creg body) _ refl (between n m (concat_map words gs))
        (λ at. read_number (due (size 1 ∷ sign "]" ∷ sign ";" ∷ []) (seen registers (n ∷ 0 ∷ []) []))
        (λ (v : ℕ). due (sign "]" ∷ sign ";" ∷ []) (seen registers (n ∷ v ∷ []) []))
        (λ t. refl) m hm 93 (59 ∷ 10 ∷ body) _ refl (between n m (concat_map words gs))
        (λ at. lines-back gs f l s [] (suc (suc (suc at))))))

pub round_trip : RoundTrip
round_trip n m ws c =
    let gs = gates_of ws in
    let (two, rest) = and_split (eqb (length ws % gate_size) 0) _ c.words in
    let (f, l) = and_split (every formed gs) (every is_named gs) rest in
    let (hn, rest) = and_split (leb n max_number) _ c.numbers in
    let (hm, s) = and_split (leb m max_number) (small ws) rest in
    let back = words_back ws (eqb-true (length ws % gate_size) 0 two) in
    let s = sym (every_concat (λ (w : ℕ). leb w max_number) words gs) ∙ ap small back ∙ s in
    ap read_of (text_is n m gs) ∙ text-read n m gs (leb-true n max_number hn) (leb-true m max_number hm) f l s ∙ ap (circuit n m) back
