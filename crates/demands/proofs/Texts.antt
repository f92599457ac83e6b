-- What judge_texts answers of two texts, it answers of the channels of the definitions.
use Rattle.std.specs.Prelude.{Result, Ok, Err, is_ok, ⊤}
use Rattle.std.specs.Result.{result_map_both}
use mathlib.Core.Path.{◌≡◌, refl, sym, ap, ◌∙◌, subst}
use mathlib.Core.Bool.{Bool, true, false, cond, ◌&&◌, true≢false}
use mathlib.Core.List.{List}
use Prim.Native.Nat.{ℕ, ◌+◌, ◌-◌, ◌≤◌}
use native.Mathlib.Omega.{arith}
use lib.Dec.{leb}
use lib.ListN.{length, drop, replicate, length-append, length-drop, length-replicate}
use lib.Seq.{sets, length-sets}
use lib.IntN.{ℤ, pos}
use borrow.Author.Tests.{le-leb}
use Rattle.algebra.specs.Lists.{every}
use Rattle.algebra.proofs.Tests.{and_split}
use Rattle.verdict.specs.Questions.{Verdict}
use Rattle.verdict.specs.declared.Refusal.{Refusal}
use Rattle.verdict.specs.declared.Refusal.TheVariants.{ShortBuffer}
use Rattle.verdict.proofs.Questions.{yes, every_append}
use Rattle.scalar.specs.declared.Scalar.{Scalar}
use Rattle.gate.specs.Gate.{gates_of, max_weight}
use Rattle.circuit.specs.declared.limits.Limits.{Limits}
use Rattle.circuit.specs.declared.footprint.Footprint.{Footprint}
use Rattle.circuit.specs.Footprint.{footprint_of}
use Rattle.circuit.specs.Questions.{sizes_of, within_limits, room_for, word_questions, number_questions, channel_verdict}
use Rattle.circuit.proofs.Answers.{channel_accepts}
use Rattle.store.specs.Store.{store_fits}
use Rattle.compare.specs.declared.Comparison.{Comparison}
use Rattle.compare.specs.declared.Comparison.TheVariants.{Same}
use Rattle.compare.specs.declared.Difference.{Difference}
use Rattle.collect.specs.Delivered.{overwritten}
use Rattle.judge.specs.Call.{worked, verdict_of, accepts, result_after, work_after}
use Rattle.judge.proofs.Accepted.{sound, store_words}
use Rattle.qasm.specs.declared.reader.Reading.{Reading}
use Rattle.qasm.specs.Reading.{Outcome, circuit, refused, fault_at, read_of, filled}
use Rattle.answer_lines.specs.declared.Fault.{Fault}
use Rattle.answer_lines.specs.Lines.{max_answer}
use Rattle.text_sides.specs.declared.NoChannel.{NoChannel}
use Rattle.text_sides.specs.declared.NoChannel.TheVariants.{Faulty, Refused}
use Rattle.judge_texts.specs.declared.Answer.{Answer}
use Rattle.judge_texts.specs.declared.Answer.TheVariants.{NoRoom, Left, Right, Compared}
use Rattle.text_sides.specs.Sides.{store_for, side_by, result_by, work_by}
use Rattle.text_channel.specs.Refusals.{fault_of}
use Rattle.judge_texts.specs.Call.{either, comparison, answer_of}
use Rattle.demands.specs.Texts.{delivered, Judged, entry_of, Lent, DoTheSame, Means, Texts}
use Rattle.demands.proofs.Entries.{Reads, reads, Finds, same, sizes, entry, finds}
use Rattle.demands.proofs.Demands.{demand2}

-- ---- acceptance, apart from the room
module _ (n m : ℕ) (σ : List ℕ) (l : Limits) (ws : List ℕ) where
  abbrev foot : Footprint
  foot = footprint_of m (gates_of ws)

  -- with other buffers, which have room
  accept_with : (a b c d : ℕ) → is_ok (channel_verdict n m σ l ws a b) ≡ true → room_for (sizes_of foot n) c d ≡ true → is_ok (channel_verdict n m σ l ws c d) ≡ true
  accept_with a b c d e room =
      let all = and_split (every yes (word_questions n m l ws)) _ (sym (every_append (word_questions n m l ws) (number_questions foot n m σ l a b)) ∙ sym (channel_accepts n m σ l ws a b) ∙ e) in
      let q7 = and_split (store_fits m σ) _ all.1 in
      let q8 = and_split (within_limits foot n m l) _ q7.1 in
      let q9 = and_split (leb foot.weight max_weight) _ q8.1 in
      channel_accepts n m σ l ws c d ∙ every_append (word_questions n m l ws) (number_questions foot n m σ l c d)
      ∙ (λ i. all.0 i && (q7.0 i && (q8.0 i && (q9.0 i && (room i && true)))))

  room_for_lem : (c d : ℕ) → delivered n m ws ≤ c → worked n m ws ≤ d → room_for (sizes_of foot n) c d ≡ true
  room_for_lem c d h k = λ i. le-leb (delivered n m ws) c h i && le-leb (worked n m ws) d k i

-- ---- one side
mapped : {A B : Type 0} (f : ⊤ → A) (h : Refusal → B) (v : Verdict) → is_ok (result_map_both f h v) ≡ is_ok v
mapped f h (Ok x) = refl
mapped f h (Err r) = refl

module _ (t σ : List ℕ) (l : Limits) (g : List ℕ) (r w : List ℤ) where
  -- the circuit c of the text was judged with these buffers, and accepted
  record Ran (c : Judged t σ l) : Type 0 where
    accepting : accepts c.qubits c.bits (store_for c.bits σ) l c.gates r w ≡ true
    result : result_by σ l g r w (read_of t) ≡ result_after c.qubits c.bits (store_for c.bits σ) l c.gates r w

  record Accepted : Type 0 where
    judged : Judged t σ l
    ran : Ran judged

  -- whether it is accepted, where a circuit is read
  read-verdict : (n m : ℕ) (ws : List ℕ) (b : Bool) → read_of t ≡ circuit n m ws → leb (length ws) (length g) ≡ b
      → is_ok (side_by σ l g r w (read_of t)) ≡ b && accepts n m (store_for m σ) l ws r w
  read-verdict n m ws b e f =
      ap (λ (o : Outcome). is_ok (side_by σ l g r w o)) e ∙ ap (λ (b : Bool). is_ok (cond b judged short)) f ∙ by b
    where
      reading : Reading
      reading = record { qubits = n; bits = m; words = length ws }

      judged : Result Reading NoChannel
      judged = result_map_both (λ _. reading) (Refused reading) (verdict_of n m (store_for m σ) l ws r w)

      short : Result Reading NoChannel
      short = Err (Faulty (fault_at ShortBuffer 0))

      by : (b : Bool) → is_ok (cond b judged short) ≡ b && accepts n m (store_for m σ) l ws r w
      by true = mapped _ (Refused reading) (verdict_of n m (store_for m σ) l ws r w)
      by false = refl

  read_result : (n m : ℕ) (ws : List ℕ) → read_of t ≡ circuit n m ws → leb (length ws) (length g) ≡ true → result_by σ l g r w (read_of t) ≡ result_after n m (store_for m σ) l ws r w
  read_result n m ws e f = ap (result_by σ l g r w) e ∙ ap (λ (b : Bool). cond b (result_after n m (store_for m σ) l ws r w) r) f

  side-accepted : is_ok (side_by σ l g r w (read_of t)) ≡ true → Accepted
  side-accepted h = go (read_of t) refl
    where
      go : (o : Outcome) → read_of t ≡ o → Accepted
      go (refused x at) e = absurd (true≢false (sym h ∙ ap (λ (o : Outcome). is_ok (side_by σ l g r w o)) e))
      go (circuit n m ws) e = by (leb (length ws) (length g)) refl
        where
          by : (b : Bool) → leb (length ws) (length g) ≡ b → Accepted
          by false f = absurd (true≢false (sym h ∙ read-verdict n m ws false e f))
          by true f =
              let yes : accepts n m (store_for m σ) l ws r w ≡ true = sym (read-verdict n m ws true e f) ∙ h in
              record {
                judged = record {
                  qubits = n;
                  bits = m;
                  gates = ws;
                  read = e;
                  fine = accept_with n m (store_for m σ) l ws (length r) (length w) (delivered n m ws) (worked n m ws) yes
                      (room_for_lem n m (store_for m σ) l ws (delivered n m ws) (worked n m ws) (omega arith) (omega arith));
                };
                ran = record { accepting = yes; result = read_result n m ws e f };
              }

  module _ (c : Judged t σ l) where
    side_reads : Ran c → Reads c.qubits c.bits (entry_of c) (result_by σ l g r w (read_of t))
    side_reads h = subst (Reads c.qubits c.bits (entry_of c)) (sym h.result)
        (reads (demand2 c.qubits c.bits (store_for c.bits σ) l c.gates r w h.accepting)
        (store_words (sound c.qubits c.bits (store_for c.bits σ) l c.gates r w h.accepting)))

    module _ (h : Lent c g r w) where
      gates-room : leb (length c.gates) (length g) ≡ true
      gates-room = le-leb (length c.gates) (length g) h.gates

      lent-accepts : accepts c.qubits c.bits (store_for c.bits σ) l c.gates r w ≡ true
      lent-accepts = accept_with c.qubits c.bits (store_for c.bits σ) l c.gates (delivered c.qubits c.bits c.gates) (worked c.qubits c.bits c.gates) (length r) (length w) c.fine
          (room_for_lem c.qubits c.bits (store_for c.bits σ) l c.gates (length r) (length w) h.result h.work)

      lent_verdict : is_ok (side_by σ l g r w (read_of t)) ≡ true
      lent_verdict = read-verdict c.qubits c.bits c.gates true c.read gates-room ∙ lent-accepts

      lent_ran : Ran c
      lent_ran = record { accepting = lent-accepts; result = read_result c.qubits c.bits c.gates c.read gates-room }

      -- the buffers that it leaves are as long as they were
      gates_long : length (filled g (read_of t)) ≡ length g
      gates_long = ap (λ (o : Outcome). length (filled g o)) c.read ∙ ap (λ (b : Bool). length (cond b (sets g 0 c.gates) g)) gates-room ∙ length-sets g 0 c.gates

      work_long : length (work_by σ l g r w (read_of t)) ≡ length w
      work_long =
          let k : ℕ = worked c.qubits c.bits c.gates in
          let zeros : List ℤ = replicate k (pos 0) in
          ap (λ (o : Outcome). length (work_by σ l g r w o)) c.read
          ∙ ap (λ (b : Bool). length (cond b (work_after c.qubits c.bits (store_for c.bits σ) l c.gates r w) w)) gates-room
          ∙ ap (λ (b : Bool). length (cond b (overwritten zeros w) w)) lent-accepts
          ∙ long (length-append zeros (drop (length zeros) w)) (length-drop (length zeros) w) (length-replicate k (pos 0)) h.work
        where
          long : {a b z k : ℕ} → a ≡ z + b → b ≡ length w - z → z ≡ k → k ≤ length w → a ≡ length w
          long e f q m = omega arith

-- ---- both
module _ (x y : NoChannel → Fault) (z : Result Comparison Refusal) where
  -- the answer, by whether there is room and by what became of each text
  abbrev by : Bool → Result Reading NoChannel → Result Reading NoChannel → Answer
  by a p q = cond a (either (λ why. Left (x why)) (λ _. either (λ why. Right (y why)) (λ _. Compared z) q) p) NoRoom

  both_accepted : (a : Bool) (p q : Result Reading NoChannel) → a ≡ true → is_ok p ≡ true → is_ok q ≡ true → by a p q ≡ Compared z
  both_accepted true (Ok p) (Ok q) d e f = refl
  both_accepted true (Ok p) (Err q) d e f = absurd (true≢false (sym f))
  both_accepted true (Err p) q d e f = absurd (true≢false (sym e))
  both_accepted false p q d e f = absurd (true≢false (sym d))

  only-compared : (a : Bool) (p q : Result Reading NoChannel) (f : Result Comparison Refusal) → by a p q ≡ Compared f → (a ≡ true) × ((is_ok p ≡ true) × ((is_ok q ≡ true) × (z ≡ f)))
  only-compared true (Ok p) (Ok q) f e = (refl, (refl, (refl, cc)))
  only-compared true (Ok p) (Err q) f e = absurd (cc)
  only-compared true (Err p) q f e = absurd (cc)
  only-compared false p q f e = absurd (cc)

module _ (t u σ : List ℕ) (l : Limits) (g : List ℕ) (r s w : List ℤ) (o : List ℕ) where
  abbrev lg : List ℕ
  lg = filled g (read_of t)

  abbrev lw : List ℤ
  lw = work_by σ l g r w (read_of t)

  abbrev ls : Result Reading NoChannel
  ls = side_by σ l g r w (read_of t)

  abbrev rs : Result Reading NoChannel
  rs = side_by σ l lg s lw (read_of u)

  -- two circuits, and what was found of them
  meaning : (a : Judged t σ l) (b : Judged u σ l) (c : Result Comparison Refusal) → Finds a.qubits a.bits b.qubits b.bits (entry_of a) (entry_of b) c → Means t u σ l c
  meaning a b c (same p q k h) = subst (Means t u σ l) (sym k) (record {
    pair = record { left = a; right = b };
    counts = (p, q);
    channels = λ s i j v. h s i j v.0 v.1.0 v.1.1;
  })
  meaning a b c (sizes apart k) = subst (Means t u σ l) (sym k) (record {
    pair = record { left = a; right = b };
    apart = λ c. apart c.0 c.1;
  })
  meaning a b c (entry p q d k h) = subst (Means t u σ l) (sym k) (record {
    pair = record { left = a; right = b };
    counts = (p, q);
    within = (h.store, (h.row, h.col));
    left_is = h.left;
    right_is = h.right;
    unequal = h.unequal;
    before = λ s i j v z. h.agree s i j v.0 v.1.0 v.1.1 z;
  })

  abbrev found : Result Comparison Refusal
  found = comparison t u σ l g r s w o

  is_sound : (f : Result Comparison Refusal) → answer_of t u σ l g r s w o ≡ Compared f → Means t u σ l f
  is_sound f e =
      let (q, (ql, (qr, is))) = only-compared (fault_of t) (fault_of u) found (leb max_answer (length o)) ls rs f e in
      let a = side-accepted t σ l g r w ql in
      let b = side-accepted u σ l lg s lw qr in
      subst (Means t u σ l) is (meaning a.judged b.judged found (finds (side_reads t σ l g r w a.judged a.ran) (side_reads u σ l lg s lw b.judged b.ran)))

  is_complete : (h : DoTheSame t u σ l) → Lent h.pair.left g r w → Lent h.pair.right g s w → max_answer ≤ length o → answer_of t u σ l g r s w o ≡ Compared (Ok Same)
  is_complete h a b k =
      both_accepted (fault_of t) (fault_of u) found (leb max_answer (length o)) ls rs (le-leb max_answer (length o) k) (lent_verdict t σ l g r w h.pair.left a) (lent_verdict u σ l lg s lw h.pair.right c)
      ∙ ap Compared (go (finds (side_reads t σ l g r w h.pair.left (lent_ran t σ l g r w h.pair.left a)) (side_reads u σ l lg s lw h.pair.right (lent_ran u σ l lg s lw h.pair.right c))))
    where
      c : Lent h.pair.right lg s lw
      c = record {
        gates = subst (λ (x : ℕ). length h.pair.right.gates ≤ x) (sym (gates_long t σ l g r w h.pair.left a)) b.gates;
        result = b.result;
        work = subst (λ (x : ℕ). worked h.pair.right.qubits h.pair.right.bits h.pair.right.gates ≤ x) (sym (work_long t σ l g r w h.pair.left a)) b.work;
      }

      go : {x : Result Comparison Refusal} → Finds h.pair.left.qubits h.pair.left.bits h.pair.right.qubits h.pair.right.bits (entry_of h.pair.left) (entry_of h.pair.right) x → x ≡ Ok Same
      go (same x y k f) = k
      go (sizes apart k) = absurd (apart h.counts.0 h.counts.1)
      go (entry x y d k f) = absurd (f.unequal (h.channels d.place.store d.place.row d.place.col (f.store, (f.row, f.col))))

pub texts : Texts
texts t u σ l g r s w o = record { sound = is_sound t u σ l g r s w o; complete = is_complete t u σ l g r s w o }
