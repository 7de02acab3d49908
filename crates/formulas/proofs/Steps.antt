-- Nodes that are answered one after another, over a store in form: sound nodes stay so and the store grows (`stepped_sound`), and each
-- node was answered from the nodes before it, over a store that the last one has grown out of (`Traced`, `stepped_traced`,
-- `answers_ran`). Assumes nothing.
use Rattle.std.proofs.Common.{Result, Ok, Err, is_err}
use mathlib.Core.Path.{◌≡◌, refl, sym, ap, ◌∙◌}
use mathlib.Core.Bool.{Bool, true, false, cond}
use mathlib.Core.List.{List, [], ◌∷◌, ◌++◌, append_assoc}
use Prim.Native.Nat.{ℕ, ◌<◌}
use native.Mathlib.Omega.{arith}
use lib.ListN.{length, take}
use lib.Seq.{take-append_seam}
use Rattle.refusals.specs.Lowest.{lower, lowest, guarded, unless_refused}
use Rattle.refusals.specs.declared.Refusal.{Refusal}
use Rattle.refusals.specs.Numbers.{Verdict}
use Rattle.refusals.proofs.Lowest.{passed_is, kept}
use Rattle.types.specs.Store.{Formed}
use Rattle.types.specs.Making.{Grows}
use Rattle.types.proofs.Grown.{grows_refl, grows_trans}
use Rattle.answers.specs.declared.Answered.{Answered}
use Rattle.formulas.specs.Nodes.{node_at, node_conditions, node_answer, node_store, depth_of, limits, first_refused, node_of, with_answer, State, state, node_verdict, step_verdict, stepped, all_stepped, answers_of}
use Rattle.formulas.specs.Below.{writings}
use Rattle.formulas.specs.declared.Written.{Written}
use Rattle.formulas.specs.declared.Node.{Node}
use Rattle.formulas.proofs.Answered.{each_more, writings_append, writings_length, Settled, Sound, Entered, settled_grown, node_entered}

-- ---- one more node

module _ (n : ℕ) (root : ℕ → ℕ) where
  -- what one more node that is not refused leaves
  pub record Stepped (s : State) (w : Written) : Type 0 where
    pub answer : Answered
    pub passed : lowest (node_conditions n s.store s.nodes w) ≡ Ok tt
    pub given : node_answer s.store root s.nodes w ≡ Ok answer
    pub limited : lowest (limits s.nodes w) ≡ Ok tt
    pub is : stepped n root s w ≡ state (node_store s.store s.nodes w) (s.nodes ++ (node_of s.nodes w answer ∷ []))

  guarded_passed : (v u : Verdict) → guarded v u ≡ Ok tt → (v ≡ Ok tt) × (u ≡ Ok tt)
  guarded_passed (Ok _) u e = (refl, e)
  guarded_passed (Err r) u e = absurd (let z : ◌≡◌ {A = ℕ} 0 1 = cc in omega arith)

  answer_passed : (r : Result Answered Refusal) (nodes : List Node) (w : Written) → first_refused r (lowest (limits nodes w)) ≡ Ok tt
      → (a : Answered) × (r ≡ Ok a) × (lowest (limits nodes w) ≡ Ok tt)
  answer_passed (Ok a) nodes w e = (a, refl, e)
  answer_passed (Err r) nodes w e =
      absurd (lower_refused (lowest (limits nodes w)) e)
    where
      lower_refused : (v : Verdict) → lower r v ≡ Ok tt → ⊥
      lower_refused (Ok x) e = let z : ◌≡◌ {A = ℕ} 0 1 = cc in omega arith
      lower_refused (Err q) e = let z : ◌≡◌ {A = ℕ} 0 1 = cc in omega arith

  pub stepped_passed : (s : State) (w : Written) → step_verdict n root s w ≡ Ok tt → Stepped s w
  unfolding node_verdict stepped
  stepped_passed s w e =
      let answer = node_answer s.store root s.nodes w in
      let p = guarded_passed (lowest (node_conditions n s.store s.nodes w)) (first_refused answer (lowest (limits s.nodes w))) e in
      let q = answer_passed answer s.nodes w p.1 in
      let new = λ (r : Result Answered Refusal). state (node_store s.store s.nodes w) (with_answer s.nodes w r) in
      record {
        answer = q.0;
        passed = p.0;
        given = q.1;
        limited = q.2;
        is = ap (λ (v : Verdict). unless_refused v (new answer) s) e ∙ ap new q.1;
      }

  -- a refused one leaves what there was
  pub stepped_refused : (s : State) (w : Written) → is_err (step_verdict n root s w) ≡ true → s ≡ stepped n root s w
  unfolding stepped
  stepped_refused s w e = kept (step_verdict n root s w) (state (node_store s.store s.nodes w) (with_answer s.nodes w (node_answer s.store root s.nodes w))) s e

  -- sound nodes stay so, and the store grows
  pub stepped_sound : (s : State) → Sound n s → (w : Written) → Sound n (stepped n root s w) × Grows s.store (stepped n root s w).store
  stepped_sound s f w = go (is_err (step_verdict n root s w)) refl
    where
      go : (b : Bool) → is_err (step_verdict n root s w) ≡ b → Sound n (stepped n root s w) × Grows s.store (stepped n root s w).store
      go true e = rw (← stepped_refused s w e) (f, grows_refl s.store)
      go false e =
          let p = stepped_passed s w (passed_is (step_verdict n root s w) e) in
          let h = node_entered n root s.store s.nodes f w p.passed p.answer p.given in
          let after = node_store s.store s.nodes w in
          rw p.is (
            record {
              form = h.form;
              each =
                  each_more (λ _ x. Settled n after x) s.nodes (node_of s.nodes w p.answer)
                  (λ k l. settled_grown n s.store after f.form h.form h.grown (node_at s.nodes k) (f.each k l))
                  (record { used = h.used; proper = h.proper });
            },
            h.grown,
          )

  -- ---- how each node was answered

  -- a node that was answered from the nodes before it, over a store that `last` has grown out of
  pub record Earlier (last : List ℕ) (before : List Node) (x : Node) : Type 0 where
    pub store : List ℕ
    pub sound : Sound n (state store before)
    pub passed : lowest (node_conditions n store before x.written) ≡ Ok tt
    pub given : node_answer store root before x.written ≡ Ok x.answer
    pub limited : lowest (limits before x.written) ≡ Ok tt
    pub deep : x.depth ≡ depth_of before x.written
    pub grown : Grows (node_store store before x.written) last

  -- what its answer came to
  pub earlier_entered : (last : List ℕ) (before : List Node) (x : Node) (e : Earlier last before x)
      → Entered n e.store (node_store e.store before x.written) x.answer
  earlier_entered last before x e = node_entered n root e.store before e.sound x.written e.passed x.answer e.given

  -- so `last` has grown out of the store that it was answered over, too
  pub earlier_grown : (last : List ℕ) (before : List Node) (x : Node) (e : Earlier last before x) → Grows e.store last
  earlier_grown last before x e =
      grows_trans e.store (node_store e.store before x.written) last e.sound.form (earlier_entered last before x e).grown e.grown

  -- the store is in form, and every node was answered so
  pub record Traced (s : State) : Type 0 where
    pub form : Formed s.store
    pub each : (k : ℕ) → k < length s.nodes → Earlier s.store (take k s.nodes) (node_at s.nodes k)

  -- then the nodes are sound
  pub traced_sound : (s : State) → Traced s → Sound n s
  traced_sound s a = record {
    form = a.form;
    each = λ k l.
        let e = a.each k l in
        let x = node_at s.nodes k in
        let h = earlier_entered s.store (take k s.nodes) x e in
        settled_grown n (node_store e.store (take k s.nodes) x.written) s.store h.form a.form e.grown x (record { used = h.used; proper = h.proper });
  }

  pub start_traced : (store : List ℕ) → Formed store → Traced (state store [])
  start_traced store f = record { form = f; each = λ k l. absurd (omega (arith, l)) }

  -- and so it stays with one more
  pub stepped_traced : (s : State) → Traced s → (w : Written) → Traced (stepped n root s w)
  stepped_traced s f w = go (is_err (step_verdict n root s w)) refl
    where
      go : (b : Bool) → is_err (step_verdict n root s w) ≡ b → Traced (stepped n root s w)
      go true e = rw (← stepped_refused s w e) f
      go false e =
          let p = stepped_passed s w (passed_is (step_verdict n root s w) e) in
          let h = node_entered n root s.store s.nodes (traced_sound s f) w p.passed p.answer p.given in
          let after = node_store s.store s.nodes w in
          rw p.is (record {
            form = h.form;
            each =
                each_more (Earlier after) s.nodes (node_of s.nodes w p.answer)
                (λ k l.
                let x = node_at s.nodes k in
                let o = f.each k l in
                let i = earlier_entered s.store (take k s.nodes) x o in
                record {
                  store = o.store;
                  sound = o.sound;
                  passed = o.passed;
                  given = o.given;
                  limited = o.limited;
                  deep = o.deep;
                  grown = grows_trans (node_store o.store (take k s.nodes) x.written) s.store after i.form o.grown h.grown;
                })
                (record {
                  store = s.store;
                  sound = traced_sound s f;
                  passed = p.passed;
                  given = p.given;
                  limited = p.limited;
                  deep = refl;
                  grown = grows_refl after;
                });
          })

  -- ---- a list of nodes

  -- what is left of a list: each node that has an answer was answered so, the store has grown, and they are the first of the list
  pub record Ran (s : State) (ws : List Written) (last : State) : Type 0 where
    pub whole : Traced last
    pub grown : Grows s.store last.store
    pub wrote : writings last.nodes ≡ take (length last.nodes) (writings s.nodes ++ ws)

  pub all_ran : (ws : List Written) (s : State) → Traced s → Ran s ws (all_stepped n root s ws)
  unfolding all_stepped
  all_ran [] s f = record {
    whole = f;
    grown = grows_refl s.store;
    wrote = sym (ap (λ (k : ℕ). take k (writings s.nodes ++ [])) (sym (writings_length s.nodes)) ∙ take-append_seam (writings s.nodes) []);
  }
  all_ran (w ∷ ws) s f = go (is_err (step_verdict n root s w)) refl (all_ran ws (stepped n root s w) (stepped_traced s f w))
    where
      go : (b : Bool) → is_err (step_verdict n root s w) ≡ b → Ran (stepped n root s w) ws (all_stepped n root (stepped n root s w) ws)
          → Ran s (w ∷ ws) (cond b s (all_stepped n root (stepped n root s w) ws))
      go true e ih = record {
        whole = f;
        grown = grows_refl s.store;
        wrote = sym (ap (λ (k : ℕ). take k (writings s.nodes ++ (w ∷ ws))) (sym (writings_length s.nodes)) ∙ take-append_seam (writings s.nodes) (w ∷ ws));
      }
      go false e ih =
          let p = stepped_passed s w (passed_is (step_verdict n root s w) e) in
          let last = all_stepped n root (stepped n root s w) ws in
          let more : writings (stepped n root s w).nodes ≡ writings s.nodes ++ (w ∷ []) =
          ap (λ (x : State). writings x.nodes) p.is ∙ writings_append s.nodes (node_of s.nodes w p.answer ∷ []) in
          record {
            whole = ih.whole;
            grown = grows_trans s.store (stepped n root s w).store last.store f.form (stepped_sound s (traced_sound s f) w).1 ih.grown;
            wrote = ih.wrote ∙ ap (λ (l : List Written). take (length last.nodes) l) (ap (λ (l : List Written). l ++ ws) more ∙ append_assoc (writings s.nodes) (w ∷ []) ws);
          }

  -- of a list over a store in form
  pub answers_ran : (store : List ℕ) → Formed store → (ws : List Written) → Ran (state store []) ws (answers_of n root store ws)
  answers_ran store f ws = all_ran ws (state store []) (start_traced store f)
