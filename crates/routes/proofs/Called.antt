-- Demand 3 of what the call answers (`run_rule`), and what the call comes to at each return. Assumes nothing.
use Rattle.std.proofs.Common.{Result, Ok, Err, Option}
use Rattle.refusals.specs.declared.Refusal.{Refusal}
use Rattle.refusals.specs.declared.Refusal.TheVariants.{Undefined, Broken}
use mathlib.Core.Path.{◌≡◌, refl, sym, ap, ap₂, ◌∙◌}
use mathlib.Core.Logic.{◌↔◌}
use mathlib.Core.Bool.{Bool, true, false, ◌||◌}
use mathlib.Core.List.{List, [], ◌∷◌, ◌++◌, map}
use Prim.Native.Nat.{ℕ, ◌+◌, ◌≤◌, min}
use native.Mathlib.Nat.{le_refl}
use native.Mathlib.Omega.{arith}
use lib.Dec.{leb}
use lib.ListN.{length, take, drop}
use borrow.Author.Tests.{leb-true, leb-false}
use Rattle.std.proofs.lemmas.List.{length-take-le, take-append-drop, drop_all}
use Rattle.pages.specs.Bytes.{put}
use Rattle.pages.proofs.Put.{put_at, put_part}
use Rattle.pages.specs.Quant.{Every}
use Rattle.refusals.specs.Numbers.{Verdict}
use Rattle.refusals.specs.Lowest.{◌when◌, lowest, guarded, answer_of}
use Rattle.refusals.proofs.Lowest.{passed_parts, verdict_err}
use Rattle.names.specs.Calls.{used_of}
use Rattle.types.specs.Calls.{store_broken, opened_answer}
use Rattle.types.proofs.Calls.{opened_err, unbroken_both}
use Rattle.pairs.specs.Page.{formed, table_max}
use Rattle.pairs.specs.Calls.{table_broken, form_verdict}
use Rattle.pairs.specs.Runs.{UsesAtMost, page_after_all}
use Rattle.pairs.proofs.Calls.{unbroken, broken_rest, table_err}
use Rattle.pairs.proofs.Run.{page_run}
use Rattle.sums.specs.Calls.{roots_in, convert_answer}
use Rattle.formulas.specs.Bodies.{formula_verdict, formula_nodes, formula_of, formula_answer}
use Rattle.formulas.specs.Calls.{nodes_lent, is_cut, first_undefined}
use Rattle.formulas.specs.declared.FormulaAnswer.{FormulaAnswer}
use Rattle.routes.specs.Rule.{Lent, called, unit_at, answers_in}
use Rattle.routes.specs.Run.{request_in, pairs_lent, requests_in, FormulaLent, formula_in, answer_in, store_in, compared, with_right, with_left, compare_answer, compare_store, pairs_cut, run_verdict, lent_then, run_answer, run_page, run_table, RunRule}
use Rattle.routes.specs.declared.Compared.{Compared}
use Rattle.routes.proofs.Down.{neither}
use Rattle.routes.proofs.Start.{route_rule_any}

never : {A B : Type 0} {x : A} {q : B} → ◌≡◌ {A = Result A B} (Ok x) (Err q) → ⊥
never e = let z : ◌≡◌ {A = ℕ} 0 1 = cc in omega arith

-- ---- an answer that is no refusal

guarded_ok : {A : Type 0} (v : Verdict) (x : Result A Refusal) (c : A) → guarded v x ≡ Ok c → (v ≡ Ok tt) × (x ≡ Ok c)
guarded_ok (Ok _) x c e = (refl, e)
guarded_ok (Err r) x c e = absurd (never (sym e))

-- both formulas are answered, and the convertibility call says what it says
record Both (by : Lent) (store : List ℕ) (f g : FormulaLent) (c : Compared) : Type 0 where
  pub left : answer_in by store f ≡ Ok c.left
  pub right : answer_in by (store_in by store f) g ≡ Ok c.right
  pub said : convert_answer by.table by.names c.left.answer.unit c.right.answer.unit ≡ Ok c.convertible

both_of : (by : Lent) (store : List ℕ) (f g : FormulaLent) (c : Compared) → compare_answer by store f g ≡ Ok c → Both by store f g c
unfolding compare_answer
both_of by store f g c e = left (answer_in by store f) refl e
  where
    said : (x y : FormulaAnswer) → answer_in by store f ≡ Ok x → answer_in by (store_in by store f) g ≡ Ok y
        → (b : Result Bool Refusal) → convert_answer by.table by.names x.answer.unit y.answer.unit ≡ b → compared x y b ≡ Ok c → Both by store f g c
    said x y h k (Ok b) w e =
        let is : record { left = x; right = y; convertible = b } ≡ c = inside e in
        rw (← is) (record { left = h; right = k; said = w })
      where
        inside : {u : Compared} → ◌≡◌ {A = Result Compared Refusal} (Ok u) (Ok c) → u ≡ c
        inside e = cc
    said x y h k (Err q) w e = absurd (never (sym e))

    right : (x : FormulaAnswer) → answer_in by store f ≡ Ok x → (b : Result FormulaAnswer Refusal) → answer_in by (store_in by store f) g ≡ b
        → with_right by x b ≡ Ok c → Both by store f g c
    right x h (Ok y) k e = said x y h k (convert_answer by.table by.names x.answer.unit y.answer.unit) refl e
    right x h (Err q) k e = absurd (never (sym e))

    left : (a : Result FormulaAnswer Refusal) → answer_in by store f ≡ a → with_left by (store_in by store f) g a ≡ Ok c → Both by store f g c
    left (Ok x) h e = right x h (answer_in by (store_in by store f) g) refl e
    left (Err q) h e = absurd (never (sym e))

-- the unit of a formula's answer is its root's
unit_is : (by : Lent) (store : List ℕ) (f : FormulaLent) (x : FormulaAnswer) → answer_in by store f ≡ Ok x
    → x.answer.unit ≡ unit_at (answers_in by store (formula_in f)) f.root
unfolding formula_answer
unit_is by store f x e = go (formula_verdict (used_of by.names) (roots_in by.table) store (nodes_lent f.nodes) f.root) e
  where
    whole : FormulaAnswer
    whole = formula_of (formula_nodes (used_of by.names) (roots_in by.table) store (nodes_lent f.nodes)) f.root

    go : (v : Verdict) → answer_of v whole ≡ Ok x → x.answer.unit ≡ whole.answer.unit
    go (Ok _) e = ap (λ (y : FormulaAnswer). y.answer.unit) (sym (inside e))
      where
        inside : ◌≡◌ {A = Result FormulaAnswer Refusal} (Ok whole) (Ok x) → whole ≡ x
        inside e = cc
    go (Err r) e = absurd (never (sym e))

-- ---- the table after the insertions

module _ (names : Option (List ℕ)) where
  all_lend : (bs : List (List ℕ)) → Every (UsesAtMost (used_of names)) (map (request_in names) bs)
  all_lend [] = tt
  all_lend (b ∷ bs) = (λ _. le_refl (used_of names), all_lend bs)

  pub table_formed : (table : List ℕ) → table_broken table names ≡ false → (bs : List (List ℕ))
      → formed (page_after_all table (map (request_in names) bs)) (used_of names) ≡ true
  table_formed table t bs = (page_run (used_of names) (map (request_in names) bs) table (unbroken table names t).1 (all_lend bs)).0

  table_sound : (table : List ℕ) → table_broken table names ≡ false → (bs : List (List ℕ)) → table_broken (page_after_all table (map (request_in names) bs)) names ≡ false
  table_sound table t bs =
      let after = page_after_all table (map (request_in names) bs) in
      sym (broken_rest after names (unbroken table names t).0) ∙ rw (table_formed table t bs) refl

-- ---- what the call comes to

module _ (page : List ℕ) (names : Option (List ℕ)) (table requests : List ℕ) (f g : FormulaLent) where
  abbrev lists_cut : Bool
  lists_cut = pairs_cut requests || (is_cut f.nodes || is_cut g.nodes)

  abbrev broken_some : Bool
  broken_some = store_broken page names || (table_broken table names || lists_cut)

  -- what is lent is in form where the call is not refused for it
  record Sound : Type 0 where
    pub store : store_broken page names ≡ false
    pub table! : table_broken table names ≡ false

  sound_of : run_verdict page names table requests f g ≡ Ok tt → Sound
  sound_of v =
      let p = passed_parts Undefined (first_undefined (nodes_lent f.nodes)) ((Broken when broken_some) ∷ []) v in
      let q = passed_parts Broken broken_some [] p.1 in
      let s = neither (store_broken page names) (table_broken table names || lists_cut) q.0 in
      record { store = s.0; table! = (neither (table_broken table names) lists_cut s.1).0 }

  -- demand 3
  pub run_rule : RunRule page names table requests f g (run_answer page names table requests f g)
  unfolding RunRule run_answer
  run_rule c e a b xs ys v w =
      let by = lent_then names table requests in
      let k = guarded_ok (run_verdict page names table requests f g) (compare_answer by page f g) c e in
      let sound = sound_of k.0 in
      let both = both_of by page f g c k.1 in
      let is : called by page (formula_in f) (store_in by page f) (formula_in g) ≡ Ok c.convertible =
      rw (← unit_is by page f c.left both.left, ← unit_is by (store_in by page f) g c.right both.right) both.said in
      let rule = route_rule_any table (requests_in names requests) names (table_sound names table sound.table! (pairs_lent requests))
      page (store_in by page f) (formula_in f) (formula_in g) a b xs ys v w in
      (both_ways true c.convertible is rule.0, both_ways false c.convertible is rule.1)
    where
      both_ways : {X : Type 0} {called : Result Bool Refusal} (t said : Bool) → called ≡ Ok said → (called ≡ Ok t) ↔ X → (said ≡ t) ↔ X
      both_ways t said is both = (λ h. both.0 (is ∙ ap Ok h), λ x. inside (sym is ∙ both.1 x))
        where
          inside : ◌≡◌ {A = Result Bool Refusal} (Ok said) (Ok t) → said ≡ t
          inside e = cc

  -- an answer, with the store and the table afterwards, is what the definitions say, and demand 3 is so of it
  abbrev pub AsDefined : Result Compared Refusal → List ℕ → List ℕ → Type 0
  AsDefined answer after pairs =
      (answer ≡ run_answer page names table requests f g) × (after ≡ run_page page names table requests f g)
      × (pairs ≡ run_table page names table requests f g) × RunRule page names table requests f g answer

  -- the call comes to its definitions, and so to demand 3
  ran : (answer : Result Compared Refusal) (after pairs : List ℕ) → answer ≡ run_answer page names table requests f g
      → after ≡ run_page page names table requests f g → pairs ≡ run_table page names table requests f g
      → AsDefined answer after pairs
  ran answer after pairs e k l = (e, k, l, rw e run_rule)

  -- refused for what is lent
  refused : (r : Refusal) → run_verdict page names table requests f g ≡ Err r → AsDefined (Err r) page table
  unfolding run_answer run_page run_table
  refused r v = ran (Err r) page table (rw v refl) (rw v refl) (rw v refl)

  -- 1, of the first node
  pub first_refused : (r : Refusal) → Err r ≡ lowest ((Undefined when first_undefined (nodes_lent f.nodes)) ∷ [])
      → AsDefined (Err r) page table
  first_refused r e =
      let u = verdict_err Undefined (first_undefined (nodes_lent f.nodes)) r e in
      rw u.1 (refused Undefined (rw u.0 (first broken_some)))
    where
      first : (b : Bool) → lowest ((Undefined when true) ∷ (Broken when b) ∷ []) ≡ Err Undefined
      first true = refl
      first false = refl

  module _ (d : Ok tt ≡ lowest ((Undefined when first_undefined (nodes_lent f.nodes)) ∷ [])) where
    defined : first_undefined (nodes_lent f.nodes) ≡ false
    defined = (passed_parts Undefined (first_undefined (nodes_lent f.nodes)) [] (sym d)).0

    broken : broken_some ≡ true → AsDefined (Err Broken) page table
    broken b = refused Broken (rw (defined, b) refl)

    pub unopened : (r : Refusal) → Err r ≡ opened_answer page names → AsDefined (Err r) page table
    unopened r e = let o = opened_err page names r e in rw o.1 (broken (rw o.0 refl))

    module _ (b : store_broken page names ≡ false) where
      pub untabled : (n : ℕ) → n ≡ used_of names → (r : Refusal) → Err r ≡ form_verdict table n → AsDefined (Err r) page table
      untabled n is r e = let t = table_err table names (unbroken_both page names b).0 n is r e in rw t.1 (broken (rw (b, t.0) refl))

      module _ (t : table_broken table names ≡ false) where
        pub cut : (pairs_cut requests || (is_cut f.nodes || is_cut g.nodes)) ≡ true → AsDefined (Err Broken) page table
        cut c = broken (rw (b, t, c) refl)

        module _ (c : (pairs_cut requests || (is_cut f.nodes || is_cut g.nodes)) ≡ false) (answer : Result Compared Refusal)
            (e : answer ≡ compare_answer (lent_then names table requests) page f g) where
          passed : run_verdict page names table requests f g ≡ Ok tt
          passed = rw (defined, b, t, c) refl

          -- refused, and everything is as it was
          pub ended : (q : Refusal) → answer ≡ Err q → AsDefined (Err q) page table
          unfolding run_answer run_page run_table
          ended q h = let k = sym e ∙ h in ran (Err q) page table (rw (passed, k) refl) (rw (passed, k) refl) (rw (passed, k) refl)

          pub done : (x : Compared) → answer ≡ Ok x → (after pairs : List ℕ) → after ≡ compare_store (lent_then names table requests) page f g
              → pairs ≡ page_after_all table (requests_in names requests) → AsDefined (Ok x) after pairs
          unfolding run_answer run_page run_table
          done x h after pairs u v = let k = sym e ∙ h in ran (Ok x) after pairs (rw (passed, k) refl) (u ∙ rw (passed, k) refl) (v ∙ rw (passed, k) refl)

-- ---- the table, as it came

-- what was kept of a table, written back, is the table: nothing behind its places has changed
pub restored : (table after : List ℕ) (n : ℕ) → n ≡ min (length table) table_max → length after ≡ length table → drop table_max after ≡ drop table_max table
    → (kept : List ℕ) → kept ≡ take n table → put after 0 kept ≡ table
restored table after n is same far kept e =
    let few : n ≤ length table = omega (arith, is) in
    let size : length kept ≡ n = ap length e ∙ length-take-le n table few in
    let reach : 0 + length kept ≡ n = omega (arith, size) in
    let front : put after 0 kept ≡ kept ++ drop n after = put_at after 0 kept (omega (arith, size, few, same)) ∙ ap (λ (k : ℕ). kept ++ drop k after) reach in
    front ∙ ap₂ (λ (x y : List ℕ). x ++ y) e (behind (leb (length table) table_max) refl) ∙ take-append-drop n table
  where
    behind : (b : Bool) → leb (length table) table_max ≡ b → drop n after ≡ drop n table
    behind true h =
        let l = leb-true (length table) table_max h in
        let whole : n ≡ length table = omega (arith, is, l) in
        rw whole (drop_all (length table) after (omega (arith, same)) ∙ sym (drop_all (length table) table (le_refl (length table))))
    behind false h = let l = leb-false (length table) table_max h in let whole : n ≡ table_max = omega (arith, is, l) in rw whole far

-- what is kept of it is its front
pub kept_is : (table : List ℕ) (n : ℕ) → n ≡ min (length table) table_max → (room kept : List ℕ) → kept ≡ put room 0 (take n table)
    → length room ≡ table_max → take n kept ≡ take n table
kept_is table n is room kept e l =
    let few : n ≤ length table = omega (arith, is) in
    let size : length (take n table) ≡ n = length-take-le n table few in
    rw e (put_part room 0 (take n table) (omega (arith, size, is, l)) n size)
