-- What the calls on a page of pairs come to, one law for each return. Assumes nothing.
use Rattle.std.specs.Prelude.{Option}
use Rattle.std.proofs.Common.{Some, None, Ok, Err}
use mathlib.Core.Path.{◌≡◌, refl, sym, ◌∙◌, ap, subst}
use mathlib.Core.Bool.{Bool, true, false, not, cond}
use mathlib.Core.List.{List, [], ◌∷◌}
use Prim.Native.Nat.{ℕ, ◌+◌, ◌-◌, ◌*◌, ◌<◌, ◌≤◌}
use native.Mathlib.Omega.{arith}
use native.Mathlib.Nat.{le_refl}
use lib.Dec.{T, leb, ltb}
use lib.ListN.{length, take, drop, replicate}
use borrow.Author.Tests.{lt-ltb, le-ltb, leb-false, not-false}
use Rattle.refusals.specs.Lowest.{◌when◌, lowest}
use Rattle.refusals.specs.declared.Refusal.{Refusal}
use Rattle.refusals.specs.declared.Refusal.TheVariants.{Broken, Unused, Full}
use Rattle.refusals.specs.Numbers.{Verdict}
use Rattle.refusals.proofs.Lowest.{first_holds, passed_parts, answer_of_ok, answer_of_err, one_ok, one_err, verdict_err}
use Rattle.pages.specs.Quant.{any_to}
use Rattle.pages.specs.Bytes.{count_bytes, count_of, put}
use Rattle.pages.proofs.Pad.{length_pad}
use Rattle.pages.proofs.Quant.{first_none, first_at}
use Rattle.names.specs.Table.{names_max}
use Rattle.names.specs.Calls.{lent_broken, used_of, used_answer, is_used}
use Rattle.names.proofs.Calls.{used_err}
use Rattle.names.proofs.Used.{used_below}
use Rattle.groups.specs.Groups.{pair, selves, walk, root_of, Below}
use Rattle.pairs.specs.Table.{pairs_max, pair_bytes, both_used, insert_verdict, with_pair, insertion, after_insertion}
use Rattle.pairs.specs.Table as tables
use Rattle.pairs.specs.Page.{parents_at, size_of, bodies_in, parents_in, table_in, listed_in, holds, formed, with_table}
use Rattle.pairs.specs.Calls.{table_broken, form_verdict, opened_answer, empty_verdict, empty_page, pair_verdict, page_after, symbol_verdict, root_answer, is_of, factor_of, first_factor, factor_answer}
use Rattle.pairs.specs.declared.ConversionTable.{ConversionTable}
use Rattle.pairs.proofs.Table.{length_pairs, Form, form}
use Rattle.pairs.proofs.Page.{form_held, form_unheld, formed_parts, count_in}
use Rattle.pairs.proofs.Grown.{form_below, form_more}

-- ---- making a table

module _ (page : List ℕ) where
  pub empty_short : length page < size_of 0 → (Err Broken ≡ empty_verdict page) × (page ≡ empty_page page)
  unfolding empty_verdict empty_page
  empty_short h = (rw (lt-ltb (length page) (size_of 0) h), rw (lt-ltb (length page) (size_of 0) h))

  pub empty_made : size_of 0 ≤ length page → (Ok tt ≡ empty_verdict page) × (put (replicate (length page) 0) count_bytes (selves 0 names_max) ≡ empty_page page)
  unfolding empty_verdict empty_page
  empty_made h = (rw (le-ltb (length page) (size_of 0) h), rw (le-ltb (length page) (size_of 0) h))

-- ---- names and table

module _ (page : List ℕ) (names : Option (List ℕ)) where
  pub broken_names : lent_broken names ≡ true → true ≡ table_broken page names
  unfolding table_broken
  broken_names l = rw l

  pub broken_rest : lent_broken names ≡ false → not (formed page (used_of names)) ≡ table_broken page names
  unfolding table_broken
  broken_rest l = rw l

  -- where neither breaks its form
  pub unbroken : table_broken page names ≡ false → (lent_broken names ≡ false) × (formed page (used_of names) ≡ true)
  unfolding table_broken
  unbroken e = go (lent_broken names) refl
    where
      go : (b : Bool) → lent_broken names ≡ b → (b ≡ false) × (formed page (used_of names) ≡ true)
      go true l = let z : ◌≡◌ {A = Bool} true false = rw l at e in absurd (subst T z tt)
      go false l = (refl, not-false (formed page (used_of names)) (rw l at e))

  -- what an answer of `opened` says of names and table, and what a refusal does
  pub opened_ok : (n : ℕ) → Ok n ≡ opened_answer page names → (table_broken page names ≡ false) × (n ≡ used_of names)
  unfolding opened_answer
  opened_ok n e = one_ok Broken (table_broken page names) (used_of names) n e

  pub opened_err : (r : Refusal) → Err r ≡ opened_answer page names → (table_broken page names ≡ true) × (r ≡ Broken)
  unfolding opened_answer
  opened_err r e = one_err Broken (table_broken page names) (used_of names) r e

  -- its returns
  pub opened_unnamed : lent_broken names ≡ true → Err Broken ≡ opened_answer page names
  unfolding opened_answer
  opened_unnamed l = rw (← broken_names l)

  -- the table's verdict, where the names are in form
  module _ (l : lent_broken names ≡ false) (n : ℕ) (is : n ≡ used_of names) where
    broken_or_not : (r : Verdict) → r ≡ form_verdict page n → r ≡ lowest ((Broken when table_broken page names) ∷ [])
    unfolding form_verdict
    broken_or_not r e = rw (e, ← broken_rest l, ← is)

    pub table_ok : Ok tt ≡ form_verdict page n → table_broken page names ≡ false
    table_ok e = (passed_parts Broken (table_broken page names) [] (sym (broken_or_not (Ok tt) e))).0

    pub table_err : (r : Refusal) → Err r ≡ form_verdict page n → (table_broken page names ≡ true) × (r ≡ Broken)
    table_err r e = verdict_err Broken (table_broken page names) r (broken_or_not (Err r) e)

    pub opened_unformed : (r : Refusal) → Err r ≡ form_verdict page n → Err r ≡ opened_answer page names
    unfolding opened_answer
    opened_unformed r e = rw (← broken_or_not (Err r) e)

    pub opened_passed : Ok tt ≡ form_verdict page n → Ok n ≡ opened_answer page names
    unfolding opened_answer
    opened_passed e = rw (← broken_or_not (Ok tt) e, ← is)

-- the returns of `form_verdict`
module _ (page : List ℕ) (n : ℕ) where
  pub form_broken : formed page n ≡ false → Err Broken ≡ form_verdict page n
  unfolding form_verdict
  form_broken f = rw f

  pub form_passed : formed page n ≡ true → Ok tt ≡ form_verdict page n
  unfolding form_verdict
  form_passed f = rw f

-- ---- insertion

-- a verdict, or 10 where nothing else is refused and there is no room
roomed : Verdict → Bool → Verdict
roomed (Ok _) cramped = cond cramped (Err Full) (Ok tt)
roomed (Err r) cramped = Err r

roomy : (v : Verdict) → roomed v false ≡ v
unfolding roomed
roomy (Ok _) = refl
roomy (Err r) = refl

lowest_room : (a b c d : Bool)
    → lowest ((Broken when a) ∷ (Unused when b) ∷ (Full when c) ∷ (Full when d) ∷ []) ≡ roomed (lowest ((Broken when a) ∷ (Unused when b) ∷ (Full when c) ∷ [])) d
unfolding roomed
lowest_room true b c d =
    first_holds Broken ((Unused when b) ∷ (Full when c) ∷ (Full when d) ∷ []) refl
    ∙ sym (ap (λ (v : Verdict). roomed v d) (first_holds Broken ((Unused when b) ∷ (Full when c) ∷ []) refl))
lowest_room false true c d =
    first_holds Unused ((Full when c) ∷ (Full when d) ∷ []) refl ∙ sym (ap (λ (v : Verdict). roomed v d) (first_holds Unused ((Full when c) ∷ []) refl))
lowest_room false false true d = first_holds Full ((Full when d) ∷ []) refl
lowest_room false false false d = refl

-- a table that was not full has one more pair
insert_count : (t : ConversionTable) (n s f b : ℕ) → insert_verdict t n (pair s b) ≡ Ok tt → (t.count < pairs_max) × (after_insertion t n s f b ≡ with_pair t s f b)
unfolding insert_verdict after_insertion
insert_count t n s f b v =
    let x = passed_parts Broken (not (tables.formed t n)) ((Unused when not (both_used n (pair s b))) ∷ (Full when leb pairs_max t.count) ∷ []) v in
    let y = passed_parts Unused (not (both_used n (pair s b))) ((Full when leb pairs_max t.count) ∷ []) x.1 in
    let z = passed_parts Full (leb pairs_max t.count) [] y.1 in
    (leb-false pairs_max t.count z.0, rw v)

-- a table that takes a pair was in form, and the pair's symbols are in use
insert_form : (t : ConversionTable) (n s b : ℕ) → insert_verdict t n (pair s b) ≡ Ok tt → Form t n × (both_used n (pair s b) ≡ true)
unfolding insert_verdict
insert_form t n s b v =
    let x = passed_parts Broken (not (tables.formed t n)) ((Unused when not (both_used n (pair s b))) ∷ (Full when leb pairs_max t.count) ∷ []) v in
    let y = passed_parts Unused (not (both_used n (pair s b))) ((Full when leb pairs_max t.count) ∷ []) x.1 in
    (form t n (not-false (tables.formed t n) x.0), not-false (both_used n (pair s b)) y.0)

module _ (page : List ℕ) (names : Option (List ℕ)) (s f b : ℕ) where
  refused : (r : Refusal) → pair_verdict page names (pair s b) ≡ Err r → (Err r ≡ pair_verdict page names (pair s b))
      × (page ≡ page_after page names s f b)
  unfolding page_after
  refused r v = (sym v, rw v)

  pub pair_broken : table_broken page names ≡ true → (Err Broken ≡ pair_verdict page names (pair s b)) × (page ≡ page_after page names s f b)
  unfolding pair_verdict
  pair_broken t = refused Broken v
    where
      v : pair_verdict page names (pair s b) ≡ Err Broken
      v =
          rw t (first_holds Broken ((Unused when not (both_used (used_of names) (pair s b))) ∷ (Full when leb pairs_max (count_of page)) ∷ (Full when ltb (length page) (size_of (count_of page + 1))) ∷ []) refl)

  pub pair_unnamed : (r : Refusal) → Err r ≡ used_answer names → (Err r ≡ pair_verdict page names (pair s b)) × (page ≡ page_after page names s f b)
  pair_unnamed r e = let u = used_err names r e in rw u.1 (pair_broken (sym (broken_names page names u.0)))

  module _ (l : lent_broken names ≡ false) where
    pub pair_unheld : holds page ≡ false → (Err Broken ≡ pair_verdict page names (pair s b)) × (page ≡ page_after page names s f b)
    pair_unheld h = pair_broken (sym (broken_rest page names l) ∙ rw (← form_unheld page (used_of names) h))

    module _ (h : holds page ≡ true) where
      -- the verdict is that of the insertion by value, or the page has no room
      by_value : pair_verdict page names (pair s b) ≡ roomed (insert_verdict (table_in page) (used_of names) (pair s b))
          (ltb (length page) (size_of (count_of page + 1)))
      unfolding pair_verdict insert_verdict table_in
      by_value =
          rw (← broken_rest page names l, ← form_held page (used_of names) h)
          (lowest_room (not (tables.formed (table_in page) (used_of names))) (not (both_used (used_of names) (pair s b))) (leb pairs_max (count_of page)) (ltb (length page) (size_of (count_of page + 1))))

      -- where the page has room for one more pair, it is that of the insertion by value of the page's table
      pub page_verdict : size_of (count_of page + 1) ≤ length page
          → pair_verdict page names (pair s b) ≡ insert_verdict (table_in page) (used_of names) (pair s b)
      page_verdict room = by_value ∙ rw (le-ltb (length page) (size_of (count_of page + 1)) room) (roomy (insert_verdict (table_in page) (used_of names) (pair s b)))

      pub pair_refused : (r : Refusal) → Err r ≡ insertion (table_in page) (used_of names) s f b
          → (Err r ≡ pair_verdict page names (pair s b)) × (page ≡ page_after page names s f b)
      unfolding roomed insertion
      pair_refused r e =
          let w = answer_of_err (insert_verdict (table_in page) (used_of names) (pair s b)) (with_pair (table_in page) s f b) r e in
          refused r (by_value ∙ rw w)

      module _ (o : ConversionTable) (is : Ok o ≡ insertion (table_in page) (used_of names) s f b) where
        was : insert_verdict (table_in page) (used_of names) (pair s b) ≡ Ok tt
        unfolding insertion
        was = (answer_of_ok (insert_verdict (table_in page) (used_of names) (pair s b)) (with_pair (table_in page) s f b) o is).0

        pub pair_few : count_of page < pairs_max
        pair_few = rw (count_in page (used_of names)) at (insert_count (table_in page) (used_of names) s f b was).0

        pub table_grown : o ≡ with_pair (table_in page) s f b
        unfolding insertion
        table_grown = (answer_of_ok (insert_verdict (table_in page) (used_of names) (pair s b)) (with_pair (table_in page) s f b) o is).1

        pub count_grown : o.count ≡ count_of page + 1
        unfolding with_pair table_in
        count_grown = ap (λ (t : ConversionTable). t.count) table_grown

        -- its parents are symbols that a page can hold
        pub grown_below : Below names_max o.parents
        grown_below =
            let n = used_of names in
            let k = insert_form (table_in page) n s b was in
            let sized : length (table_in page).pairs ≡ pair_bytes * pairs_max = unfold table_in in (length_pad (pair_bytes * pairs_max) 0 (bodies_in page)) in
            let few : (table_in page).count < pairs_max = (insert_count (table_in page) n s f b was).0 in
            subst (λ (t : ConversionTable). Below names_max t.parents) (sym table_grown)
            (form_below (with_pair (table_in page) s f b) n (form_more (table_in page) s f b sized few n k.0 k.1))

        pub pair_cramped : length page < size_of o.count → (Err Full ≡ pair_verdict page names (pair s b))
            × (page ≡ page_after page names s f b)
        unfolding roomed
        pair_cramped k =
            let m : length page < size_of (count_of page + 1) = rw count_grown at k in
            refused Full (by_value ∙ rw (was, lt-ltb (length page) (size_of (count_of page + 1)) m))

        pub pair_done : size_of o.count ≤ length page → (Ok tt ≡ pair_verdict page names (pair s b))
            × (with_table page o ≡ page_after page names s f b)
        unfolding roomed page_after
        pair_done k =
            let m : size_of (count_of page + 1) ≤ length page = rw count_grown at k in
            let v : pair_verdict page names (pair s b) ≡ (Ok tt) = by_value ∙ rw (was, le-ltb (length page) (size_of (count_of page + 1)) m) in
            (sym v, rw (v, table_grown))

-- ---- looking up a symbol

module _ (page : List ℕ) (names : Option (List ℕ)) (s : ℕ) where
  symbol_broken : table_broken page names ≡ true → Err Broken ≡ symbol_verdict page names s
  unfolding symbol_verdict
  symbol_broken t = sym (rw t (first_holds Broken ((Unused when not (is_used (used_of names) s)) ∷ []) refl))

  pub symbol_unopened : (r : Refusal) → Err r ≡ opened_answer page names → Err r ≡ symbol_verdict page names s
  symbol_unopened r e = let o = opened_err page names r e in rw o.1 (symbol_broken o.0)

  module _ (t : table_broken page names ≡ false) where
    pub symbol_unused : is_used (used_of names) s ≡ false → Err Unused ≡ symbol_verdict page names s
    unfolding symbol_verdict
    symbol_unused h = rw (t, h)

    pub symbol_used_lem : is_used (used_of names) s ≡ true → Ok tt ≡ symbol_verdict page names s
    unfolding symbol_verdict
    symbol_used_lem h = rw (t, h)

  -- a symbol that is looked up is looked up in a page in form
  pub passed_formed : Ok tt ≡ symbol_verdict page names s → formed page (used_of names) ≡ true
  unfolding symbol_verdict
  passed_formed v = (unbroken page names (passed_parts Broken (table_broken page names) ((Unused when not (is_used (used_of names) s)) ∷ []) (sym v)).0).1

-- it is the number of a name
pub symbol_below : (page : List ℕ) (names : Option (List ℕ)) (s : ℕ) → symbol_verdict page names s ≡ Ok tt → s < names_max
unfolding symbol_verdict
symbol_below page names s v =
    let x = passed_parts Broken (table_broken page names) ((Unused when not (is_used (used_of names) s)) ∷ []) v in
    let y = passed_parts Unused (not (is_used (used_of names) s)) [] x.1 in
    (used_below (used_of names) s (not-false (is_used (used_of names) s) y.0)).1

-- the bytes of the pairs, as a part of the page
pub bodies_read : (page : List ℕ) (k at : ℕ) → k ≡ count_of page → at ≡ parents_at k → take (at - count_bytes) (drop count_bytes page) ≡ bodies_in page
bodies_read page k at e is =
    let x : at - count_bytes ≡ pair_bytes * count_of page = omega arith in
    ap (λ (j : ℕ). take j (drop count_bytes page)) x

-- of k pairs, that of the first with the symbol, and none where no pair has it
module _ (bodies : List ℕ) (k s : ℕ) where
  pub factor_found : (i : ℕ) → i < k → any_to i (is_of bodies s) ≡ false → is_of bodies s i ≡ true → Some (factor_of bodies i) ≡ first_factor bodies k s
  factor_found i h n e = rw (first_at (is_of bodies s) k i h n e, lt-ltb i k h)

  pub factor_absent : any_to k (is_of bodies s) ≡ false → None ≡ first_factor bodies k s
  factor_absent n = rw (first_none (is_of bodies s) k n, le-ltb k k (le_refl k))

-- the parents that stand in a page in form are those that its pairs give
pub root_in : (page : List ℕ) (n k s : ℕ) → formed page n ≡ true → k ≡ count_of page → walk k (parents_in page) s ≡ root_of names_max (listed_in page) s
unfolding root_of table_in
root_in page n k s e is =
    let f = (formed_parts page n e).1 in
    let l = length_pairs (table_in page).pairs (count_of page) in
    rw (l, is) (ap (λ (p : List ℕ). walk (count_of page) p s) f.given)

module _ (page : List ℕ) (names : Option (List ℕ)) (s : ℕ) where
  pub root_refused : (r : Refusal) → Err r ≡ symbol_verdict page names s → Err r ≡ root_answer page names s
  unfolding root_answer
  root_refused r v = rw (← v)

  pub root_given : Ok tt ≡ symbol_verdict page names s → (x : ℕ) → x ≡ root_of names_max (listed_in page) s → Ok x ≡ root_answer page names s
  unfolding root_answer
  root_given v x e = rw (← v, e)

  pub factor_refused : (r : Refusal) → Err r ≡ symbol_verdict page names s → Err r ≡ factor_answer page names s
  unfolding factor_answer
  factor_refused r v = rw (← v)

  pub factor_given : Ok tt ≡ symbol_verdict page names s → (k : ℕ) → k ≡ count_of page → Ok (first_factor (bodies_in page) k s) ≡ factor_answer page names s
  unfolding factor_answer
  factor_given v k is = rw (← v, is)
