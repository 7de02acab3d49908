-- After any list of insertions, refused ones among them, into any table in form: the table is in form, it lists the pairs of the
-- start and then the accepted ones, and its groups are theirs. Of a table by value, each insertion saying at most 256
-- names in use (`table_groups`), and in a page (`page_groups`). Assumes nothing.
use Rattle.std.specs.Prelude.{Option}
use Rattle.std.proofs.Common.{Result, Ok}
use Rattle.refusals.specs.declared.Refusal.{Refusal}
use mathlib.Core.Path.{◌≡◌, refl, sym, ◌∙◌, ap, subst}
use mathlib.Core.Logic.{◌↔◌}
use mathlib.Core.Bool.{Bool, true, false, not, cond}
use mathlib.Core.List.{List, [], ◌∷◌, ◌++◌, append_assoc, append-nil}
use Prim.Native.Nat.{ℕ, ◌+◌, ◌*◌, ◌<◌, ◌≤◌}
use native.Mathlib.Nat.{le_refl}
use native.Mathlib.Omega.{arith}
use lib.Dec.{leb, ltb}
use lib.ListN.{length, drop}
use lib.Seq.{drop-drop}
use borrow.Author.Tests.{leb-false, ltb-false, not-true, not-false}
use Rattle.std.proofs.Common.{is_err}
use Rattle.refusals.specs.Lowest.{◌when◌}
use Rattle.refusals.specs.declared.Refusal.TheVariants.{Broken, Unused, Full}
use Rattle.refusals.proofs.Lowest.{passed_parts, passed_is, kept}
use Rattle.pages.specs.Quant.{Every}
use Rattle.pages.specs.Bytes.{zeros, count_of}
use Rattle.pages.proofs.Quant.{and_true, all_at, all_each}
use Rattle.pages.proofs.Bytes.{zeros_drop}
use Rattle.pages.proofs.Pad.{length_pad}
use Rattle.names.specs.Table.{names_max}
use Rattle.names.specs.Calls.{lent_broken, used_of}
use Rattle.names.proofs.Calls.{used_few}
use Rattle.groups.specs.Groups.{Pair, Within, Joined, Joining, walk, parents_of, root_of}
use Rattle.groups.proofs.UnionFind.{groups, walk_short}
use Rattle.pairs.specs.Table.{pairs_max, pair_bytes, pair_at, listed, both_used, used_at, insert_verdict, with_pair, after_insertion}
use Rattle.pairs.specs.Table as tables
use Rattle.pairs.specs.Page.{size_of, table_max, bodies_in, parents_in, table_in, listed_in, holds, formed, with_table}
use Rattle.pairs.specs.Calls.{table_broken, pair_verdict, page_after, symbol_verdict, root_answer}
use Rattle.pairs.specs.Runs.{after_all, taken_by, Request, asked, body_asked, UsesAtMost, accepts, after, page_after_all, accepted_pairs, TableRequest, table_asked, table_accepts, table_after, table_after_all, table_accepted_pairs}
use Rattle.pairs.specs.declared.ConversionTable.{ConversionTable}
use Rattle.pairs.proofs.Table.{Form, form}
use Rattle.pairs.proofs.Page.{held_zeros, formed_parts, formed_held}
use Rattle.pairs.proofs.Calls.{unbroken, symbol_below}
use Rattle.pairs.proofs.Grown.{form_formed, form_within, more_used, listed_more, sized_more, form_more, written_length, written_far, written_count, written_bodies, written_listed, written_formed, bodies_more, within_all}

-- ---- of any kind of table

module _ {T R A : Type 0} (after : T → R → T) (accepts : T → R → Bool) (adds : R → List A) (Good : T → Type 0) (Fine : R → Type 0) (holding : T → List A)
    (stays : (t : T) (r : R) → accepts t r ≡ false → after t r ≡ t)
    (grows : (t : T) (r : R) → Good t → Fine r → accepts t r ≡ true → Good (after t r) × (holding (after t r) ≡ holding t ++ adds r)) where
  run : (rs : List R) (t : T) → Good t → Every Fine rs → Good (after_all after t rs) × (holding (after_all after t rs) ≡ holding t ++ taken_by after accepts adds t rs)
  run [] t g all = (g, sym (append-nil (holding t)))
  run (r ∷ rs) t g all = go (accepts t r) refl (λ h. run rs (after t r) h all.1)
    where
      go : (d : Bool) → accepts t r ≡ d
          → (Good (after t r) → Good (after_all after (after t r) rs) × (holding (after_all after (after t r) rs) ≡ holding (after t r) ++ taken_by after accepts adds (after t r) rs))
          → Good (after_all after (after t r) rs)
          × (holding (after_all after (after t r) rs) ≡ holding t ++ (cond d (adds r) [] ++ taken_by after accepts adds (after t r) rs))
      go true e ih =
          let n = grows t r g all.0 e in
          let h = ih n.0 in
          (h.0, h.1 ∙ ap (λ (l : List A). l ++ taken_by after accepts adds (after t r) rs) n.1 ∙ append_assoc (holding t) (adds r) (taken_by after accepts adds (after t r) rs))
      go false e ih =
          let s = stays t r e in
          let h = ih (subst Good (sym s) g) in
          (h.0, h.1 ∙ ap (λ (u : T). holding u ++ taken_by after accepts adds (after t r) rs) s)

-- ---- of a table by value, which has as many bytes for pairs as every value of the struct

-- in form, with n names in use
abbrev Whole : ℕ → ConversionTable → Type 0
Whole n t = (tables.formed t n ≡ true) × (length t.pairs ≡ pair_bytes * pairs_max)

table_stays : (t : ConversionTable) (r : TableRequest) → table_accepts t r ≡ false → table_after t r ≡ t
unfolding after_insertion
table_stays t r e =
    sym (kept (insert_verdict t r.used (table_asked r)) (with_pair t r.symbol r.factor r.base) t (not-false (is_err (insert_verdict t r.used (table_asked r))) e))

table_grows : (n : ℕ) (t : ConversionTable) (r : TableRequest) → Whole n t → r.used ≤ n → table_accepts t r ≡ true → Whole n (table_after t r)
    × (listed (table_after t r) ≡ listed t ++ (table_asked r ∷ []))
unfolding insert_verdict after_insertion
table_grows n t r g most e =
    let v : insert_verdict t r.used (table_asked r) ≡ (Ok tt) =
    passed_is (insert_verdict t r.used (table_asked r)) (not-true (is_err (insert_verdict t r.used (table_asked r))) e) in
    let x =
    passed_parts Broken (not (tables.formed t r.used)) ((Unused when not (both_used r.used (table_asked r))) ∷ (Full when leb pairs_max t.count) ∷ []) v in
    let y = passed_parts Unused (not (both_used r.used (table_asked r))) ((Full when leb pairs_max t.count) ∷ []) x.1 in
    let z = passed_parts Full (leb pairs_max t.count) [] y.1 in
    let few : t.count < pairs_max = leb-false pairs_max t.count z.0 in
    let u = more_used r.used n (table_asked r) most (not-false (both_used r.used (table_asked r)) y.0) in
    let done : table_after t r ≡ with_pair t r.symbol r.factor r.base = rw v in
    let grown = with_pair t r.symbol r.factor r.base in
    let made : Whole n grown =
    (form_formed grown n (form_more t r.symbol r.factor r.base g.1 few n (form t n g.0) u), sized_more t r.symbol r.factor r.base g.1 few) in
    (subst (Whole n) (sym done) made, ap listed done ∙ listed_more t r.symbol r.factor r.base g.1 few)

module _ (n : ℕ) (rs : List TableRequest) (t : ConversionTable) (g : tables.formed t n ≡ true) (bytes : length t.pairs ≡ pair_bytes * pairs_max)
    (all : Every (λ (r : TableRequest). r.used ≤ n) rs) where
  end : Whole n (table_after_all t rs) × (listed (table_after_all t rs) ≡ table_accepted_pairs t rs)
  end =
      run table_after table_accepts (λ (r : TableRequest). table_asked r ∷ []) (Whole n) (λ (r : TableRequest). r.used ≤ n) listed table_stays (table_grows n) rs t
      (g, bytes) all

  -- the table at the end is in form, and lists the accepted pairs
  pub table_run : (tables.formed (table_after_all t rs) n ≡ true) × (listed (table_after_all t rs) ≡ table_accepted_pairs t rs)
  table_run = (end.0.0, end.1)

  -- its groups are theirs
  pub table_groups : n ≤ names_max → (a b : ℕ) → a < names_max → b < names_max
      → (root_of names_max (listed (table_after_all t rs)) a ≡ root_of names_max (listed (table_after_all t rs)) b) ↔ Joined (table_accepted_pairs t rs) a b
  table_groups few a b la lb =
      let w : Within n (listed (table_after_all t rs)) = form_within (table_after_all t rs) n (form (table_after_all t rs) n end.0.0) in
      subst (λ (ps : List Pair). (root_of names_max ps a ≡ root_of names_max ps b) ↔ Joined (table_accepted_pairs t rs) a b) (sym end.1)
      (groups names_max (table_accepted_pairs t rs) (within_all n names_max few (table_accepted_pairs t rs) (subst (Within n) end.1 w)) a b la lb)

-- ---- of a page

-- a page in form is so without names, too
pub form_all : (page : List ℕ) (n : ℕ) → n ≤ names_max → formed page n ≡ true → formed page names_max ≡ true
unfolding formed
form_all page n few e =
    let a = and_true (holds page) (tables.formed (table_in page) n) e in
    let f = form (table_in page) n a.1 in
    rw a.0 (form_formed (table_in page) names_max (record {
      few = f.few;
      given = f.given;
      used =
          all_each (table_in page).count (used_at (table_in page).pairs names_max)
          (λ i l. more_used n names_max (pair_at (table_in page).pairs i) few (all_at (used_at (table_in page).pairs n) (table_in page).count i f.used l));
    }))

page_stays : (page : List ℕ) (r : Request) → accepts page r ≡ false → after page r ≡ page
unfolding page_after
page_stays page r e =
    sym (kept (pair_verdict page r.names (asked r)) (with_table page (with_pair (table_in page) r.symbol r.factor r.base)) page (not-false (is_err (pair_verdict page r.names (asked r))) e))

-- what holds where no refusal applies
record Taken (page : List ℕ) (r : Request) : Type 0 where
  few : count_of page < pairs_max
  room : size_of (count_of page + 1) ≤ length page
  named : lent_broken r.names ≡ false
  form! : formed page (used_of r.names) ≡ true
  used : both_used (used_of r.names) (asked r) ≡ true
  done : after page r ≡ with_table page (with_pair (table_in page) r.symbol r.factor r.base)

taken : (page : List ℕ) (r : Request) → accepts page r ≡ true → Taken page r
unfolding pair_verdict page_after
taken page r e =
    let n = used_of r.names in
    let v : pair_verdict page r.names (asked r) ≡ (Ok tt) =
    passed_is (pair_verdict page r.names (asked r)) (not-true (is_err (pair_verdict page r.names (asked r))) e) in
    let last = (Full when ltb (length page) (size_of (count_of page + 1))) ∷ [] in
    let x =
    passed_parts Broken (table_broken page r.names) ((Unused when not (both_used n (asked r))) ∷ (Full when leb pairs_max (count_of page)) ∷ last) v in
    let y = passed_parts Unused (not (both_used n (asked r))) ((Full when leb pairs_max (count_of page)) ∷ last) x.1 in
    let z = passed_parts Full (leb pairs_max (count_of page)) last y.1 in
    let o = passed_parts Full (ltb (length page) (size_of (count_of page + 1))) [] z.1 in
    record {
      few = leb-false pairs_max (count_of page) z.0;
      room = ltb-false (length page) (size_of (count_of page + 1)) o.0;
      named = (unbroken page r.names x.0).0;
      form! = (unbroken page r.names x.0).1;
      used = not-false (both_used n (asked r)) y.0;
      done = rw v;
    }

-- what is accepted is accepted into a page in form
pub accepted_formed : (page : List ℕ) (r : Request) → accepts page r ≡ true → formed page (used_of r.names) ≡ true
accepted_formed page r e = (taken page r e).form!

-- zeros behind a table are zeros behind one of one pair more
zeros_more : (page : List ℕ) → holds page ≡ true → zeros (drop (size_of (count_of page + 1)) page) ≡ true
zeros_more page h =
    let e : size_of (count_of page + 1) ≡ size_of (count_of page) + pair_bytes = omega arith in
    rw (e, ← drop-drop pair_bytes (size_of (count_of page)) page) (zeros_drop (drop (size_of (count_of page)) page) pair_bytes (held_zeros page h))

-- what an insertion that is not refused leaves
module _ (page : List ℕ) (r : Request) (n : ℕ) (g : formed page n ≡ true) (lends : UsesAtMost n r) (e : accepts page r ≡ true) where
  k : Taken page r
  k = taken page r e

  sized : length (table_in page).pairs ≡ pair_bytes * pairs_max
  unfolding table_in
  sized = length_pad (pair_bytes * pairs_max) 0 (bodies_in page)

  few : (table_in page).count < pairs_max
  unfolding table_in
  few = k.few

  grown : ConversionTable
  grown = with_pair (table_in page) r.symbol r.factor r.base

  grown_count : grown.count ≡ count_of page + 1
  unfolding grown with_pair table_in
  grown_count = refl

  grown_form : Form grown n
  unfolding grown
  grown_form =
      form_more (table_in page) r.symbol r.factor r.base sized few n (formed_parts page n g).1
      (more_used (used_of r.names) n (asked r) (lends k.named) k.used)

  grown_sized : length grown.pairs ≡ pair_bytes * pairs_max
  unfolding grown
  grown_sized = sized_more (table_in page) r.symbol r.factor r.base sized few

  room : size_of grown.count ≤ length page
  room = rw grown_count k.room

  done : after page r ≡ with_table page grown
  unfolding grown
  done = k.done

  -- the page is in form
  pub added_formed : formed (after page r) n ≡ true
  added_formed = rw done (written_formed page grown n grown_form grown_sized room (rw grown_count (zeros_more page (formed_parts page n g).0)))

  -- its pairs are those that there were, and the new one
  pub added_listed : listed_in (after page r) ≡ listed_in page ++ (asked r ∷ [])
  added_listed =
      rw done (written_listed page grown n grown_form grown_sized room ∙ unfold grown in (listed_more (table_in page) r.symbol r.factor r.base sized few))

  -- what stands behind the places that a table can take stays
  added_far : (length (after page r) ≡ length page) × (drop table_max (after page r) ≡ drop table_max page)
  added_far =
      let at_most : size_of grown.count ≤ table_max = omega (arith, grown_count, k.few) in
      (rw done (written_length page grown n grown_form grown_sized room), rw done (written_far page grown n grown_form grown_sized room table_max at_most))

  pub added_count : count_of (after page r) ≡ count_of page + 1
  added_count = rw done (written_count page grown n grown_form grown_sized room ∙ grown_count)

  -- its bytes are those that there were, and the new one's: the factor's too
  pub added_bodies : bodies_in (after page r) ≡ bodies_in page ++ body_asked r
  added_bodies =
      rw done (written_bodies page grown n grown_form grown_sized room ∙ unfold grown in (bodies_more page r.symbol r.factor r.base (formed_held page n g) k.few))

-- ---- any list of requests with at most n numbers in use: every number where no names are lent

module _ (n : ℕ) (rs : List Request) (page : List ℕ) (g : formed page n ≡ true) (all : Every (UsesAtMost n) rs) where
  -- the page at the end is in form, and lists the accepted pairs
  pub page_run : (formed (page_after_all page rs) n ≡ true) × (listed_in (page_after_all page rs) ≡ accepted_pairs page rs)
  page_run =
      run after accepts (λ (r : Request). asked r ∷ []) (λ (p : List ℕ). formed p n ≡ true) (UsesAtMost n) listed_in page_stays
      (λ p r f l e. (added_formed p r n f l e, added_listed p r n f l e)) rs page g all

  -- the bytes of its pairs are those of the start and of the accepted requests, factors included
  pub page_bodies : bodies_in (page_after_all page rs) ≡ bodies_in page ++ taken_by after accepts body_asked page rs
  page_bodies =
      (run after accepts body_asked (λ (p : List ℕ). formed p n ≡ true) (UsesAtMost n) bodies_in page_stays
      (λ p r f l e. (added_formed p r n f l e, added_bodies p r n f l e)) rs page g all).1

-- ---- the bytes behind a table

-- whatever is asked for, no byte behind the places that a table can take changes, and the page keeps its length
pub run_far : (rs : List Request) (page : List ℕ)
    → (length (page_after_all page rs) ≡ length page) × (drop table_max (page_after_all page rs) ≡ drop table_max page)
run_far [] page = (refl, refl)
run_far (r ∷ rs) page = go (accepts page r) refl (run_far rs (after page r))
  where
    go : (d : Bool) → accepts page r ≡ d
        → (length (page_after_all (after page r) rs) ≡ length (after page r)) × (drop table_max (page_after_all (after page r) rs) ≡ drop table_max (after page r))
        → (length (page_after_all (after page r) rs) ≡ length page) × (drop table_max (page_after_all (after page r) rs) ≡ drop table_max page)
    go true e ih =
        let f = added_far page r (used_of r.names) (accepted_formed page r e) (λ _. le_refl (used_of r.names)) e in
        (ih.0 ∙ f.0, ih.1 ∙ f.1)
    go false e ih = let s = page_stays page r e in (ih.0 ∙ ap length s, ih.1 ∙ ap (drop table_max) s)

-- no request has more names than there can be
pub all_lend : (rs : List Request) → Every (UsesAtMost names_max) rs
all_lend [] = tt
all_lend (r ∷ rs) = (used_few r.names, all_lend rs)

pub page_within : (page : List ℕ) (n : ℕ) → formed page n ≡ true → Within n (listed_in page)
page_within page n g = form_within (table_in page) n (formed_parts page n g).1

module _ (rs : List Request) (page : List ℕ) (g : formed page names_max ≡ true) where
  end_run : (formed (page_after_all page rs) names_max ≡ true) × (listed_in (page_after_all page rs) ≡ accepted_pairs page rs)
  end_run = page_run names_max rs page g (all_lend rs)

  -- whatever names are lent, the accepted pairs are listed at the end
  pub run_listed : listed_in (page_after_all page rs) ≡ accepted_pairs page rs
  run_listed = end_run.1

  pub run_within : Within names_max (accepted_pairs page rs)
  run_within = subst (Within names_max) run_listed (page_within (page_after_all page rs) names_max end_run.0)

  -- the groups at the end are those of the accepted pairs
  pub page_groups : (a b : ℕ) → a < names_max → b < names_max
      → (root_of names_max (listed_in (page_after_all page rs)) a ≡ root_of names_max (listed_in (page_after_all page rs)) b) ↔ Joined (accepted_pairs page rs) a b
  page_groups a b la lb =
      subst (λ (ps : List Pair). (root_of names_max ps a ≡ root_of names_max ps b) ↔ Joined (accepted_pairs page rs) a b) (sym run_listed)
      (groups names_max (accepted_pairs page rs) run_within a b la lb)

-- in a page in form as many steps as there are joining pairs lead to the root
pub page_short : (page : List ℕ) (j : ℕ) → formed page names_max ≡ true → Joining [] (listed_in page) j → (s : ℕ) → s < names_max
    → walk j (parents_in page) s ≡ root_of names_max (listed_in page) s
unfolding table_in
page_short page j g c s l =
    let p : parents_in page ≡ parents_of names_max (listed_in page) = (formed_parts page names_max g).1.given in
    rw p (walk_short names_max (listed_in page) j (page_within page names_max g) c s l)

-- ---- what the call for a root answers

root_inside : {x y : ℕ} → ◌≡◌ {A = Result ℕ Refusal} (Ok x) (Ok y) → x ≡ y
root_inside e = cc

-- two symbols that are not refused have one root exactly if they are in one group of the accepted pairs
pub run_roots : (rs : List Request) (page : List ℕ) (names : Option (List ℕ)) (a b : ℕ) → formed page names_max ≡ true
    → symbol_verdict (page_after_all page rs) names a ≡ Ok tt → symbol_verdict (page_after_all page rs) names b ≡ Ok tt
    → (root_answer (page_after_all page rs) names a ≡ root_answer (page_after_all page rs) names b) ↔ Joined (accepted_pairs page rs) a b
unfolding root_answer
run_roots rs page names a b g va vb =
    let end = page_after_all page rs in
    let below : (s : ℕ) → symbol_verdict end names s ≡ Ok tt → s < names_max = λ s v. symbol_below end names s v in
    let law = page_groups rs page g a b (below a va) (below b vb) in
    rw (va, vb) (λ e. law.0 (root_inside e), λ j. ap Ok (law.1 j))
