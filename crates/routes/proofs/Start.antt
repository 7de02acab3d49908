-- A table that is in form after any insertions was so at the start, since a refused insertion changes nothing and none is accepted into
-- a table that is not in form (`start_formed_by`); so the route rule holds of any start (`route_rule_any`). Assumes nothing.
use Rattle.std.proofs.Common.{Option, is_err}
use mathlib.Core.Path.{◌≡◌, refl, ap, ◌∙◌}
use mathlib.Core.Bool.{Bool, true, false, not}
use mathlib.Core.List.{List, [], ◌∷◌}
use Prim.Native.Nat.{ℕ, ◌+◌}
use lib.Dec.{leb, ltb}
use lib.ListN.{length}
use borrow.Author.Tests.{not-true, not-false}
use Rattle.refusals.specs.Lowest.{◌when◌}
use Rattle.refusals.specs.declared.Refusal.TheVariants.{Broken, Unused, Full}
use Rattle.refusals.proofs.Lowest.{passed_parts, passed_is, kept}
use Rattle.pages.specs.Bytes.{count_of}
use Rattle.names.specs.Table.{names_max}
use Rattle.names.specs.Calls.{used_of}
use Rattle.names.proofs.Calls.{used_few}
use Rattle.pairs.specs.Table.{pairs_max, both_used, with_pair}
use Rattle.pairs.specs.Page.{size_of, table_in, formed, with_table}
use Rattle.pairs.specs.Calls.{table_broken, pair_verdict, page_after}
use Rattle.pairs.specs.Runs.{Request, asked, accepts, after, page_after_all}
use Rattle.pairs.proofs.Calls.{unbroken}
use Rattle.pairs.proofs.Run.{accepted_formed, form_all}
use Rattle.routes.specs.Rule.{RouteRule}
use Rattle.routes.proofs.Rule.{route_rule}

-- a refused insertion leaves the page as it was
stays : (page : List ℕ) (r : Request) → accepts page r ≡ false → page ≡ after page r
unfolding page_after
stays page r e =
    let v = pair_verdict page r.names (asked r) in
    kept v (with_table page (with_pair (table_in page) r.symbol r.factor r.base)) page (not-false (is_err v) e)

-- one is accepted only into a page in form
takes_formed : (page : List ℕ) (r : Request) → accepts page r ≡ true → formed page names_max ≡ true
unfolding pair_verdict
takes_formed page r e =
    let n = used_of r.names in
    let v = passed_is (pair_verdict page r.names (asked r)) (not-true (is_err (pair_verdict page r.names (asked r))) e) in
    let last = (Full when ltb (length page) (size_of (count_of page + 1))) ∷ [] in
    let p = passed_parts Broken (table_broken page r.names) ((Unused when not (both_used n (asked r))) ∷ (Full when leb pairs_max (count_of page)) ∷ last) v in
    form_all page n (used_few r.names (unbroken page r.names p.0).0) (accepted_formed page r e)

pub start_formed_by : (rs : List Request) (page : List ℕ) → formed (page_after_all page rs) names_max ≡ true → formed page names_max ≡ true
start_formed_by [] page h = h
start_formed_by (r ∷ rs) page h = go (accepts page r) refl (start_formed_by rs (after page r) h)
  where
    go : (b : Bool) → accepts page r ≡ b → formed (after page r) names_max ≡ true → formed page names_max ≡ true
    go true e g = takes_formed page r e
    go false e g = ap (λ (p : List ℕ). formed p names_max) (stays page r e) ∙ g

-- the route rule, of any start
pub route_rule_any : (start : List ℕ) (requests : List Request) (names : Option (List ℕ)) → table_broken (page_after_all start requests) names ≡ false
    → RouteRule start requests names
route_rule_any start requests names sound =
    let end = page_after_all start requests in
    let u = unbroken end names sound in
    route_rule start (start_formed_by requests start (form_all end (used_of names) (used_few names u.0) u.1)) requests names sound
