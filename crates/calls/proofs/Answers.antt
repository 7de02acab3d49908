-- An answer as bytes: how they are made, and that its unit takes no more places than a unit has. Assumes nothing.
use Rattle.units.specs.declared.Unit.{Unit}
use Rattle.std.proofs.Common.{Result, Ok, Err, Option, IfOk, Some}
use Rattle.refusals.specs.declared.Refusal.{Refusal}
use mathlib.Core.Path.{◌≡◌, refl, ap, ◌∙◌}
use mathlib.Core.Bool.{Bool, true, false, ◌&&◌, ◌||◌, not, cond}
use mathlib.Core.List.{List, [], ◌∷◌, ◌++◌}
use Prim.Native.Nat.{ℕ, ◌+◌, ◌/◌, ◌%◌, ◌≤◌}
use native.Mathlib.Omega.{arith}
use lib.Dec.{eqb}
use lib.ListN.{length, replicate, length-append, length-replicate}
use Rattle.refusals.specs.Lowest.{◌when◌, guarded}
use Rattle.refusals.specs.declared.Refusal.TheVariants.{Undefined, Broken}
use Rattle.refusals.specs.Numbers.{Verdict}
use Rattle.refusals.proofs.Lowest.{passed_parts}
use Rattle.pages.specs.Bytes.{put}
use Rattle.pages.proofs.Put.{put_append, put_whole}
use Rattle.names.specs.Table.{names_max}
use Rattle.names.specs.Calls.{used_of}
use Rattle.kinds.specs.Kinds.{is_union}
use Rattle.types.specs.Types.{kind_of}
use Rattle.types.specs.Calls.{store_broken}
use Rattle.matching.specs.declared.Checked.{Checked}
use Rattle.units.specs.Unit.{places_max}
use Rattle.units.specs.Calls.{terms_of, product_answer, unitless}
use Rattle.units.proofs.Form.{formed_length, length_terms}
use Rattle.units.proofs.Calls.{result_few}
use Rattle.pairs.specs.Calls.{table_broken}
use Rattle.sums.specs.Calls.{or_empty}
use Rattle.operators.specs.Operators.{is_operator, minus, unit_rule}
use Rattle.operators.specs.declared.UnitRule.TheVariants.{Adopted, Multiplied, Divided, Ignored, Compared}
use Rattle.operators.specs.Outcome.{number_of, passes, count_of, first_of, second_of, failing_of, left_of, right_of}
use Rattle.operators.specs.declared.Errors.{Errors}
use Rattle.operators.specs.declared.Outcome.{Outcome}
use Rattle.unary.specs.Unary.{check_unary}
use Rattle.indexing.specs.Indexing.{check_index}
use Rattle.answers.specs.Units.{no_unit, adopted_by, combined, binary_unit, negation_unit, unit_by, of_product}
use Rattle.answers.specs.Calls.{operand_formed, operand_conditions, binary_verdict, with_unit, binary_checked, binary_answer, concluded_by, unary_verdict, unary_unit, unary_concluded, unary_checked, unary_answer, keyed, index_verdict, index_answer, beside, answered}
use Rattle.answers.specs.declared.CheckedExpr.{CheckedExpr}
use Rattle.answers.specs.declared.Answered.{Answered}
use Rattle.answers.proofs.Calls.{passed_formed}
use Rattle.calls.specs.Answers.{bytes_of_errors}
use Rattle.operators.specs.declared.UnitRule.{UnitRule}

-- bytes in their places, those of errors and a unit, or those of an answer and a count
pub both_made : {n m : ℕ} (e u : List ℕ) → length e ≡ n → length u ≡ m → put (put (replicate (n + m) 0) 0 e) n u ≡ e ++ u
both_made {n = n} {m = m} e u h k =
    let at : n ≡ 0 + length e = omega (arith, h) in
    let l : length (e ++ u) ≡ length (replicate {A = ℕ} (n + m) 0) = length-append e u ∙ omega (arith, h, k, length-replicate {A = ℕ} (n + m) 0) in
    ap (λ (i : ℕ). put (put (replicate (n + m) 0) 0 e) i u) at
    ∙ put_append (replicate (n + m) 0) 0 e u (omega (arith, h, k, l, length-append e u))
    ∙ put_whole (replicate (n + m) 0) (e ++ u) l

-- the bytes of errors, one after another
pub errors_said : (e : Errors)
    → count_of e % 256 ∷ first_of e % 256 ∷ second_of e % 256
    ∷ failing_of e / 16777216 % 256 ∷ failing_of e / 65536 % 256 ∷ failing_of e / 256 % 256 ∷ failing_of e % 256
    ∷ left_of e / 256 % 256 ∷ left_of e % 256 ∷ right_of e / 256 % 256 ∷ right_of e % 256 ∷ []
    ≡ bytes_of_errors e
unfolding bytes_of_errors
errors_said e =
    let lowest : (n : ℕ) → n / 1 % 256 ≡ n % 256 = λ n. omega arith in
    rw (lowest (count_of e), lowest (first_of e), lowest (second_of e), lowest (failing_of e), lowest (left_of e), lowest (right_of e)) refl

-- a unit, or none, that takes few enough places
abbrev pub Few : Option Unit → Type 0
Few m = (or_empty m).count ≤ places_max

few_none : Few no_unit
few_none = omega arith

formed_few : (x : CheckedExpr) → operand_formed x ≡ true → Few x.unit
formed_few x h =
    let u = or_empty x.unit in
    rw (length_terms u.count 0 u.symbols u.exponents) at (formed_length places_max names_max (terms_of u) h)

-- one of two units
few_either : (b : Bool) (l r : Option Unit) → Few l → Few r → Few (cond b l r)
few_either true l r p q = p
few_either false l r p q = q

-- ---- units of binary operators

few_adopted : (l r : Option Unit) → Few l → Few r → Few (adopted_by l r)
unfolding adopted_by
few_adopted l r p q =
    few_either (unitless l) (cond (unitless r) no_unit r) l (few_either (unitless r) no_unit r few_none q) p

few_combined : (d : Bool) (l r : Option Unit) → IfOk (combined d l r) Few
unfolding combined
few_combined d l r = go (product_answer d (or_empty l) (or_empty r)) (result_few d (or_empty l) (or_empty r))
  where
    go : (p : Result Unit Refusal) → IfOk p (λ u. u.count ≤ places_max) → IfOk (of_product p) Few
    go (Ok u) h = few_either (eqb u.count 0) no_unit (Some u) few_none h
    go (Err q) h = tt

few_binary : (op : ℕ) (l r : Option Unit) → Few l → Few r → IfOk (binary_unit op l r) Few
unfolding binary_unit
few_binary op l r p q = go (unit_rule op)
  where
    go : (rule : UnitRule) → IfOk (unit_by rule l r) Few
    go Ignored = few_none
    go Adopted = few_adopted l r p q
    go Multiplied = few_combined false l r
    go Divided = few_combined true l r
    go Compared = few_none

-- an answer whose unit does
abbrev pub FewOk : Result Answered Refusal → Type 0
FewOk a = IfOk a (λ x. Few x.unit)

few_guarded : (v : Verdict) (a : Result Answered Refusal) → (v ≡ Ok tt → FewOk a) → FewOk (guarded v a)
few_guarded (Ok _) a h = h refl
few_guarded (Err r) a h = tt

few_with : (o : Outcome) (u : Result (Option Unit) Refusal) → IfOk u Few → FewOk (with_unit o u)
unfolding with_unit
few_with o u h = go (passes o) u h
  where
    go : (b : Bool) (m : Result (Option Unit) Refusal) → IfOk m Few → FewOk (cond b (beside o m) (Ok (answered o no_unit)))
    go true (Ok m) k = k
    go true (Err r) k = tt
    go false m k = few_none

-- ---- what the calls answer

pub binary_few : (page : List ℕ) (names : Option (List ℕ)) (pairs : List ℕ) (op : ℕ) (left right : CheckedExpr)
    → FewOk (binary_answer page names pairs op left right)
unfolding binary_answer binary_checked
binary_few page names pairs op left right =
    few_guarded (binary_verdict page names pairs op left right) _
    (λ v.
    let rest = operand_conditions page (used_of names) left right in
    let broken = store_broken page names || table_broken pairs names in
    let a = passed_parts Undefined (not (is_operator op)) ((Broken when broken) ∷ rest) v in
    let b = passed_parts Broken broken rest a.1 in
    let f = passed_formed page (used_of names) left right b.1 in
    few_with _ (binary_unit op left.unit right.unit) (few_binary op left.unit right.unit (formed_few left f.0) (formed_few right f.1)))

few_negated : (store : List ℕ) (op : ℕ) (o : Outcome) (u : Option Unit) → Few u → Few (unary_unit store op o u)
unfolding unary_unit negation_unit
few_negated store op o u h =
    let union = is_union (kind_of store (number_of o.checked)) in
    few_either (eqb op minus && passes o) (cond union no_unit u) no_unit (few_either union no_unit u few_none h) few_none

few_unary : (r : Result Outcome Refusal) (store : List ℕ) (op : ℕ) (u : Option Unit) → Few u → FewOk (unary_concluded r store op u)
few_unary (Ok o) store op u h = few_negated store op o u h
few_unary (Err r) store op u h = tt

pub unary_few : (page : List ℕ) (names : Option (List ℕ)) (op : ℕ) (x : CheckedExpr) → FewOk (unary_answer page names op x)
unfolding unary_answer
unary_few page names op x =
    let q = check_unary page op x.checked in
    let rest = operand_conditions page (used_of names) x x in
    few_guarded (unary_verdict page names op x) (unary_checked q op x.unit)
    (λ v.
    let a = passed_parts Undefined (not (is_operator op)) ((Broken when store_broken page names) ∷ rest) v in
    let b = passed_parts Broken (store_broken page names) rest a.1 in
    few_unary q.conclusion q.store op x.unit (formed_few x (passed_formed page (used_of names) x x b.1).0))

few_index : (r : Result Outcome Refusal) (u : Option Unit) → Few u → FewOk (concluded_by r u)
few_index (Ok o) u h = h
few_index (Err r) u h = tt

pub index_few : (page : List ℕ) (names : Option (List ℕ)) (target : CheckedExpr) (key : Checked) → FewOk (index_answer page names target key)
unfolding index_answer
index_few page names target key =
    let r = (check_index page key target.checked).conclusion in
    let rest = operand_conditions page (used_of names) target (keyed key) in
    few_guarded (index_verdict page names target key) (concluded_by r target.unit)
    (λ v.
    let b = passed_parts Broken (store_broken page names) rest v in
    few_index r target.unit (formed_few target (passed_formed page (used_of names) target (keyed key) b.1).0))
