use Rattle.std.specs.Prelude.{option_copied}
use Rattle.std.proofs.lemmas.Result.{err_from_is_err_and}
use mathlib.Core.Path.{◌≡◌, ◌∙◌}
use Prim.Native.Nat.{ℕ}
use native.Mathlib.Omega.{arith}
use Rattle.names.specs.Calls.{used_of}
use Rattle.groups.specs.Groups.{walk}
use Rattle.pairs.proofs.Page.{formed_held}
use Rattle.pairs.proofs.Calls.{root_in}
use Rattle.sums.specs.Calls.{roots_in}
use Rattle.routes.specs.Run.{formula_lent}
use Rattle.routes.proofs.Run.{left_refused, both_store, right_refused, unconverted, converted, store_grown, both_grown}
use Rattle.routes.proofs.compare_after.Goals as goal

pub parents_of-parents-requires : goal.parents_of-parents-requires
parents_of-parents-requires c = formed_held c.args.table.now (used_of (option_copied c.args.names)) c.requires.form

pub count-requires : goal.count-requires
count-requires c = let h = formed_held c.args.table.now (used_of (option_copied c.args.names)) c.requires.form in omega (arith, h.room)

pub returns-in_err-x-clause-value : goal.returns-in_err-x-clause-value
returns-in_err-x-clause-value c =
    let a = c.args in
    let names = option_copied a.names in
    let f = formula_lent a.left.nodes.now a.left.root in
    let g = formula_lent a.right.nodes.now a.right.root in
    let same : (s : ℕ) → walk c.count.result c.parents_of-parents.result s ≡ roots_in a.table.now s =
    λ s. rw c.parents_of-parents.ensures.0 (root_in a.table.now (used_of names) c.count.result s c.requires.form c.count.ensures.0) in
    let p = err_from_is_err_and c.from_residual.result c.from_residual.ensures.1 in
    let x = rw c.nodes_lent-first.ensures at c.formula_checked.ensures.value in
    rw (p.1, p.2) (left_refused a.page.now a.table.now names f g a.used c.requires.names (walk c.count.result c.parents_of-parents.result) same c.formula_checked.result x _ c.in_err-x.was).0

pub returns-in_err-x-clause-page_after : goal.returns-in_err-x-clause-page_after
returns-in_err-x-clause-page_after c =
    let a = c.args in
    let names = option_copied a.names in
    let f = formula_lent a.left.nodes.now a.left.root in
    let g = formula_lent a.right.nodes.now a.right.root in
    let same : (s : ℕ) → walk c.count.result c.parents_of-parents.result s ≡ roots_in a.table.now s =
    λ s. rw c.parents_of-parents.ensures.0 (root_in a.table.now (used_of names) c.count.result s c.requires.form c.count.ensures.0) in
    let x = rw c.nodes_lent-first.ensures at c.formula_checked.ensures.value in
    rw c.nodes_lent-first.ensures at c.formula_checked.ensures.page_after ∙ (left_refused a.page.now a.table.now names f g a.used c.requires.names (walk c.count.result c.parents_of-parents.result) same c.formula_checked.result x _ c.in_err-x.was).1

pub returns-in_err-x-clause-grown : goal.returns-in_err-x-clause-grown
returns-in_err-x-clause-grown c =
    let m = c.requires.measured in
    ((store_grown c.args.used _ c.args.page.now m.held.sound _ c.args.left.root _ c.formula_checked.ensures.page_after).0, c.formula_checked.ensures.measured)

pub returns-in_err-y-clause-value : goal.returns-in_err-y-clause-value
returns-in_err-y-clause-value c =
    let a = c.args in
    let names = option_copied a.names in
    let f = formula_lent a.left.nodes.now a.left.root in
    let g = formula_lent a.right.nodes.now a.right.root in
    let same : (s : ℕ) → walk c.count.result c.parents_of-parents.result s ≡ roots_in a.table.now s =
    λ s. rw c.parents_of-parents.ensures.0 (root_in a.table.now (used_of names) c.count.result s c.requires.form c.count.ensures.0) in
    let p = err_from_is_err_and c.from_residual-in_err-y.result c.from_residual-in_err-y.ensures.1 in
    let x = rw c.nodes_lent-first.ensures at c.formula_checked.ensures.value in
    let y = rw (c.nodes_lent-second.ensures, c.formula_checked.ensures.page_after, c.nodes_lent-first.ensures) at c.formula_checked-2.ensures.value in
    rw (p.1, p.2) (right_refused a.page.now a.table.now names f g a.used c.requires.names (walk c.count.result c.parents_of-parents.result) same c.formula_checked.result x _ c.in_ok-x.was c.formula_checked-2.result y _ c.in_err-y.was)

pub returns-in_err-y-clause-page_after : goal.returns-in_err-y-clause-page_after
returns-in_err-y-clause-page_after c =
    let a = c.args in
    let names = option_copied a.names in
    let f = formula_lent a.left.nodes.now a.left.root in
    let g = formula_lent a.right.nodes.now a.right.root in
    let same : (s : ℕ) → walk c.count.result c.parents_of-parents.result s ≡ roots_in a.table.now s =
    λ s. rw c.parents_of-parents.ensures.0 (root_in a.table.now (used_of names) c.count.result s c.requires.form c.count.ensures.0) in
    let x = rw c.nodes_lent-first.ensures at c.formula_checked.ensures.value in
    rw (c.nodes_lent-second.ensures, c.formula_checked.ensures.page_after, c.nodes_lent-first.ensures) at c.formula_checked-2.ensures.page_after
    ∙ both_store a.page.now a.table.now names f g a.used c.requires.names (walk c.count.result c.parents_of-parents.result) same c.formula_checked.result x _ c.in_ok-x.was

pub returns-in_err-y-clause-grown : goal.returns-in_err-y-clause-grown
returns-in_err-y-clause-grown c =
    let m = c.requires.measured in (
      both_grown c.args.used _ c.args.page.now m.held.sound _ _ c.args.left.root c.args.right.root _ _ c.formula_checked.ensures.page_after
          c.formula_checked-2.ensures.page_after,
      c.formula_checked-2.ensures.measured,
    )

pub returns-in_err-convertible-clause-page_after : goal.returns-in_err-convertible-clause-page_after
returns-in_err-convertible-clause-page_after c =
    let a = c.args in
    let names = option_copied a.names in
    let f = formula_lent a.left.nodes.now a.left.root in
    let g = formula_lent a.right.nodes.now a.right.root in
    let same : (s : ℕ) → walk c.count.result c.parents_of-parents.result s ≡ roots_in a.table.now s =
    λ s. rw c.parents_of-parents.ensures.0 (root_in a.table.now (used_of names) c.count.result s c.requires.form c.count.ensures.0) in
    let x = rw c.nodes_lent-first.ensures at c.formula_checked.ensures.value in
    rw (c.nodes_lent-second.ensures, c.formula_checked.ensures.page_after, c.nodes_lent-first.ensures) at c.formula_checked-2.ensures.page_after
    ∙ both_store a.page.now a.table.now names f g a.used c.requires.names (walk c.count.result c.parents_of-parents.result) same c.formula_checked.result x _ c.in_ok-x.was

pub returns-in_err-convertible-clause-grown : goal.returns-in_err-convertible-clause-grown
returns-in_err-convertible-clause-grown c =
    let m = c.requires.measured in (
      both_grown c.args.used _ c.args.page.now m.held.sound _ _ c.args.left.root c.args.right.root _ _ c.formula_checked.ensures.page_after
          c.formula_checked-2.ensures.page_after,
      c.formula_checked-2.ensures.measured,
    )

pub returns-clause-page_after : goal.returns-clause-page_after
returns-clause-page_after c =
    let a = c.args in
    let names = option_copied a.names in
    let f = formula_lent a.left.nodes.now a.left.root in
    let g = formula_lent a.right.nodes.now a.right.root in
    let same : (s : ℕ) → walk c.count.result c.parents_of-parents.result s ≡ roots_in a.table.now s =
    λ s. rw c.parents_of-parents.ensures.0 (root_in a.table.now (used_of names) c.count.result s c.requires.form c.count.ensures.0) in
    let x = rw c.nodes_lent-first.ensures at c.formula_checked.ensures.value in
    rw (c.nodes_lent-second.ensures, c.formula_checked.ensures.page_after, c.nodes_lent-first.ensures) at c.formula_checked-2.ensures.page_after
    ∙ both_store a.page.now a.table.now names f g a.used c.requires.names (walk c.count.result c.parents_of-parents.result) same c.formula_checked.result x _ c.in_ok-x.was

pub returns-clause-grown : goal.returns-clause-grown
returns-clause-grown c =
    let m = c.requires.measured in (
      both_grown c.args.used _ c.args.page.now m.held.sound _ _ c.args.left.root c.args.right.root _ _ c.formula_checked.ensures.page_after
          c.formula_checked-2.ensures.page_after,
      c.formula_checked-2.ensures.measured,
    )

pub returns-in_err-convertible-clause-value : goal.returns-in_err-convertible-clause-value
returns-in_err-convertible-clause-value c =
    let a = c.args in
    let names = option_copied a.names in
    let f = formula_lent a.left.nodes.now a.left.root in
    let g = formula_lent a.right.nodes.now a.right.root in
    let same : (s : ℕ) → walk c.count.result c.parents_of-parents.result s ≡ roots_in a.table.now s =
    λ s. rw c.parents_of-parents.ensures.0 (root_in a.table.now (used_of names) c.count.result s c.requires.form c.count.ensures.0) in
    let p = err_from_is_err_and c.from_residual-in_err-convertible.result c.from_residual-in_err-convertible.ensures.1 in
    let x = rw c.nodes_lent-first.ensures at c.formula_checked.ensures.value in
    let y = rw (c.nodes_lent-second.ensures, c.formula_checked.ensures.page_after, c.nodes_lent-first.ensures) at c.formula_checked-2.ensures.value in
    rw (p.1, p.2)
    (unconverted a.page.now a.table.now names f g a.used c.requires.names (walk c.count.result c.parents_of-parents.result) same c.formula_checked.result x _ c.in_ok-x.was c.formula_checked-2.result y _ c.in_ok-y.was c.is_convertible_to.result c.is_convertible_to.ensures
    _ c.in_err-convertible.was)

pub returns-clause-value : goal.returns-clause-value
returns-clause-value c =
    let a = c.args in
    let names = option_copied a.names in
    let f = formula_lent a.left.nodes.now a.left.root in
    let g = formula_lent a.right.nodes.now a.right.root in
    let same : (s : ℕ) → walk c.count.result c.parents_of-parents.result s ≡ roots_in a.table.now s =
    λ s. rw c.parents_of-parents.ensures.0 (root_in a.table.now (used_of names) c.count.result s c.requires.form c.count.ensures.0) in
    let x = rw c.nodes_lent-first.ensures at c.formula_checked.ensures.value in
    let y = rw (c.nodes_lent-second.ensures, c.formula_checked.ensures.page_after, c.nodes_lent-first.ensures) at c.formula_checked-2.ensures.value in
    converted a.page.now a.table.now names f g a.used c.requires.names (walk c.count.result c.parents_of-parents.result) same c.formula_checked.result x _ c.in_ok-x.was c.formula_checked-2.result y _ c.in_ok-y.was c.is_convertible_to.result c.is_convertible_to.ensures
    _ c.in_ok-convertible.was
