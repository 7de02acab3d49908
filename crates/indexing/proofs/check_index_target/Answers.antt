use mathlib.Core.Path.{◌≡◌, refl, sym, ◌∙◌}
use mathlib.Core.Bool.{true, false}
use native.Mathlib.Omega.{arith}
use Rattle.matching.specs.Matching.{in_use}
use Rattle.matching.specs.declared.Checked.TheVariants.{Known}
use Rattle.matching.proofs.Matching.{in_use_known}
use Rattle.matching.proofs.Parts.{two_children}
use Rattle.indexing.proofs.Targets.{target_element, target_value, target_unknown, target_none, element_there, target_is}
use borrow.Author.Rules.{rules}
use Rattle.types.proofs.Types.{held_by}
use Rattle.indexing.proofs.check_index_target.Goals as goal

pub child_of-requires : goal.child_of-requires
child_of-requires c =
    let a = c.args in
    let store = a.matcher.now.store in
    let pre = c.requires in
    let kind = c.kind_of-kind.ensures in
    let e = rw kind at (sym c.has_elements.ensures ∙ c.if-has_elements.true) in
    (pre.0, element_there store.page.now (held_by store.held).sound a.t pre.0 e)

pub returns-then-has_elements : goal.returns-then-has_elements
returns-then-has_elements c =
    let a = c.args in
    let store = a.matcher.now.store in
    let pre = c.requires in
    let kind = c.kind_of-kind.ensures in
    let e = rw kind at (sym c.has_elements.ensures ∙ c.if-has_elements.true) in record {
      value = target_is store.page.now (held_by store.held).sound a.t pre.0 a.key _
          (c.known.ensures ∙ rw c.child_of.ensures.0 (target_element store.page.now a.key a.t e));
      same = (refl, refl);
    }

pub child_of-wanted-requires : goal.child_of-wanted-requires
child_of-wanted-requires c =
    let a = c.args in
    let store = a.matcher.now.store in
    let pre = c.requires in
    let kind = c.kind_of-kind.ensures in
    let m = rw kind at (sym c.is_map.ensures ∙ c.if-is_map.true) in
    (pre.0, omega (arith, two_children store.page.now (held_by store.held).sound a.t pre.0 m))

pub child_of-value-requires : goal.child_of-value-requires
child_of-value-requires c =
    let a = c.args in
    let store = a.matcher.now.store in
    let pre = c.requires in
    let kind = c.kind_of-kind.ensures in
    let m = rw kind at (sym c.is_map.ensures ∙ c.if-is_map.true) in
    (pre.0, omega (arith, two_children store.page.now (held_by store.held).sound a.t pre.0 m))

pub matches-requires : goal.matches-requires
matches-requires c =
    let a = c.args in
    let store = a.matcher.now.store in
    let pre = c.requires in
    let wanted = c.child_of-wanted in
    let w : in_use store.page.now (Known wanted.result) ≡ true =
    in_use_known store.page.now wanted.result (omega (arith, wanted.ensures.1, pre.0)) in
    record { actual_value = search rules }

pub returns-then-matches : goal.returns-then-matches
returns-then-matches c =
    let a = c.args in
    let store = a.matcher.now.store in
    let pre = c.requires in
    let matched = c.matches.ensures in
    let kind = c.kind_of-kind.ensures in
    let e = rw kind at (sym c.has_elements.ensures ∙ c.if-has_elements.false) in
    let m = rw kind at (sym c.is_map.ensures ∙ c.if-is_map.true) in
    let h = rw c.child_of-wanted.ensures.0 at (sym matched.value ∙ c.if-matches.true) in
    let v = target_value store.page.now a.key a.t e m true h in record {
      value = target_is store.page.now (held_by store.held).sound a.t pre.0 a.key _
          (c.known-then-matches.ensures ∙ rw c.child_of-value.ensures.0 v);
      same = matched.same;
    }

pub returns-then-is_map : goal.returns-then-is_map
returns-then-is_map c =
    let a = c.args in
    let store = a.matcher.now.store in
    let pre = c.requires in
    let matched = c.matches.ensures in
    let kind = c.kind_of-kind.ensures in
    let e = rw kind at (sym c.has_elements.ensures ∙ c.if-has_elements.false) in
    let m = rw kind at (sym c.is_map.ensures ∙ c.if-is_map.true) in
    let h = rw c.child_of-wanted.ensures.0 at (sym matched.value ∙ c.if-matches.false) in
    let v = target_value store.page.now a.key a.t e m false h in record {
      value = target_is store.page.now (held_by store.held).sound a.t pre.0 a.key _
          (c.known_with.ensures ∙ rw c.child_of-value.ensures.0 v);
      same = matched.same;
    }

pub returns-then-is_unknown : goal.returns-then-is_unknown
returns-then-is_unknown c =
    let a = c.args in
    let store = a.matcher.now.store in
    let pre = c.requires in
    let kind = c.kind_of-kind.ensures in
    let e = rw kind at (sym c.has_elements.ensures ∙ c.if-has_elements.false) in
    let m = rw kind at (sym c.is_map.ensures ∙ c.if-is_map.false) in
    let n = rw kind at (sym c.is_unknown.ensures ∙ c.if-is_unknown.true) in record {
      value = target_is store.page.now (held_by store.held).sound a.t pre.0 a.key _
          (c.unknown.ensures ∙ target_unknown store.page.now a.key a.t e m n);
      same = (refl, refl);
    }

pub returns : goal.returns
returns c =
    let a = c.args in
    let store = a.matcher.now.store in
    let pre = c.requires in
    let kind = c.kind_of-kind.ensures in
    let e = rw kind at (sym c.has_elements.ensures ∙ c.if-has_elements.false) in
    let m = rw kind at (sym c.is_map.ensures ∙ c.if-is_map.false) in
    let n = rw kind at (sym c.is_unknown.ensures ∙ c.if-is_unknown.false) in record {
      value = target_is store.page.now (held_by store.held).sound a.t pre.0 a.key _
          (c.unknown-2.ensures ∙ target_none store.page.now a.key a.t e m n);
      same = (refl, refl);
    }
