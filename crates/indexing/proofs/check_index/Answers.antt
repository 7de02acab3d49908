use mathlib.Core.Path.{refl, ap, sym, ◌∙◌}
use borrow.Author.Rules.{rules}
use Rattle.types.specs.declared.Store.{Store}
use Rattle.indexing.proofs.Trying.{noted_end}
use Rattle.matching.proofs.Matching.{known_in_use}
use Rattle.indexing.proofs.Indexing.{index_unknown, index_function, index_union, index_other}
use Rattle.indexing.proofs.check_index.Goals as goal

pub kind_of-requires : goal.kind_of-requires
kind_of-requires c =
    let a = c.args in
    let pre = c.requires in
    let t = c.in-Known.is in
    rw c.store.ensures.0 (known_in_use a.maker.now.page.now _ (rw t at pre.target_value.0))

pub check_index_any-requires : goal.check_index_any-requires
check_index_any-requires c =
    let a = c.args in
    let pre = c.requires in
    let t = c.in-Known.is in
    record { t_bound = (known_in_use a.maker.now.page.now _ (rw t at pre.target_value.0), pre.target_value.1); noted = pre.noted }

pub returns-then-is_union : goal.returns-then-is_union
returns-then-is_union c =
    let a = c.args in
    let t = c.in-Known.is in
    let u = rw (c.kind_of.ensures, c.store.ensures.0) at (sym c.is_union.ensures ∙ c.if-is_union.true) in
    let any = c.check_index_any.ensures in
    record { page_after = rw t (any.page_after ∙ index_union a.maker.now.page.now a.key _ u); same = any.same; noted_2 = any.noted_2 }

pub check_index_target-requires : goal.check_index_target-requires
check_index_target-requires c =
    let a = c.args in
    let pre = c.requires in
    let t = c.in-Known.is in
    rw c.store-in-Known.ensures.0 (known_in_use a.maker.now.page.now _ (rw t at pre.target_value.0), pre.target_value.1)

pub returns-in-Unknown : goal.returns-in-Unknown
returns-in-Unknown c =
    let a = c.args in
    let same = index_unknown a.maker.now.page.now a.key in
    record { page_after = rw (c.in-Unknown.is, c.unknown.ensures) same; same = (refl, refl); noted_2 = c.requires.noted }

pub returns-in-Function : goal.returns-in-Function
returns-in-Function c =
    let a = c.args in
    let same = index_function a.maker.now.page.now a.key _ in
    record { page_after = rw (c.in-Function.is, c.unknown-in-Function.ensures) same; same = (refl, refl); noted_2 = c.requires.noted }

pub returns-else-is_union : goal.returns-else-is_union
returns-else-is_union c =
    let a = c.args in
    let pre = c.requires in
    let t = c.in-Known.is in
    let u = rw (c.kind_of.ensures, c.store.ensures.0) at (sym c.is_union.ensures ∙ c.if-is_union.false) in
    let index = c.check_index_target in
    let e = rw c.store-in-Known.ensures.0 at index.ensures.value.0 in
    let noted = noted_end index.new.matcher a.maker.now.page.now (ap (λ (s : Store). s.page.now) index.ensures.same.0 ∙ c.store-in-Known.ensures.0) _ (search rules) in
    record { page_after = rw (t, e) (index_other a.maker.now.page.now a.key _ u); same = (refl, refl); noted_2 = noted }
