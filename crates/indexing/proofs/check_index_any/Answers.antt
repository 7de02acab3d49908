use mathlib.Core.Path.{◌≡◌, ap, ◌∙◌}
use native.Mathlib.Omega.{arith}
use lib.ListN.{length}
use lib.Seq.{length-take-le}
use borrow.Author.Rules.{rules}
use Rattle.types.specs.declared.Store.{Store}
use Rattle.members.specs.Members.{members_max}
use Rattle.types.proofs.Types.{formed_by}
use Rattle.indexing.proofs.Trying.{some_failed, none_failed, no_results, some_results, results_used, noted_end}
use Rattle.indexing.proofs.check_index_any.Goals as goal

pub returns-in-Some-clause-page_after : goal.returns-in-Some-clause-page_after
returns-in-Some-clause-page_after c =
    let tried = c.try_members-trials in
    let a = c.args in
    let some = some_failed a.maker.now.page.now a.key a.t _ tried.result (rw c.store.ensures.0 at tried.ensures.result_after) _ c.in-Some.is in
    rw c.unknown.ensures some

pub returns-in-Some-clause-noted_2 : goal.returns-in-Some-clause-noted_2
returns-in-Some-clause-noted_2 c =
    let tried = c.try_members-trials in
    noted_end tried.new.matcher c.args.maker.now.page.now (ap (λ (s : Store). s.page.now) tried.ensures.same.0 ∙ c.store.ensures.0) _ (search rules)

pub returns-then-trials-eq0-clause-page_after : goal.returns-then-trials-eq0-clause-page_after
returns-then-trials-eq0-clause-page_after c =
    let tried = c.try_members-trials in
    let long : length tried.new.results ≡ members_max = search rules in
    let a = c.args in
    let e = rw c.store.ensures.0 at tried.ensures.result_after in
    let z = none_failed tried.result.failing c.in_default.not-Some in
    let none = no_results a.maker.now.page.now a.key a.t _ tried.result e z (omega (arith, tried.ensures.merged_bound, long)) c.if-trials-eq0.true in
    rw c.unknown-then-trials-eq0.ensures none

pub returns-then-trials-eq0-clause-noted_2 : goal.returns-then-trials-eq0-clause-noted_2
returns-then-trials-eq0-clause-noted_2 c =
    let tried = c.try_members-trials in
    noted_end tried.new.matcher c.args.maker.now.page.now (ap (λ (s : Store). s.page.now) tried.ensures.same.0 ∙ c.store.ensures.0) _ (search rules)

pub enter_union-requires : goal.enter_union-requires
enter_union-requires c =
    let tried = c.try_members-trials in
    let long : length tried.new.results ≡ members_max = search rules in
    let a = c.args in
    let pre = c.requires in
    let used = results_used a.maker.now.page.now a.key a.t _ tried.result (rw c.store.ensures.0 at tried.ensures.result_after) (formed_by c.args.maker.now.measured) pre.t_bound.0 in
    let places = length-take-le tried.result.merged tried.new.results (omega (arith, tried.ensures.merged_bound, long)) in
    (omega (arith, places, c.if-trials-eq0.false), used)

pub returns-clause-page_after : goal.returns-clause-page_after
returns-clause-page_after c =
    let tried = c.try_members-trials in
    let long : length tried.new.results ≡ members_max = search rules in
    let a = c.args in
    let union = c.enter_union in
    let e = rw c.store.ensures.0 at tried.ensures.result_after in
    let z = none_failed tried.result.failing c.in_default.not-Some in
    let some = some_results a.maker.now.page.now a.key a.t _ tried.result e z (omega (arith, tried.ensures.merged_bound, long))
    c.if-trials-eq0.false union.result _ union.ensures.page_after in
    rw c.conclusion_of.ensures some

pub returns-clause-noted_2 : goal.returns-clause-noted_2
returns-clause-noted_2 c =
    let tried = c.try_members-trials in
    noted_end tried.new.matcher c.args.maker.now.page.now (ap (λ (s : Store). s.page.now) tried.ensures.same.0 ∙ c.store.ensures.0) _ (search rules)
