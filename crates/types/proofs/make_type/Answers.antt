use Rattle.std.specs.Prelude.{option_copied}
use Rattle.std.proofs.lemmas.Result.{err_from_is_err_and}
use mathlib.Core.Path.{sym, ◌∙◌}
use Rattle.types.proofs.Calls.{used_refused, used_unformed, used_sound, used_two, make_undefined, make_refused, make_unused, make_miscounted, make_fixed, make_few, make_ready, make_entered}
use borrow.Author.Rules.{rules}
use Rattle.types.proofs.make_type.Goals as goal

pub returns-then-kind-gt-GENERIC : goal.returns-then-kind-gt-GENERIC
returns-then-kind-gt-GENERIC c =
    let a = c.args in
    make_undefined a.page.now (option_copied a.names) a.kind a.children.now a.name c.if-kind-gt-GENERIC.true

pub returns-in_err-n : goal.returns-in_err-n
returns-in_err-n c =
    let a = c.args in
    let p = err_from_is_err_and c.from_residual.result c.from_residual.ensures.1 in
    rw (p.1, p.2) (make_refused a.page.now (option_copied a.names) a.kind a.children.now a.name c.if-kind-gt-GENERIC.false _
    (used_refused a.page.now (option_copied a.names) _ (sym c.in_err-n.was ∙ c.used_in.ensures.0)))

pub returns-in_err-survey : goal.returns-in_err-survey
returns-in_err-survey c =
    let a = c.args in
    let p = err_from_is_err_and c.from_residual-in_err-survey.result c.from_residual-in_err-survey.ensures.1 in
    rw (p.1, p.2) (make_refused a.page.now (option_copied a.names) a.kind a.children.now a.name c.if-kind-gt-GENERIC.false _
    (used_unformed a.page.now (option_copied a.names) c.in_ok-n.n (sym c.in_ok-n.was ∙ c.used_in.ensures.0) _ (sym c.in_err-survey.was ∙ c.survey.ensures.0)))

pub parts_used-requires : goal.parts_used-requires
parts_used-requires c = used_two c.args.page.now (option_copied c.args.names) c.in_ok-n.n (sym c.in_ok-n.was ∙ c.used_in.ensures.0) (sym c.in_ok-survey.was ∙ c.survey.ensures.0)

pub returns-then-not-parts_used : goal.returns-then-not-parts_used
returns-then-not-parts_used c =
    let a = c.args in
    let n = c.in_ok-n.n in
    let k = used_sound a.page.now (option_copied a.names) n (sym c.in_ok-n.was ∙ c.used_in.ensures.0) (sym c.in_ok-survey.was ∙ c.survey.ensures.0) in
    make_unused a.page.now (option_copied a.names) a.kind a.children.now a.name c.if-kind-gt-GENERIC.false k.0 n k.1
    (sym c.parts_used.ensures ∙ c.if-not-parts_used.true)

pub returns-then-not-is_counted : goal.returns-then-not-is_counted
returns-then-not-is_counted c =
    let a = c.args in
    let n = c.in_ok-n.n in
    let k = used_sound a.page.now (option_copied a.names) n (sym c.in_ok-n.was ∙ c.used_in.ensures.0) (sym c.in_ok-survey.was ∙ c.survey.ensures.0) in
    make_miscounted a.page.now (option_copied a.names) a.kind a.children.now a.name c.if-kind-gt-GENERIC.false k.0 n k.1
    (sym c.parts_used.ensures ∙ c.if-not-parts_used.false) (sym c.is_counted.ensures ∙ c.if-not-is_counted.true)

pub returns-then-not-is_stored : goal.returns-then-not-is_stored
returns-then-not-is_stored c =
    let a = c.args in
    let n = c.in_ok-n.n in
    let k = used_sound a.page.now (option_copied a.names) n (sym c.in_ok-n.was ∙ c.used_in.ensures.0) (sym c.in_ok-survey.was ∙ c.survey.ensures.0) in
    rw c.from.ensures (make_fixed a.page.now (option_copied a.names) a.kind a.children.now a.name c.if-kind-gt-GENERIC.false k.0 n k.1
    (sym c.parts_used.ensures ∙ c.if-not-parts_used.false) (sym c.is_counted.ensures ∙ c.if-not-is_counted.false)
    (sym c.is_stored.ensures ∙ c.if-not-is_stored.true))

pub enter_type-requires : goal.enter_type-requires
enter_type-requires c =
    let a = c.args in
    let n = c.in_ok-n.n in
    let k = used_sound a.page.now (option_copied a.names) n (sym c.in_ok-n.was ∙ c.used_in.ensures.0) (sym c.in_ok-survey.was ∙ c.survey.ensures.0) in
    let g = (rw c.in_ok-survey.was at c.survey.ensures).1 in
    let u = sym c.parts_used.ensures ∙ c.if-not-parts_used.false in
    let w = sym c.is_counted.ensures ∙ c.if-not-is_counted.false in
    let s = sym c.is_stored.ensures ∙ c.if-not-is_stored.false in record {
      children_len_bound = make_few a.page.now (option_copied a.names) a.kind a.children.now a.name c.if-kind-gt-GENERIC.false k.0 n k.1 u w s;
      ready = make_ready a.page.now (option_copied a.names) a.kind a.children.now a.name c.if-kind-gt-GENERIC.false k.0 n k.1 u w s _ _ g;
    }

pub returns : goal.returns
returns c =
    let a = c.args in
    let n = c.in_ok-n.n in
    let k = used_sound a.page.now (option_copied a.names) n (sym c.in_ok-n.was ∙ c.used_in.ensures.0) (sym c.in_ok-survey.was ∙ c.survey.ensures.0) in
    let z = make_entered a.page.now (option_copied a.names) a.kind a.children.now a.name c.if-kind-gt-GENERIC.false k.0 n k.1
    (sym c.parts_used.ensures ∙ c.if-not-parts_used.false) (sym c.is_counted.ensures ∙ c.if-not-is_counted.false)
    (sym c.is_stored.ensures ∙ c.if-not-is_stored.false) in
    (c.enter_type.ensures.value.0 ∙ z.0, search (rules, c.enter_type.ensures.value.1 ∙ z.1))
