use Rattle.std.specs.Prelude.{option_copied}
use Rattle.std.proofs.lemmas.Result.{err_from_is_err_and}
use mathlib.Core.Path.{sym, ◌∙◌}
use Rattle.types.proofs.Calls.{used_refused, used_unformed, used_sound, used_two}
use Rattle.types.proofs.Reading.{read_refused, read_unused, read_given}
use Rattle.types.proofs.read_type.Goals as goal

pub returns-in_err-n : goal.returns-in_err-n
returns-in_err-n c =
    let a = c.args in
    let p = err_from_is_err_and c.from_residual.result c.from_residual.ensures.1 in
    rw (p.1, p.2) (read_refused a.page.now (option_copied a.names) a.t _ (used_refused a.page.now (option_copied a.names) _ (sym c.in_err-n.was ∙ c.used_in.ensures.0)))

pub returns-in_err-survey : goal.returns-in_err-survey
returns-in_err-survey c =
    let a = c.args in
    let p = err_from_is_err_and c.from_residual-in_err-survey.result c.from_residual-in_err-survey.ensures.1 in
    rw (p.1, p.2) (read_refused a.page.now (option_copied a.names) a.t _
    (used_unformed a.page.now (option_copied a.names) c.in_ok-n.n (sym c.in_ok-n.was ∙ c.used_in.ensures.0) _ (sym c.in_err-survey.was ∙ c.survey.ensures.0)))

pub count-requires : goal.count-requires
count-requires c = used_two c.args.page.now (option_copied c.args.names) c.in_ok-n.n (sym c.in_ok-n.was ∙ c.used_in.ensures.0) (sym c.in_ok-survey.was ∙ c.survey.ensures.0)

pub returns-then-count-t : goal.returns-then-count-t
returns-then-count-t c =
    let a = c.args in
    let k = used_sound a.page.now (option_copied a.names) c.in_ok-n.n (sym c.in_ok-n.was ∙ c.used_in.ensures.0) (sym c.in_ok-survey.was ∙ c.survey.ensures.0) in
    read_unused a.page.now (option_copied a.names) a.t k.0 (rw c.count.ensures at c.if-count-t.true)

pub shape_of-requires : goal.shape_of-requires
shape_of-requires c =
    let o = rw c.in_ok-survey.was at c.survey.ensures in
    record { measured = o.1; t_bound = rw c.count.ensures at c.if-count-t.false }

pub returns : goal.returns
returns c =
    let a = c.args in
    let k = used_sound a.page.now (option_copied a.names) c.in_ok-n.n (sym c.in_ok-n.was ∙ c.used_in.ensures.0) (sym c.in_ok-survey.was ∙ c.survey.ensures.0) in
    read_given a.page.now (option_copied a.names) a.t k.0 (rw c.count.ensures at c.if-count-t.false) c.shape_of.result c.shape_of.ensures
