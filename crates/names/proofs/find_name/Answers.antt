use mathlib.Core.Path.{sym, ◌∙◌}
use native.Mathlib.Nat.{le_of_eq}
use Rattle.names.proofs.Calls.{form, fits_to, find_broken, find_malformed, find_given}
use Rattle.names.proofs.find_name.Goals as goal

pub returns-then-not-is_formed : goal.returns-then-not-is_formed
returns-then-not-is_formed c =
    let is-formed = c.is_formed in
    find_broken c.args.page.now c.args.name.now (sym is-formed.ensures ∙ c.if-not-is_formed.true)

pub returns-then-not-is_name : goal.returns-then-not-is_name
returns-then-not-is_name c =
    let is-formed = c.is_formed in
    let if1 = c.if-not-is_formed in
    let is_name = c.is_name in
    let page = c.args.page.now in
    let name = c.args.name.now in
    let f = sym is-formed.ensures ∙ if1.false in
    find_malformed page name f (sym is_name.ensures ∙ c.if-not-is_name.true)

pub count-requires : goal.count-requires
count-requires c =
    let is-formed = c.is_formed in
    let if1 = c.if-not-is_formed in
    (form c.args.page.now (sym is-formed.ensures ∙ if1.false)).two

pub find-requires : goal.find-requires
find-requires c =
    let is-formed = c.is_formed in
    let if1 = c.if-not-is_formed in
    fits_to c.args.page.now (form c.args.page.now (sym is-formed.ensures ∙ if1.false))
    c.count.result (le_of_eq c.count.ensures.0)

pub returns : goal.returns
returns c =
    find_given c.args.page.now c.args.name.now (sym c.is_formed.ensures ∙ c.if-not-is_formed.false) (sym c.is_name.ensures ∙ c.if-not-is_name.false)
    c.count.result c.count.ensures.0 c.find.result c.find.ensures
