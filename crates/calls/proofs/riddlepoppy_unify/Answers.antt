use Rattle.std.specs.Prelude.{option_copied}
use mathlib.Core.Path.{◌≡◌, ap, ◌∙◌}
use Rattle.unification.specs.declared.Unified.{Unified}
use Rattle.calls.specs.Codes.{answer_code}
use Rattle.calls.specs.Types.{bindings_after, unify_in}
use Rattle.calls.proofs.Bindings.{unify_few}
use Rattle.calls.proofs.riddlepoppy_unify.Goals as goal

pub written_back-requires : goal.written_back-requires
written_back-requires c =
    let bindings-in = c.bindings_in-bound in
    let unify = c.unify-result in
    let a = c.args in
    let names = option_copied c.lent_names-names.result in
    let b = bindings-in.ensures in
    unify_few a.page.now names bindings-in.result b.1 b.2 b.3 a.expected unify.result a.actual unify.ensures

pub returns : goal.returns
returns c =
    let a = c.args in
    let names = option_copied c.lent_names-names.result in
    let u : c.unify-result.result ≡ unify_in a.page.now names a.bindings.now a.expected a.actual =
    rw c.bindings_in-bound.ensures.0 at c.unify-result.ensures in rw (← c.lent_names-names.ensures) (
      c.written_back.ensures.0 ∙ ap (λ (r : Unified). answer_code r.answer) u,
      c.written_back.ensures.1 ∙ ap (λ (r : Unified). bindings_after r.answer r.bindings a.bindings.now) u,
    )
