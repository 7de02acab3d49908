use mathlib.Core.Path.{refl, ◌∙◌}
use Rattle.types.specs.Calls.{type_at}
use Rattle.types.proofs.Reading.{depth_read, depth_there}
use Rattle.types.proofs.shape_of.Goals as goal

pub depth_in-requires : goal.depth_in-requires
depth_in-requires c =
    depth_there c.args.page.now _ _ c.requires.measured c.args.t c.requires.t_bound

pub returns : goal.returns
unfolding type_at
returns c =
    let kind-of = c.kind_of in
    let depth-in = c.depth_in in
    let arity = c.arity in
    let a = c.args in
    let d = depth-in.ensures.0 ∙ depth_read a.page.now a.tables.now.offsets a.tables.now.depths c.requires.measured a.t c.requires.t_bound in
    rw (kind-of.ensures, d, arity.ensures.0, c.children_of.ensures, c.name_if_any.ensures, c.store-store.ensures.0) refl
