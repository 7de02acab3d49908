use mathlib.Core.Path.{refl, ◌∙◌}
use mathlib.Core.List.Memᴰ.{head, tail}
use native.Mathlib.Omega.{arith}
use Rattle.formulas.specs.State.{nodes_of}
use Rattle.formulas.proofs.Conditions.{value_depth, unary_depth, binary_depth, index_depth}
use Rattle.formulas.proofs.Answering.depth_of.Goals as goal

pub depth_at-requires : goal.depth_at-requires
depth_at-requires c = (rw c.in-Unary.is at c.requires) c.in-Unary.a (head refl)

pub depth_over-requires : goal.depth_over-requires
depth_over-requires c =
    let below = rw c.in-Binary.is at c.requires in
    (below c.in-Binary.a (head refl), below c.in-Binary.b (tail (head refl)))

pub depth_over-requires-in-Index : goal.depth_over-requires-in-Index
depth_over-requires-in-Index c =
    let below = rw c.in-Index.is at c.requires in
    (below c.in-Index.a (head refl), below c.in-Index.k (tail (head refl)))

pub returns-in-Value : goal.returns-in-Value
returns-in-Value c = rw c.in-Value.is (value_depth (nodes_of c.args.self.now) _ _, omega arith)

pub returns-in-Unary : goal.returns-in-Unary
returns-in-Unary c =
    let z = unary_depth (nodes_of c.args.self.now) c.in-Unary.field-0 c.in-Unary.a in
    rw c.in-Unary.is (omega (arith, c.depth_at.ensures.0, z), omega (arith, c.depth_at.ensures.1))

pub returns-in-Binary : goal.returns-in-Binary
returns-in-Binary c = rw c.in-Binary.is (c.depth_over.ensures.0 ∙ binary_depth (nodes_of c.args.self.now) _ _ _, c.depth_over.ensures.1)

pub returns-in-Index : goal.returns-in-Index
returns-in-Index c = rw c.in-Index.is (c.depth_over-in-Index.ensures.0 ∙ index_depth (nodes_of c.args.self.now) _ _, c.depth_over-in-Index.ensures.1)
