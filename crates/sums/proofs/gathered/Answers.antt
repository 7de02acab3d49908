use Rattle.std.proofs.Common.{rules}
use Prim.Native.Nat.{◌<◌, ◌^◌}
use mathlib.Core.Path.{◌≡◌, sym, ap, ◌∙◌}
use native.Mathlib.Omega.{arith}
use lib.Dec.{eqb}
use lib.IntN.{ℤ}
use lib.Signed.{mag}
use mir.Syntax.{w16}
use mir.Val.{of_z}
use borrow.Author.Tests.{eq-eqb, ne_eqb}
use Rattle.units.specs.Unit.{is_zero}
use Rattle.units.proofs.Signed.{back, bits_zero}
use Rattle.sums.specs.Sums.{sums_from}
use Rattle.sums.proofs.Gather.{gathering_in, gathering_room, gathering_none, gathering_next, gathering_end}
use Rattle.sums.proofs.gathered.Goals as goal
use Rattle.sums.proofs.gathered.Goals.{then-e-ne0, else-e-ne0}

-- a sum as it is tested, and as it is held
tested : (r e : ℤ) → mag r < 2 ^ 15 → r ≡ e → eqb (of_z w16 r) 0 ≡ is_zero e
tested r e h q = bits_zero r (record { sfits = h }) ∙ ap is_zero q

pub with_term-w-requires : goal.with_term-w-requires
with_term-w-requires c =
    gathering_room c.args.u (search rules) c.requires.0 c.loop-s.w c.loop-s.lo c.loop-s.invariant c.in-Some.s (sym c.in-Some.ensures)
    (sym (tested c.sum_of-e.result _ c.sum_of-e.type_inv c.sum_of-e.ensures) ∙ ne_eqb _ 0 c.if-e-ne0.true)

pub loop-s-smaller : goal.loop-s-smaller
loop-s-smaller c =
    let g = gathering_in c.args.u (search rules) c.requires.0 c.loop-s.w c.loop-s.lo c.loop-s.invariant c.in-Some.s (sym c.in-Some.ensures) in
    omega (arith, g.0, g.1, c.from-lo.ensures)

pub loop-s-preserved : goal.loop-s-preserved
loop-s-preserved c =
    let t = tested c.sum_of-e.result _ c.sum_of-e.type_inv c.sum_of-e.ensures in
    rw c.from-lo.ensures
    (elim c.if-e-ne0.branch [
      | then-e-ne0 w ↦
          rw (w.w-is, w.with_term-w.ensures, back c.sum_of-e.result c.sum_of-e.type_inv, c.sum_of-e.ensures)
          (gathering_next c.args.u (search rules) c.requires.0 c.loop-s.w c.loop-s.lo c.loop-s.invariant c.in-Some.s (sym c.in-Some.ensures) (sym t ∙ ne_eqb _ 0 w.if-e-ne0.true))
      | else-e-ne0 w ↦
          rw w.w-is
          (gathering_none c.args.u (search rules) c.requires.0 c.loop-s.w c.loop-s.lo c.loop-s.invariant c.in-Some.s (sym c.in-Some.ensures) (sym t ∙ eq-eqb _ 0 w.if-e-ne0.false))
    ])

pub returns : goal.returns
returns c =
    c.from.ensures ∙ ap sums_from (gathering_end c.args.u (search rules) c.requires.0 c.loop-s.w c.loop-s.lo c.loop-s.invariant (sym c.in_default.ensures))
