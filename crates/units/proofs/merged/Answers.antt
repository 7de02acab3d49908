use Rattle.std.proofs.Common.{Less, Equal, Greater}
use Rattle.std.specs.Ordering.{nat_cmp}
use Rattle.std.proofs.lemmas.Bool.Decides.{nat_tests}
use Prim.Native.Nat.{ℕ, ◌<◌}
use mathlib.Core.Path.{◌≡◌, sym, ap, ap₂, ◌∙◌}
use mathlib.Core.Bool.{true, false}
use native.Mathlib.Omega.{arith}
use lib.IntN.{ℤ}
use mir.Syntax.{w16}
use mir.Val.{to_z, of_z}
use Rattle.names.specs.Table.{names_max}
use Rattle.units.specs.Unit.{places_max, outside, formed}
use Rattle.units.specs.Product.{combine}
use Rattle.units.specs.Merge.{turn}
use Rattle.units.specs.Calls.{terms_of}
use Rattle.units.specs.declared.Unit.{Unit}
use Rattle.units.specs.declared.Sum.{Sum}
use Rattle.units.proofs.Signed.{back, inside_back}
use Rattle.units.proofs.Form.{exp_at, formed_inside}
use Rattle.units.proofs.Merge.{Pushed, Joined, stand_start, left_last, left_low, right_last, right_low, both_next}
use Rattle.units.proofs.Held.{places_of, kind}
use Rattle.units.proofs.Tested.{combine_turn}
use Rattle.units.proofs.merged.Goals as goal

-- the order of two symbols, from how they compare
less : (s t : ℕ) → Less ≡ nat_cmp s t → s < t
less s t h = grind (arith, nat_tests)

greater : (s t : ℕ) → Greater ≡ nat_cmp s t → t < s
greater s t h = grind (arith, nat_tests)

equal : (s t : ℕ) → Equal ≡ nat_cmp s t → s ≡ t
equal s t h = grind (arith, nat_tests)

-- an exponent of a unit in form, as it is passed on
module _ (u : Unit) (h : formed places_max names_max (terms_of u) ≡ true) (i : ℕ) (e : ℤ) (l : i < u.count) (q : e ≡ exp_at (places_of u) i) where
  inside : outside e ≡ false
  inside = rw q (formed_inside places_max names_max (places_of u) h i l)

  kept : to_z w16 (of_z w16 e) ≡ exp_at (places_of u) i
  kept = inside_back e inside ∙ q

  passed : outside (to_z w16 (of_z w16 e)) ≡ false
  passed = rw (inside_back e inside) inside

-- what is gathered with a term, in the words of the merge
pushed_as : (w r : Sum) (s t : ℕ) (e f : ℤ) → Pushed kind w r s e → s ≡ t → e ≡ f → Pushed kind w r t f
pushed_as w r s t e f h p q = rw (← p, ← q) h

joined_as : (w r : Sum) (s t : ℕ) (e f : ℤ) → Joined kind w r s e → s ≡ t → e ≡ f → Joined kind w r t f
joined_as w r s t e f h p q = rw (← p, ← q) h

pub loop-s-init : goal.loop-s-init
loop-s-init c =
    stand_start kind places_max c.args.quotient (places_of c.args.a) (places_of c.args.b) names_max _
    (ap (λ (u : Unit). record { unit = u; wide = false }) c.dimensionless.ensures) c.requires.0 c.requires.1

pub loop-s-preserved-in-Less : goal.loop-s-preserved-in-Less
loop-s-preserved-in-Less c =
    let g = c.args in
    let l = c.loop-s in
    let x = c.in-Some-Some.ensures in
    let y = c.in-Some-Some.ensures' in
    left_low kind places_max g.quotient (places_of g.a) (places_of g.b) l.w c.pushed-w.result l.i l.j l.invariant x.0
    (pushed_as l.w _ _ _ _ _ c.pushed-w.ensures x.1 (kept g.a c.requires.0 l.i _ x.0 x.2)) y.0 (rw (x.1, y.1) at (less c.in-Some-Some.s c.in-Some-Some.t c.in-Less.ensures))

pub turned_by-requires : goal.turned_by-requires
turned_by-requires c =
    let y = c.in-Some-Some.ensures' in
    passed c.args.b c.requires.1 c.loop-s.j _ y.0 y.2

pub loop-s-preserved-in-Greater : goal.loop-s-preserved-in-Greater
loop-s-preserved-in-Greater c =
    let g = c.args in
    let l = c.loop-s in
    let x = c.in-Some-Some.ensures in
    let y = c.in-Some-Some.ensures' in
    let r = c.turned_by in
    let f = back r.result r.type_inv ∙ r.ensures ∙ ap (turn g.quotient) (kept g.b c.requires.1 l.j _ y.0 y.2) in
    right_low kind places_max g.quotient (places_of g.a) (places_of g.b) l.w c.pushed-w-in-Greater.result l.i l.j l.invariant y.0
    (pushed_as l.w _ _ _ _ _ c.pushed-w-in-Greater.ensures y.1 f) x.0 (rw (x.1, y.1) at (greater c.in-Some-Some.s c.in-Some-Some.t c.in-Greater.ensures))

pub combined-requires : goal.combined-requires
combined-requires c =
    let x = c.in-Some-Some.ensures in
    let y = c.in-Some-Some.ensures' in
    (passed c.args.a c.requires.0 c.loop-s.i _ x.0 x.2, passed c.args.b c.requires.1 c.loop-s.j _ y.0 y.2)

pub loop-s-preserved-in-Equal : goal.loop-s-preserved-in-Equal
loop-s-preserved-in-Equal c =
    let g = c.args in
    let l = c.loop-s in
    let x = c.in-Some-Some.ensures in
    let y = c.in-Some-Some.ensures' in
    let r = c.combined in
    let same = sym x.1 ∙ equal _ _ c.in-Equal.ensures ∙ y.1 in
    let e = back r.result r.type_inv ∙ r.ensures ∙ ap₂ (combine g.quotient) (kept g.a c.requires.0 l.i _ x.0 x.2) (kept g.b c.requires.1 l.j _ y.0 y.2) ∙ combine_turn g.quotient (exp_at (places_of g.a) l.i) (exp_at (places_of g.b) l.j) in
    both_next kind places_max g.quotient (places_of g.a) (places_of g.b) l.w c.joined_to-w.result l.i l.j l.invariant x.0 y.0
    (omega (arith, same)) (omega (arith, same)) (joined_as l.w _ _ _ _ _ c.joined_to-w.ensures x.1 e)

pub loop-s-preserved-in-Some-None : goal.loop-s-preserved-in-Some-None
loop-s-preserved-in-Some-None c =
    let g = c.args in
    let l = c.loop-s in
    let x = c.in-Some-None.ensures in
    left_last kind places_max g.quotient (places_of g.a) (places_of g.b) l.w c.pushed-w-in-Some-None.result l.i l.j l.invariant x.0
    (pushed_as l.w _ _ _ _ _ c.pushed-w-in-Some-None.ensures x.1 (kept g.a c.requires.0 l.i _ x.0 x.2)) (rw c.in-Some-None.is-1 at c.term_at-in-loop-s.ensures)

pub turned_by-requires-in-None-Some : goal.turned_by-requires-in-None-Some
turned_by-requires-in-None-Some c =
    let y = c.in-None-Some.ensures in
    passed c.args.b c.requires.1 c.loop-s.j _ y.0 y.2

pub loop-s-preserved : goal.loop-s-preserved
loop-s-preserved c =
    let g = c.args in
    let l = c.loop-s in
    let y = c.in-None-Some.ensures in
    let r = c.turned_by-in-None-Some in
    let f = back r.result r.type_inv ∙ r.ensures ∙ ap (turn g.quotient) (kept g.b c.requires.1 l.j _ y.0 y.2) in
    right_last kind places_max g.quotient (places_of g.a) (places_of g.b) l.w c.pushed-w-in-None-Some.result l.i l.j l.invariant y.0
    (pushed_as l.w _ _ _ _ _ c.pushed-w-in-None-Some.ensures y.1 f) (rw c.in-None-Some.is-0 at c.term_at.ensures)
