use Rattle.std.proofs.Common.{◌≡◌, refl, sym, ◌∙◌, ◌+◌, ◌*◌, arith}
use Rattle.std.specs.Iterator.Adapters.{enumerate_source}
use Rattle.units.proofs.Signed.{back}
use Rattle.values.specs.Value.{term_bytes}
use Rattle.values.proofs.Terms.{writing_start, writing_next, writing_end}
use Rattle.values.proofs.write_terms.Goals as goal

pub loop-i-init : goal.loop-i-init
loop-i-init c =
    rw (c.into_iter-i-iterator.ensures.into_iter_gives, c.enumerate-i-items.ensures.source, c.enumerate-i-items.ensures.count, c.terms.ensures.0, c.terms.ensures.1)
    (refl, refl, writing_start c.args.out.now c.args.u)

pub count_bytes-word-requires : goal.count_bytes-word-requires
count_bytes-word-requires c = c.raw.ensures.1

pub put_bytes-requires : goal.put_bytes-requires
put_bytes-requires c =
    let i = c.loop-i.invariant in
    let x = (rw i.0 at c.in-Some.ensures.steps.0).1 in
    omega (arith, c.in-Some.ensures.steps.1, i.1, i.2.place, i.2.long, x.0, c.requires.0, c.requires.1)

pub loop-i-preserved : goal.loop-i-preserved
loop-i-preserved c =
    let i = c.loop-i.invariant in
    let steps = c.in-Some.ensures.steps in
    let x = (rw i.0 at steps.0).1 in
    let at = (enumerate_source c.loop-i.i-iterator).at in
    let k : c.in-Some.i ≡ at = steps.1 ∙ i.1 in
    let next : 1 + term_bytes * (at + 1) ≡ 1 + term_bytes * at + term_bytes = omega arith in
    let written = writing_next c.args.out.now c.args.u c.loop-i.out (1 + term_bytes * at) at i.2 x.0 c.requires.0 c.requires.1 _
    (c.put_bytes.ensures ∙ rw (c.count_bytes-word.ensures, c.raw.ensures.0, back c.in-Some.e (omega arith), x.1, x.2, k)) in
    (rw steps.0.0 i.0, steps.2 ∙ rw i.1 (sym x.3), rw (x.3, next) written)

pub returns : goal.returns
returns c =
    let i = c.loop-i.invariant in
    writing_end c.args.out.now c.args.u c.loop-i.out _ _ i.2 (rw i.0 at c.in-None.ensures.steps.0).1
