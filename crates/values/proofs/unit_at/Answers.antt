use Rattle.std.proofs.Common.{◌≡◌, ap, ap₂, ◌∙◌, ◌+◌, ◌*◌, ◌<◌, [], ◌∷◌, ◌++◌, arith}
use Rattle.units.specs.Unit.{term}
use Rattle.units.specs.Calls.{unit_of}
use Rattle.units.proofs.Signed.{back}
use Rattle.units.proofs.Held.{grown}
use Rattle.values.specs.Value.{term_bytes, signed_of}
use Rattle.values.proofs.Terms.{reading_start, reading_count, reading_next, reading_end, term_read}
use Rattle.values.proofs.unit_at.Goals as goal

pub loop-term-init : goal.loop-term-init
loop-term-init c =
    reading_start c.args.bytes.now c.args.n c.dimensionless-u.result c.dimensionless-u.ensures

pub with_term-u-requires : goal.with_term-u-requires
with_term-u-requires c =
    let l = c.loop-term in
    omega (arith, reading_count c.args.bytes.now c.args.n l.u _ l.term-index l.invariant, c.loop-term-test.true, c.terms_in-term-items.ensures.1, c.requires.0)

pub loop-term-preserved : goal.loop-term-preserved
loop-term-preserved c =
    let l = c.loop-term in
    let bytes = c.args.bytes.now in
    let i = l.term-index in
    let few : i < c.args.n = omega (arith, c.loop-term-test.true, c.terms_in-term-items.ensures.1) in
    let read = term_read bytes c.args.n c.terms_in-term-items.result.now c.terms_in-term-items.ensures.0 i few in
    let next : 1 + term_bytes * (i + 1) ≡ 1 + term_bytes * i + term_bytes = omega arith in
    rw next (reading_next bytes c.args.n l.u (1 + term_bytes * i) i l.invariant few c.with_term-u.result
    (λ k q. c.with_term-u.ensures ∙ grown _ _ _ k q ∙ ap₂ (λ x z. unit_of (k ++ (term x z ∷ []))) (c.from.ensures ∙ read.0) (back c.signed.result c.signed.type_inv ∙ c.signed.ensures ∙ ap signed_of read.1)))

pub returns : goal.returns
returns c =
    let l = c.loop-term in
    reading_end c.args.bytes.now c.args.n l.u _ l.term-index l.invariant (omega (arith, c.loop-term-test.false, c.terms_in-term-items.ensures.1))
