use mathlib.Core.Path.{◌≡◌, refl, sym, ◌∙◌}
use mathlib.Core.Bool.{true, false}
use Prim.Native.Nat.{ℕ, ◌<◌}
use native.Mathlib.Omega.{arith}
use Rattle.pages.proofs.Quant.{any_none, all_none, any_more, all_more}
use Rattle.kinds.specs.Kinds.{is_union}
use Rattle.types.specs.Types.{types_in, kind_of, arity}
use Rattle.matching.specs.Matching.{known_matches, in_use, matches as matches_def}
use Rattle.matching.specs.Memo.{has_partner, member_of}
use mathlib.Core.List.{List}
use Rattle.matching.specs.declared.Checked.{Checked}
use Rattle.matching.specs.declared.Checked.TheVariants.{Known}
use Rattle.matching.proofs.Memo.{in_use_small, stored_small, recalled, noted_found, noted_refuting, found_union}
use Rattle.matching.proofs.Matching.{stands, stands_so, partner_met, partner_missed, refuted_so, any_no, all_met, one_alone, known_in_use, in_use_known, to_unknown, from_unknown, to_function, from_function, to_known, known_free, known_any, known_plain, none_partner}
use Rattle.types.proofs.Types.{held_by}
use Rattle.matching.proofs.+any_matches_matches.Goals as goal
use Rattle.matching.proofs.+any_matches_matches.Goals.{any_matches-else-not-is_refuted-via-then-not-is_refuted+else-matches, any_matches-else-not-is_refuted-via-else-not-is_refuted}

pub any_matches-returns-then-not-is_union : goal.any_matches-returns-then-not-is_union
any_matches-returns-then-not-is_union t c =
    let u : is_union (kind_of c.args.store.page.now c.args.b) ≡ false = rw (← c.kind_of.ensures) (sym c.is_union.ensures ∙ c.if-not-is_union.true) in
    (any_no c.args.store.page.now c.args.a c.args.b u, c.requires.noted)

pub any_matches-members-init : goal.any_matches-members-init
any_matches-members-init t c = (c.requires.noted, all_none _)

pub any_matches-recalled-requires : goal.any_matches-recalled-requires
any_matches-recalled-requires t c =
    let um : c.member_of-m.result < types_in c.args.store.page.now = omega (arith, c.member_of-m.ensures.1, c.requires.a_bound.0) in
    let small = stored_small c.args.store.held in
    (small c.member_of-m.result um, small c.args.b c.requires.a_bound.1)

pub any_matches-loop-j-init : goal.any_matches-loop-j-init
any_matches-loop-j-init t c = (c.members.invariant.0, any_none _)

pub any_matches-note-requires : goal.any_matches-note-requires
any_matches-note-requires t c =
    let um : c.member_of-m.result < types_in c.args.store.page.now = omega (arith, c.member_of-m.ensures.1, c.requires.a_bound.0) in
    let small = stored_small c.args.store.held in
    (small c.member_of-m.result um, small c.args.b c.requires.a_bound.1)

pub any_matches-child_of-e-requires : goal.any_matches-child_of-e-requires
any_matches-child_of-e-requires t c =
    (c.requires.a_bound.1, omega (arith, c.loop-j-test.true, c.arity-j-end.ensures.0))

pub any_matches-matches-requires : goal.any_matches-matches-requires
any_matches-matches-requires t c =
    let page = c.args.store.page.now in
    let e = c.child_of-e in
    let used : e.result < types_in page = omega (arith, e.ensures.1, c.requires.a_bound.1) in
    let um : c.member_of-m.result < types_in c.args.store.page.now = omega (arith, c.member_of-m.ensures.1, c.requires.a_bound.0) in (
      omega (arith, c.decreases, e.ensures.1),
      (((in_use_known page c.member_of-m.result um, in_use_known page e.result used), c.is_refuted.ensures.noted_2)),
    )

pub any_matches-members-preserved-in-Some-true : goal.any_matches-members-preserved-in-Some-true
any_matches-members-preserved-in-Some-true t c =
    let page = c.args.store.page.now in
    let a = c.args.a in
    let b = c.args.b in
    let s = c.members in
    let m = c.member_of-m.result in
    let ub : is_union (kind_of page b) ≡ true = (rw (← c.kind_of.ensures) (sym c.is_union.ensures ∙ c.if-not-is_union.false)) in
    let r = recalled page s.memo s.invariant.0 m b c.in-Some-true.field-0 true (sym c.in-Some-true.ensures) refl ∙ c.in-Some-true.field-0-test in
    (s.invariant.0, all_more (λ k. has_partner page (member_of page a k) b) s.i s.invariant.1 (rw (← c.member_of-m.ensures.0) (sym (found_union page m b ub) ∙ r)))

pub any_matches-returns-in-Some-false : goal.any_matches-returns-in-Some-false
any_matches-returns-in-Some-false t c =
    let page = c.args.store.page.now in
    let a = c.args.a in
    let b = c.args.b in
    let s = c.members in
    let n = c.members_of-i-end in
    let m = c.member_of-m.result in
    let ub : is_union (kind_of page b) ≡ true = (rw (← c.kind_of.ensures) (sym c.is_union.ensures ∙ c.if-not-is_union.false)) in
    let r = recalled page s.memo s.invariant.0 m b c.in-Some-false.field-0 true (sym c.in-Some-false.ensures) refl ∙ c.in-Some-false.field-0-test in
    (one_alone page a b ub n.result n.ensures s.i c.members-test.true (rw (← c.member_of-m.ensures.0) (sym (found_union page m b ub) ∙ r)), s.invariant.0)

pub any_matches-members-preserved : goal.any_matches-members-preserved
any_matches-members-preserved t c =
    let page = c.args.store.page.now in
    let a = c.args.a in
    let b = c.args.b in
    let s = c.members in
    let m = c.member_of-m.result in
    let j = c.loop-j.j in
    let ub : is_union (kind_of page b) ≡ true = (rw (← c.kind_of.ensures) (sym c.is_union.ensures ∙ c.if-not-is_union.false)) in
    let um : m < types_in page = omega (arith, c.member_of-m.ensures.1, c.requires.a_bound.0) in
    let below : j < arity page b = omega (arith, c.loop-j-test.true, c.arity-j-end.ensures.0) in
    let met = partner_met page m b j below
    (stands_so page m b j c.child_of-e.result c.matches.result true c.child_of-e.ensures.0 c.matches.ensures.value c.if-matches.true) in
    let noted = noted_found page c.matches.new.memo c.matches.ensures.noted_2 m b true um c.requires.a_bound.1 (sym (found_union page m b ub ∙ met)) in
    (rw c.note.ensures noted, all_more (λ k. has_partner page (member_of page a k) b) s.i s.invariant.1 (rw (← c.member_of-m.ensures.0) met))

pub any_matches-loop-j-preserved : goal.any_matches-loop-j-preserved
any_matches-loop-j-preserved t c =
    let page = c.args.store.page.now in
    let l = c.loop-j in
    let m = c.member_of-m.result in
    let e = c.child_of-e in
    let more = any_more (stands page m c.args.b) l.j l.invariant.1 in
    let used : e.result < types_in page = omega (arith, e.ensures.1, c.requires.a_bound.1) in
    let um : m < types_in page = omega (arith, c.member_of-m.ensures.1, c.requires.a_bound.0) in
    elim c.else-not-is_refuted.branch [
      | any_matches-else-not-is_refuted-via-then-not-is_refuted+else-matches w ↦
          (rw w.memo-is w.matches.ensures.noted_2, more (stands_so page m c.args.b l.j e.result w.matches.result false e.ensures.0 w.matches.ensures.value w.if-matches.false))
      | any_matches-else-not-is_refuted-via-else-not-is_refuted w ↦
          let r = refuted_so page (held_by c.args.store.held).sound l.memo l.invariant.0 m um e.result used (sym c.is_refuted.ensures.value ∙ w.if-not-is_refuted.false) in
          (rw w.memo-is c.is_refuted.ensures.noted_2, more (rw (← e.ensures.0) r))
    ]

pub any_matches-note-requires-in-members : goal.any_matches-note-requires-in-members
any_matches-note-requires-in-members t c =
    let um : c.member_of-m.result < types_in c.args.store.page.now = omega (arith, c.member_of-m.ensures.1, c.requires.a_bound.0) in
    let small = stored_small c.args.store.held in
    (small c.member_of-m.result um, small c.args.b c.requires.a_bound.1)

pub any_matches-returns-in-members : goal.any_matches-returns-in-members
any_matches-returns-in-members t c =
    let page = c.args.store.page.now in
    let a = c.args.a in
    let b = c.args.b in
    let s = c.members in
    let l = c.loop-j in
    let n = c.members_of-i-end in
    let m = c.member_of-m.result in
    let ub : is_union (kind_of page b) ≡ true = (rw (← c.kind_of.ensures) (sym c.is_union.ensures ∙ c.if-not-is_union.false)) in
    let um : m < types_in page = omega (arith, c.member_of-m.ensures.1, c.requires.a_bound.0) in
    let all : l.j ≡ arity page b = omega (arith, l.auto.j-end, c.loop-j-test.false, c.arity-j-end.ensures.0) in
    let missed = partner_missed page m b l.j all l.invariant.1 in
    let noted = noted_found page l.memo l.invariant.0 m b false um c.requires.a_bound.1 (sym (found_union page m b ub ∙ missed)) in
    (one_alone page a b ub n.result n.ensures s.i c.members-test.true (rw (← c.member_of-m.ensures.0) missed), rw c.note-in-members.ensures noted)

pub any_matches-returns : goal.any_matches-returns
any_matches-returns t c =
    let page = c.args.store.page.now in
    let s = c.members in
    let n = c.members_of-i-end in
    let ub : is_union (kind_of page c.args.b) ≡ true = (rw (← c.kind_of.ensures) (sym c.is_union.ensures ∙ c.if-not-is_union.false)) in
    (all_met page c.args.a c.args.b ub n.result n.ensures s.i (omega (arith, s.auto.i-end, c.members-test.false)) s.invariant.1, s.invariant.0)

pub matches-returns-in-Unknown-clause-value : goal.matches-returns-in-Unknown-clause-value
matches-returns-in-Unknown-clause-value t c = rw c.in-Unknown.is (to_unknown c.args.store.page.now c.args.actual)

pub matches-returns-in-Function : goal.matches-returns-in-Function
matches-returns-in-Function t c = record {
  value = rw c.in-Function.is (c.function_matches.ensures ∙ from_function c.args.store.page.now c.in-Function.f c.args.expected);
  noted_2 = c.requires.noted;
}

pub matches-returns-in_default-actual-2 : goal.matches-returns-in_default-actual-2
matches-returns-in_default-actual-2 t c = record {
  value = from_unknown c.args.store.page.now c.args.actual c.args.expected c.in_default-actual.not-Function c.in_default-actual-2.not-Known;
  noted_2 = c.requires.noted;
}

-- where both are Known: the numbers are in use, and the answer is that for them
both_known : (page : List ℕ) (actual expected : Checked) (a b : ℕ) → (in_use page actual ≡ true) × (in_use page expected ≡ true) → actual ≡ Known a → expected ≡ Known b
    → (a < types_in page) × (b < types_in page) × (known_matches page a b ≡ matches_def page actual expected)
both_known page actual expected a b h p q =
    let u : in_use page (Known a) ≡ true = rw p at h.0 in
    let v : in_use page (Known b) ≡ true = rw q at h.1 in
    (known_in_use page a u, known_in_use page b v, rw (p, q) (to_known page a b))

pub matches-known_for_function-requires : goal.matches-known_for_function-requires
matches-known_for_function-requires t c =
    let u : in_use c.args.store.page.now (Known c.in-Known.a) ≡ true = rw c.in-Known.is at c.requires.actual_value.0 in
    known_in_use c.args.store.page.now c.in-Known.a u

pub matches-returns-in_default-expected : goal.matches-returns-in_default-expected
matches-returns-in_default-expected t c = record {
  value = rw c.in-Known.is (c.known_for_function.ensures ∙ to_function c.args.store.page.now c.in-Known.a c.args.expected c.in_default.not-Unknown c.in_default-expected.not-Known);
  noted_2 = c.requires.noted;
}

pub matches-is_free-requires : goal.matches-is_free-requires
matches-is_free-requires t c =
    let page = c.args.store.page.now in
    let f = (held_by c.args.store.held).sound in
    let a = c.in-Known.a in
    let b = c.in-Known-expected.b in
    let k = both_known page c.args.actual c.args.expected a b c.requires.actual_value c.in-Known.is c.in-Known-expected.is in
    (k.0, k.1)

pub matches-returns-then-is_free : goal.matches-returns-then-is_free
matches-returns-then-is_free t c =
    let page = c.args.store.page.now in
    let f = (held_by c.args.store.held).sound in
    let a = c.in-Known.a in
    let b = c.in-Known-expected.b in
    let k = both_known page c.args.actual c.args.expected a b c.requires.actual_value c.in-Known.is c.in-Known-expected.is in
    let e = known_free page f b k.1 a (sym c.is_free.ensures ∙ c.if-is_free.true) in
    record { value = sym e ∙ k.2; noted_2 = c.requires.noted }

pub matches-kind_of-requires : goal.matches-kind_of-requires
matches-kind_of-requires t c =
    let page = c.args.store.page.now in
    let f = (held_by c.args.store.held).sound in
    let a = c.in-Known.a in
    let b = c.in-Known-expected.b in
    let k = both_known page c.args.actual c.args.expected a b c.requires.actual_value c.in-Known.is c.in-Known-expected.is in
    k.1

pub matches-find-requires : goal.matches-find-requires
matches-find-requires t c =
    let page = c.args.store.page.now in
    let f = (held_by c.args.store.held).sound in
    let a = c.in-Known.a in
    let b = c.in-Known-expected.b in
    let k = both_known page c.args.actual c.args.expected a b c.requires.actual_value c.in-Known.is c.in-Known-expected.is in
    let u : is_union (kind_of page b) ≡ false = rw (← c.kind_of.ensures) (sym c.is_union.ensures ∙ c.if-not-is_union.true) in
    record { a_bound = (k.0, k.1, u); noted = c.requires.noted }

pub matches-returns-then-not-is_union : goal.matches-returns-then-not-is_union
matches-returns-then-not-is_union t c =
    let page = c.args.store.page.now in
    let f = (held_by c.args.store.held).sound in
    let a = c.in-Known.a in
    let b = c.in-Known-expected.b in
    let k = both_known page c.args.actual c.args.expected a b c.requires.actual_value c.in-Known.is c.in-Known-expected.is in
    let bound = sym c.is_free.ensures ∙ c.if-is_free.false in
    let u : is_union (kind_of page b) ≡ false = rw (← c.kind_of.ensures) (sym c.is_union.ensures ∙ c.if-not-is_union.true) in
    record { value = c.find.ensures.value ∙ sym (known_plain page f b k.1 a k.0 bound u) ∙ k.2; noted_2 = c.find.ensures.noted_2 }

pub matches-any_matches-requires : goal.matches-any_matches-requires
matches-any_matches-requires t c =
    let page = c.args.store.page.now in
    let f = (held_by c.args.store.held).sound in
    let a = c.in-Known.a in
    let b = c.in-Known-expected.b in
    let k = both_known page c.args.actual c.args.expected a b c.requires.actual_value c.in-Known.is c.in-Known-expected.is in
    let w = rw c.in-Known-expected.is at c.decreases in
    (omega (arith, w), (c.requires.noted, (k.0, k.1)))

pub matches-returns-then-any_matches : goal.matches-returns-then-any_matches
matches-returns-then-any_matches t c =
    let page = c.args.store.page.now in
    let f = (held_by c.args.store.held).sound in
    let a = c.in-Known.a in
    let b = c.in-Known-expected.b in
    let k = both_known page c.args.actual c.args.expected a b c.requires.actual_value c.in-Known.is c.in-Known-expected.is in
    let bound = sym c.is_free.ensures ∙ c.if-is_free.false in
    let u : is_union (kind_of page b) ≡ true = rw (← c.kind_of.ensures) (sym c.is_union.ensures ∙ c.if-not-is_union.false) in
    let any = c.any_matches.ensures in
    let is = known_any page f b k.1 a k.0 bound u in
    record { value = sym c.if-any_matches.true ∙ any.0 ∙ sym is ∙ k.2; noted_2 = any.1 }

pub matches-refute-requires : goal.matches-refute-requires
matches-refute-requires t c =
    let page = c.args.store.page.now in
    let f = (held_by c.args.store.held).sound in
    let a = c.in-Known.a in
    let b = c.in-Known-expected.b in
    let k = both_known page c.args.actual c.args.expected a b c.requires.actual_value c.in-Known.is c.in-Known-expected.is in
    (in_use_small page f a k.0, in_use_small page f b k.1)

pub matches-returns : goal.matches-returns
matches-returns t c =
    let page = c.args.store.page.now in
    let f = (held_by c.args.store.held).sound in
    let a = c.in-Known.a in
    let b = c.in-Known-expected.b in
    let k = both_known page c.args.actual c.args.expected a b c.requires.actual_value c.in-Known.is c.in-Known-expected.is in
    let bound = sym c.is_free.ensures ∙ c.if-is_free.false in
    let u : is_union (kind_of page b) ≡ true = rw (← c.kind_of.ensures) (sym c.is_union.ensures ∙ c.if-not-is_union.false) in
    let any = c.any_matches.ensures in
    let is = known_any page f b k.1 a k.0 bound u in
    let no = is ∙ sym any.0 ∙ c.if-any_matches.false in
    let noted = noted_refuting page c.any_matches.new.memo any.1 a b k.0 k.1 (none_partner page f a b k.0 k.1 u no) no in
    record { value = sym no ∙ k.2; noted_2 = rw c.refute.ensures noted }
