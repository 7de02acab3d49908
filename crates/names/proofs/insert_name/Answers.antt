use mathlib.Core.Path.{◌≡◌, refl, sym, ap, ◌∙◌}
use Prim.Native.Nat.{ℕ, ◌≤◌}
use native.Mathlib.Nat.{le_of_eq}
use native.Mathlib.Omega.{arith}
use lib.ListN.{length}
use Rattle.names.proofs.Calls.{form, fits_to, name_small, add_malformed, add_known, add_many, add_short, add_new}
use Rattle.names.proofs.insert_name.Goals as goal

pub count-n-requires : goal.count-n-requires
count-n-requires c =
    (form c.args.page.now c.requires.0).two

pub find-requires : goal.find-requires
find-requires c =
    let count = c.count-n in
    fits_to c.args.page.now (form c.args.page.now c.requires.0) count.result (le_of_eq count.ensures.0)

pub returns-in-Some : goal.returns-in-Some
returns-in-Some c =
    add_known c.args.limit c.args.page.now c.args.name.now c.requires.0 (sym c.is_name.ensures ∙ c.if-is_name.true) c.count-n.result c.in-Some.k
    c.count-n.ensures.0 c.in-Some.ensures.1 c.in-Some.ensures.0

-- where no name is found
absent : {a b : ℕ} → a ≡ b → b ≤ a
absent e = omega arith

pub returns-then-n-limit : goal.returns-then-n-limit
returns-then-n-limit c =
    let is_name = c.is_name in
    let if1 = c.if-is_name in
    let count = c.count-n in
    let page = c.args.page.now in
    let name = c.args.name.now in
    let w = sym is_name.ensures ∙ if1.true in
    let n = count in
    add_many c.args.limit page name c.requires.0 w n.result _ n.ensures.0 refl (absent c.in_default.ensures) c.if-n-limit.true

pub offset_of-end-requires : goal.offset_of-end-requires
offset_of-end-requires c =
    let count = c.count-n in
    fits_to c.args.page.now (form c.args.page.now c.requires.0) count.result (le_of_eq count.ensures.0)

pub overflow_add-end : goal.overflow_add-end
overflow_add-end c =
    let is_name = c.is_name in
    let if1 = c.if-is_name in
    let count = c.count-n in
    let page = c.args.page.now in
    let z : c.offset_of-end.result ≤ length page = rw c.offset_of-end.ensures (fits_to page (form page c.requires.0) count.result (le_of_eq count.ensures.0)) in
    let y = name_small c.args.name.now (sym is_name.ensures ∙ if1.true) in
    omega arith

pub overflow_add-end-then-is_name : goal.overflow_add-end-then-is_name
overflow_add-end-then-is_name c =
    let is_name = c.is_name in
    let if1 = c.if-is_name in
    let count = c.count-n in
    let page = c.args.page.now in
    let z : c.offset_of-end.result ≤ length page = rw c.offset_of-end.ensures (fits_to page (form page c.requires.0) count.result (le_of_eq count.ensures.0)) in
    let y = name_small c.args.name.now (sym is_name.ensures ∙ if1.true) in
    omega arith

pub returns-then-page-end : goal.returns-then-page-end
returns-then-page-end c =
    let is_name = c.is_name in
    let if1 = c.if-is_name in
    let count = c.count-n in
    let if3 = c.if-n-limit in
    let offset-of = c.offset_of-end in
    let page = c.args.page.now in
    let name = c.args.name.now in
    let w = sym is_name.ensures ∙ if1.true in
    let n = count in
    add_short c.args.limit page name c.requires.0 w n.result _ n.ensures.0 refl (absent c.in_default.ensures) if3.false offset-of.result
    offset-of.ensures c.if-page-end.true

pub overflow_cast-size : goal.overflow_cast-size
overflow_cast-size c =
    let is_name = c.is_name in
    let if1 = c.if-is_name in
    let y = name_small c.args.name.now (sym is_name.ensures ∙ if1.true) in omega arith

pub put_bytes-requires-then-is_name-2 : goal.put_bytes-requires-then-is_name-2
put_bytes-requires-then-is_name-2 c =
    let count-bytes = c.count_bytes-number in
    let put-bytes = c.put_bytes in
    let put-bytes2 = c.put_bytes-then-is_name in
    let a = ap length count-bytes.ensures in
    let t = (form c.args.page.now c.requires.0).two in
    omega (arith, put-bytes.auto.page, put-bytes2.auto.page, a, t)

pub returns-else-page-end : goal.returns-else-page-end
returns-else-page-end c =
    let is_name = c.is_name in
    let if1 = c.if-is_name in
    let count = c.count-n in
    let if3 = c.if-n-limit in
    let offset-of = c.offset_of-end in
    let if4 = c.if-page-end in
    let count-bytes = c.count_bytes-number in
    let put-bytes = c.put_bytes in
    let put-bytes2 = c.put_bytes-then-is_name in
    let put-bytes3 = c.put_bytes-then-is_name-2 in
    let page = c.args.page.now in
    let name = c.args.name.now in
    let w = sym is_name.ensures ∙ if1.true in
    let n = count in
    let d = add_new c.args.limit page name c.requires.0 w n.result _ n.ensures.0 refl (absent c.in_default.ensures) if3.false offset-of.result offset-of.ensures c.in_default.ensures if4.false in
    (d.0, put-bytes3.ensures ∙ rw (put-bytes2.ensures, put-bytes.ensures, count-bytes.ensures) d.1)

pub returns-else-is_name : goal.returns-else-is_name
returns-else-is_name c =
    add_malformed c.args.limit c.args.page.now c.args.name.now c.requires.0 (sym c.is_name.ensures ∙ c.if-is_name.false)
