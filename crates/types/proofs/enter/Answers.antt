use Rattle.std.proofs.Common.{◌≡◌, refl, ℕ, ◌≤◌, arith}
use Rattle.types.proofs.Making.{enter_two, enter_end, enter_placed, enter_asks, enter_depth, enter_place, enter_known, enter_deep, enter_many, enter_short, enter_new}
use borrow.Author.Rules.{rules}
use Rattle.types.proofs.enter.Goals as goal

pub count-n-requires : goal.count-n-requires
count-n-requires c =
    enter_two c.args.page.now _ _ _ c.requires

pub find_entry-requires : goal.find_entry-requires
find_entry-requires c =
    let count = c.count-n in
    enter_placed c.args.page.now _ _ _ c.requires count.result count.ensures.0

pub returns-in-Some : goal.returns-in-Some
returns-in-Some c =
    enter_known c.args.page.now _ _ c.args.entry.now c.requires c.count-n.result c.in-Some.k c.count-n.ensures.0
    c.in-Some.ensures.1 c.in-Some.ensures.0

-- where no entry is found
absent : {a b : ℕ} → a ≡ b → b ≤ a
absent e = omega arith

pub entry_depth-depth-requires : goal.entry_depth-depth-requires
entry_depth-depth-requires c =
    enter_asks c.args.page.now _ _ c.args.entry.now c.requires

pub returns-then-depth-gt-DEPTH : goal.returns-then-depth-gt-DEPTH
returns-then-depth-gt-DEPTH c =
    let entry-depth = c.entry_depth-depth in
    let count = c.count-n in
    let a = c.args in
    let d =
    enter_depth a.page.now a.tables.now.offsets a.tables.now.depths a.entry.now c.requires entry-depth.result
    entry-depth.ensures.0 in
    enter_deep a.page.now _ _ a.entry.now c.requires count.result _ count.ensures.0
    refl (absent c.in_default.ensures) entry-depth.result d c.if-depth-gt-DEPTH.true

pub returns-then-n-ge-ENTRIES : goal.returns-then-n-ge-ENTRIES
returns-then-n-ge-ENTRIES c =
    let entry-depth = c.entry_depth-depth in
    let count = c.count-n in
    let if2 = c.if-depth-gt-DEPTH in
    let a = c.args in
    let d =
    enter_depth a.page.now a.tables.now.offsets a.tables.now.depths a.entry.now c.requires entry-depth.result
    entry-depth.ensures.0 in
    enter_many a.page.now _ _ a.entry.now c.requires count.result _ count.ensures.0
    refl (absent c.in_default.ensures) entry-depth.result d if2.false c.if-n-ge-ENTRIES.true

pub overflow_add-end : goal.overflow_add-end
overflow_add-end c =
    let count = c.count-n in
    let a = c.args in
    let e = enter_place a.page.now a.tables.now.offsets a.tables.now.depths a.entry.now c.requires count.result count.ensures.0 in
    search (
      rules,
      e,
      enter_end a.page.now a.tables.now.offsets a.tables.now.depths a.entry.now c.requires count.result
          count.ensures.0,
    )

pub returns-then-page-end : goal.returns-then-page-end
returns-then-page-end c =
    let entry-depth = c.entry_depth-depth in
    let count = c.count-n in
    let if2 = c.if-depth-gt-DEPTH in
    let if3 = c.if-n-ge-ENTRIES in
    let a = c.args in
    let d =
    enter_depth a.page.now a.tables.now.offsets a.tables.now.depths a.entry.now c.requires entry-depth.result
    entry-depth.ensures.0 in
    let e = enter_place a.page.now a.tables.now.offsets a.tables.now.depths a.entry.now c.requires count.result count.ensures.0 in
    enter_short a.page.now _ _ a.entry.now c.requires count.result _ count.ensures.0
    refl (absent c.in_default.ensures) entry-depth.result d if2.false if3.false _ e c.if-page-end.true

pub put_bytes-requires-2 : goal.put_bytes-requires-2
put_bytes-requires-2 c =
    let two =
    enter_two c.args.page.now c.args.tables.now.offsets c.args.tables.now.depths c.args.entry.now
    c.requires in
    search (rules, two)

pub returns : goal.returns
returns c =
    let entry-depth = c.entry_depth-depth in
    let count = c.count-n in
    let put-bytes2 = c.put_bytes-2 in
    let put-bytes = c.put_bytes in
    let count-bytes = c.count_bytes-number in
    let if2 = c.if-depth-gt-DEPTH in
    let if3 = c.if-n-ge-ENTRIES in
    let if4 = c.if-page-end in
    let a = c.args in
    let d =
    enter_depth a.page.now a.tables.now.offsets a.tables.now.depths a.entry.now c.requires entry-depth.result
    entry-depth.ensures.0 in
    let e = enter_place a.page.now a.tables.now.offsets a.tables.now.depths a.entry.now c.requires count.result count.ensures.0 in
    rw (put-bytes2.ensures, put-bytes.ensures, count-bytes.ensures)
    (enter_new a.page.now _ _ a.entry.now c.requires count.result _ count.ensures.0
    refl (absent c.in_default.ensures) entry-depth.result d if2.false if3.false _ e if4.false)
