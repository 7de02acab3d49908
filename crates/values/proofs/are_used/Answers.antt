use Rattle.std.proofs.Common.{rules, tests, ◌≡◌, ap, ◌∙◌, arith}
use Rattle.std.proofs.lemmas.Iterator.{YieldsList-from_slice, YieldsList-from_take}
use Rattle.std.proofs.lemmas.Iterator.Adapters.{YieldsList-from_skip}
use Rattle.std.proofs.lemmas.Iterator.Search.{all_from_yields_List}
use Rattle.std.specs.Iterator.Adapters.{step_by_source, step_by_gap, take_source}
use Rattle.names.specs.Calls.{is_used}
use Rattle.values.proofs.Strides.{YieldsList-from_step_by}
use Rattle.values.proofs.Used.{symbols_strided}
use Rattle.values.proofs.are_used.Goals as goal

pub returns : goal.returns
returns c =
    let a = c.args in
    let behind = YieldsList-from_skip {s = step_by_source (take_source c.take.result)} 1 (YieldsList-from_slice a.bytes.now cc) cc in
    let gap : step_by_gap c.step_by.result ≡ 2 = omega (arith, c.step_by.ensures.step_minus_one) in
    let apart = YieldsList-from_step_by {s = take_source c.take.result} 2 behind (search (rules, tests)) (ap step_by_gap c.take.ensures.source ∙ gap) in
    let all = all_from_yields_List (is_used a.n) _ _ _ c.all.ensures.ran (YieldsList-from_take c.symbols_said.result apart c.take.ensures.count) (λ x b q h. search (rules, tests)) in
    all ∙ rw c.symbols_said.ensures.0 (symbols_strided a.n a.bytes.now)
