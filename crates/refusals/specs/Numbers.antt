-- Document 01's numbers for the refusals ("Formulas and sheets", the table).
use Rattle.std.specs.Prelude.{ℕ, Result, Ok, Err, ⊤}
use Rattle.refusals.specs.declared.Refusal.{Refusal}
use Rattle.refusals.specs.declared.Refusal.TheVariants.{Undefined, Broken, Unused, Malformed, BadUnit, Width, Depth, Exponent, Symbols, Full, Sheet}

-- what a call with no result but success answers: that it passed, or why not
abbrev pub Verdict : Type 0
Verdict = Result ⊤ Refusal

-- the number of a refusal
abbrev pub number_of : Refusal → ℕ
number_of Undefined = 1
number_of Broken = 2
number_of Unused = 3
number_of Malformed = 4
number_of BadUnit = 5
number_of Width = 6
number_of Depth = 7
number_of Exponent = 8
number_of Symbols = 9
number_of Full = 10
number_of Sheet = 11

-- its place in the order in which refusals are given: "The lowest number that applies comes first"
abbrev pub rank_of : Refusal → ℕ
rank_of r = number_of r

-- an answer as a number: 0 where nothing is refused
abbrev pub code_of : {A : Type 0} → Result A Refusal → ℕ
code_of (Ok a) = 0
code_of (Err r) = number_of r
