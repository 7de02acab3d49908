-- What a row of the program looks at: no name bound, the answers of operators and indexing, and refusals.
use Rattle.units.specs.declared.Unit.{Unit}
use Rattle.refusals.specs.Numbers.{code_of}
use Rattle.refusals.specs.declared.Refusal.{Refusal}
use Rattle.std.specs.Prelude.{◌≡◌, List, [], ◌∷◌, ℕ, replicate, Result, Ok, Option, Some, None}
use Rattle.matching.specs.declared.Checked.{Checked}
use Rattle.matching.specs.declared.Checked.TheVariants.{Known}
use Rattle.bindings.specs.Bindings.{bindings_max}
use Rattle.bindings.specs.declared.Bindings.{Bindings}
use Rattle.pairs.specs.Page.{size_of}
use Rattle.pairs.specs.Calls.{empty_page, page_after}
use Rattle.sums.specs.Calls.{convert_answer}
use Rattle.operators.specs.declared.Errors.{Errors}
use Rattle.answers.specs.Calls.{binary_answer, unary_answer, unary_page, index_answer, index_page}
use Rattle.answers.specs.declared.CheckedExpr.{CheckedExpr}
use Rattle.answers.specs.declared.Answered.{Answered}

-- no name bound
abbrev pub unbound : Bindings
unbound = record { count = 0; names = replicate bindings_max 0; types = replicate bindings_max 0 }

-- ---- answers

-- an answer of these parts
abbrev pub passed : Checked → Option Unit → Errors → Result Answered Refusal
passed c u e = Ok (record { checked = c; unit = u; errors = e })

-- a store of Any(Int, Float), Any(Int), Tuple(Int) and Array Float
abbrev pub unions : List ℕ
unions = 0 ∷ 4 ∷ 2 ∷ 29 ∷ 0 ∷ 1 ∷ 0 ∷ 5 ∷ 1 ∷ 29 ∷ 0 ∷ 1 ∷ 1 ∷ 27 ∷ 0 ∷ 1 ∷ 1 ∷ 19 ∷ 0 ∷ 5 ∷ []

-- a table of the names m, s, mm and in
abbrev pub symbols : List ℕ
symbols = 0 ∷ 4 ∷ 1 ∷ 109 ∷ 1 ∷ 115 ∷ 2 ∷ 109 ∷ 109 ∷ 2 ∷ 105 ∷ 110 ∷ []

-- 25.4, as the bits of an f64
abbrev pub factor : ℕ
factor = 4627842682090579558

-- a table of the pair (in, mm)
abbrev pub inch_table : List ℕ
inch_table = page_after (empty_page (replicate (size_of 1) 0)) (Some symbols) 3 factor 2

-- what a binary operator answers over these
abbrev pub BinaryRow : ℕ → CheckedExpr → CheckedExpr → Result Answered Refusal → Type 0
BinaryRow op x y a = binary_answer unions (Some symbols) inch_table op x y ≡ a

-- what an operator answers for one operand, entering nothing
abbrev pub UnaryRow : ℕ → CheckedExpr → Result Answered Refusal → Type 0
UnaryRow op x a = (unary_answer unions (Some symbols) op x ≡ a) × (unary_page unions (Some symbols) op x ≡ unions)

-- what indexing by an Int answers, entering nothing
abbrev pub IndexRow : CheckedExpr → Result Answered Refusal → Type 0
IndexRow x a = (index_answer unions (Some symbols) x (Known 1) ≡ a) × (index_page unions (Some symbols) x (Known 1) ≡ unions)

-- ---- refusals

-- the number of the refusal of asking whether two units convert, without names lent
abbrev pub ConvertRow : Option Unit → Option Unit → ℕ → Type 0
ConvertRow x y r = code_of (convert_answer inch_table None x y) ≡ r

-- how many names are said to be in use: more than there can be
abbrev pub in_use_said : ℕ
in_use_said = 300
