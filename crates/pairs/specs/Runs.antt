-- Lists of insertions, "refused ones included", each into the table "as the last one left it" (document 01, "Formulas and sheets").
use Rattle.std.specs.Prelude.{◌≡◌, Bool, false, not, cond, List, [], ◌∷◌, ◌++◌, ℕ, ◌≤◌, Option, is_err}
use Rattle.names.specs.Calls.{lent_broken, used_of}
use Rattle.groups.specs.Groups.{Pair, pair}
use Rattle.pairs.specs.Table.{body_of, listed, insert_verdict, after_insertion}
use Rattle.pairs.specs.Page.{listed_in}
use Rattle.pairs.specs.Calls.{pair_verdict, page_after}
use Rattle.pairs.specs.declared.ConversionTable.{ConversionTable}

-- ---- of any kind of table T and of request R

-- the table after all requests
abbrev pub after_all : {T R : Type 0} → (T → R → T) → T → List R → T
after_all after t [] = t
after_all after t (r ∷ rs) = after_all after (after t r) rs

-- what the requests add "to whose insertion no refusal applies", one after another
abbrev pub taken_by : {T R A : Type 0} → (T → R → T) → (T → R → Bool) → (R → List A) → T → List R → List A
taken_by after accepts adds t [] = []
taken_by after accepts adds t (r ∷ rs) = cond (accepts t r) (adds r) [] ++ taken_by after accepts adds (after t r) rs

-- ---- a page

-- a request for an insertion, with names or none
pub record Request : Type 0 where
  pub names : Option (List ℕ)
  pub symbol : ℕ
  pub factor : ℕ
  pub base : ℕ

-- the pair that is asked for
abbrev pub asked : Request → Pair
asked r = pair r.symbol r.base

-- its bytes
abbrev pub body_asked : Request → List ℕ
body_asked r = body_of r.symbol r.factor r.base

-- the request has at most n numbers in use, if its names are in form; without names that is every number that a table can have
abbrev pub UsesAtMost : ℕ → Request → Type 0
UsesAtMost n r = lent_broken r.names ≡ false → used_of r.names ≤ n

-- does no refusal apply
abbrev pub accepts : List ℕ → Request → Bool
accepts page r = not (is_err (pair_verdict page r.names (asked r)))

-- the page after one request
abbrev pub after : List ℕ → Request → List ℕ
after page r = page_after page r.names r.symbol r.factor r.base

-- the page after a list of requests
abbrev pub page_after_all : List ℕ → List Request → List ℕ
page_after_all page rs = after_all after page rs

-- "Accepted pairs are those listed in the table at the start and those to whose insertion no refusal applies"
abbrev pub accepted_pairs : List ℕ → List Request → List Pair
accepted_pairs page rs = listed_in page ++ taken_by after accepts (λ r. asked r ∷ []) page rs

-- ---- a table by value

-- a request for an insertion, with the number of names in use
pub record TableRequest : Type 0 where
  pub used : ℕ
  pub symbol : ℕ
  pub factor : ℕ
  pub base : ℕ

-- the pair that is asked for
abbrev pub table_asked : TableRequest → Pair
table_asked r = pair r.symbol r.base

-- does no refusal apply
abbrev pub table_accepts : ConversionTable → TableRequest → Bool
table_accepts t r = not (is_err (insert_verdict t r.used (table_asked r)))

-- the table after one request
abbrev pub table_after : ConversionTable → TableRequest → ConversionTable
table_after t r = after_insertion t r.used r.symbol r.factor r.base

-- the table after a list of requests
abbrev pub table_after_all : ConversionTable → List TableRequest → ConversionTable
table_after_all t rs = after_all table_after t rs

-- the pairs listed at the start, and those that are accepted on the way
abbrev pub table_accepted_pairs : ConversionTable → List TableRequest → List Pair
table_accepted_pairs t rs = listed t ++ taken_by table_after table_accepts (λ r. table_asked r ∷ []) t rs
