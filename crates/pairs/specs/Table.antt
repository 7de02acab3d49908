-- The table of conversion pairs by value, and insertion (document 01, "Units and pairs"). How many name numbers are in use is
-- the parameter n: every number that a table can have where no names are lent.
use Rattle.std.specs.Prelude.{Bool, ◌&&◌, not, List, [], ◌∷◌, ◌++◌, ℕ, zero, suc, ◌+◌, ◌*◌, leb, get_or, replicate, Result}
use Rattle.refusals.specs.Lowest.{◌when◌, lowest, unless_refused, answer_of}
use Rattle.refusals.specs.declared.Refusal.{Refusal}
use Rattle.refusals.specs.declared.Refusal.TheVariants.{Broken, Unused, Full}
use Rattle.refusals.specs.Numbers.{Verdict}
use Rattle.pages.specs.Quant.{all_to}
use Rattle.pages.specs.Bytes.{eqs, big_endian, long_bytes, put}
use Rattle.names.specs.Table.{names_max}
use Rattle.names.specs.Calls.{is_used}
use Rattle.groups.specs.Groups.{Pair, pair, selves, parents_of}
use Rattle.pairs.specs.declared.ConversionTable.{ConversionTable}

-- "512 at most": how many pairs a table has
abbrev pub pairs_max : ℕ
pairs_max = 512

-- where a pair's base stands, after its symbol
abbrev pub base_at : ℕ
base_at = 1

-- where its factor begins
abbrev pub factor_at : ℕ
factor_at = 2

-- "P symbol, base, 8 factor bytes": how many bytes a pair takes
abbrev pub pair_bytes : ℕ
pair_bytes = factor_at + long_bytes

-- the bytes of a pair
abbrev pub body_of : ℕ → ℕ → ℕ → List ℕ
body_of s f b = s ∷ b ∷ big_endian long_bytes f

-- ---- what a table lists

-- pair i of bodies that stand one after another
abbrev pub pair_at : List ℕ → ℕ → Pair
pair_at bodies i = pair (get_or bodies (pair_bytes * i) 0) (get_or bodies (pair_bytes * i + base_at) 0)

-- the pair that the bytes of one say
abbrev pub said : List ℕ → Pair
said body = pair (get_or body 0 0) (get_or body base_at 0)

-- the first k pairs
unfoldable pub pairs_in : List ℕ → ℕ → List Pair
pairs_in bodies zero = []
pairs_in bodies (suc k) = pairs_in bodies k ++ (pair_at bodies k ∷ [])

-- the pairs that a table lists: those at its first `count` places
abbrev pub listed : ConversionTable → List Pair
listed t = pairs_in t.pairs t.count

-- a table without pairs, "one without pairs included": each symbol its own parent
abbrev pub fresh_table : ConversionTable
fresh_table = record { count = 0; pairs = replicate (pair_bytes * pairs_max) 0; parents = selves 0 names_max }

-- ---- a table in form

-- are both symbols of a pair numbers in use
abbrev pub both_used : ℕ → Pair → Bool
both_used n q = is_used n q.symbol && is_used n q.base

-- are those of pair i of bodies
abbrev pub used_at : List ℕ → ℕ → ℕ → Bool
used_at bodies n i = both_used n (pair_at bodies i)

-- at most 512 pairs, no symbol that is not in use, and the parents "just as the pairs give them"
unfoldable pub formed : ConversionTable → ℕ → Bool
formed t n = leb t.count pairs_max && (all_to t.count (used_at t.pairs n) && eqs t.parents (parents_of names_max (listed t)))

-- ---- insertion

-- why it is refused, if it is: 2 the table, 3 a symbol not in use, 10 no place for one more
unfoldable pub insert_verdict : ConversionTable → ℕ → Pair → Verdict
insert_verdict t n q =
    lowest ((Broken when not (formed t n)) ∷ (Unused when not (both_used n q)) ∷ (Full when leb pairs_max t.count) ∷ [])

-- the table with one more pair behind the last, "repeats included", and the parents that the pairs then give
unfoldable pub with_pair : ConversionTable → ℕ → ℕ → ℕ → ConversionTable
with_pair t s f b = record {
  count = t.count + 1;
  pairs = put t.pairs (pair_bytes * t.count) (body_of s f b);
  parents = parents_of names_max (listed t ++ (pair s b ∷ []));
}

-- what the insertion of a pair (s, b) with factor f answers: the table with it, or the refusal
unfoldable pub insertion : ConversionTable → ℕ → ℕ → ℕ → ℕ → Result ConversionTable Refusal
insertion t n s f b = answer_of (insert_verdict t n (pair s b)) (with_pair t s f b)

-- the table afterwards: as it was where the insertion is refused
unfoldable pub after_insertion : ConversionTable → ℕ → ℕ → ℕ → ℕ → ConversionTable
after_insertion t n s f b = unless_refused (insert_verdict t n (pair s b)) (with_pair t s f b) t
