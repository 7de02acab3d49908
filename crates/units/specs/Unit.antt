-- A unit: "at most eight symbols, each once, ascending by number, with a nonzero exponent from −1,000 to 1,000"
-- (document 01, "Units and pairs").
use Rattle.std.specs.Prelude.{Bool, true, ◌&&◌, not, cond, List, [], ◌∷◌, ℕ, suc, ltb, leb, eqb, length, ℤ, pos, nat_abs, ◌+ℤ◌}
use Rattle.names.specs.Calls.{is_used}

-- how many symbols a unit has at most
abbrev pub places_max : ℕ
places_max = 8

-- how large an exponent can be, either way
abbrev pub exponent_max : ℕ
exponent_max = 1000

-- a symbol's number and its exponent
pub record Term : Type 0 where
  pub symbol : ℕ
  pub exp : ℤ

-- a term of a symbol and an exponent
abbrev pub term : ℕ → ℤ → Term
term s e = record { symbol = s; exp = e }

-- is an exponent zero
abbrev pub is_zero : ℤ → Bool
is_zero e = eqb (nat_abs e) 0

-- outside −1,000 to 1,000
abbrev pub outside : ℤ → Bool
outside e = ltb exponent_max (nat_abs e)

-- symbols ascend, from lo on and below n, and each has a nonzero exponent within the limits
abbrev pub ordered : ℕ → ℕ → List Term → Bool
ordered n lo [] = true
ordered n lo (x ∷ xs) =
    leb lo x.symbol && (ltb x.symbol n && (not (is_zero x.exp) && (not (outside x.exp) && ordered n (suc x.symbol) xs)))

-- a unit in form: at most p symbols, each the number of one of n names
unfoldable pub formed : ℕ → ℕ → List Term → Bool
formed p n xs = leb (length xs) p && ordered n 0 xs

-- what a term adds to the exponent of s
abbrev pub part : ℕ → Term → ℤ
part s x = cond (eqb s x.symbol) x.exp (pos 0)

-- the exponent of s: the sum over the terms that have it, so 0 where none does
abbrev pub exponent : ℕ → List Term → ℤ
exponent s [] = pos 0
exponent s (x ∷ xs) = part s x +ℤ exponent s xs

-- is every symbol in use, where n names are in use
unfoldable pub in_use : ℕ → List Term → Bool
in_use n [] = true
in_use n (x ∷ xs) = is_used n x.symbol && in_use n xs
