-- Numbers in decimal.
use Rattle.std.specs.Prelude.{cond, List, [], ◌∷◌, ◌++◌, ℕ, zero, suc, ◌+◌, ◌/◌, ◌%◌, ltb}

-- how many digits are written at most
abbrev pub digits_max : ℕ
digits_max = 5

-- the numbers below this have no more
abbrev pub decimal_max : ℕ
decimal_max = 100000

-- the ASCII digit
abbrev pub digit_of : ℕ → ℕ
digit_of n = 48 + n

-- the digits of n, the last k of them at most: those of n / 10, and n % 10
unfoldable pub digits : ℕ → ℕ → List ℕ
digits zero n = []
digits (suc k) n = cond (ltb n 10) (digit_of n ∷ []) (digits k (n / 10) ++ (digit_of (n % 10) ∷ []))

-- a number in decimal
unfoldable pub decimal_of : ℕ → List ℕ
decimal_of n = digits digits_max n
