-- Prints: a number below 1,024 from bytes, so that only what has equal prints need be compared.
use Rattle.std.specs.Prelude.{List, [], ◌∷◌, ℕ, ◌+◌, ◌*◌, ◌/◌, ◌%◌}

-- how many prints there are
abbrev pub prints_max : ℕ
prints_max = 1024

-- a sum is two bytes
abbrev pub sums_max : ℕ
sums_max = 65536

-- what spreads a byte over a sum; it could be any number
abbrev pub spread : ℕ
spread = 40503

-- a sum with bytes mixed in one after another
unfoldable pub mixed : ℕ → List ℕ → ℕ
mixed sum [] = sum
mixed sum (b ∷ bs) = mixed ((sum + b) * spread % sums_max) bs

-- the print of bytes: the upper ten bits of their sum
unfoldable pub print_of : List ℕ → ℕ
print_of bytes = mixed 0 bytes / (sums_max / prints_max)
