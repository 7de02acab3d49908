-- The bytes of a lent page, as a list of numbers below 256. "All numbers big-endian" (document 01, "Formulas and sheets").
use Rattle.std.specs.Prelude.{Bool, true, false, ◌&&◌, List, [], ◌∷◌, ℕ, zero, suc, ◌+◌, ◌*◌, ◌/◌, ◌%◌, ◌^◌, length, get_or, eqb, leb}
use Rattle.std.proofs.Math.Seq.{paste}

-- are two lists equal, byte for byte
unfoldable pub eqs : List ℕ → List ℕ → Bool
eqs [] [] = true
eqs [] (y ∷ ys) = false
eqs (x ∷ xs) [] = false
eqs (x ∷ xs) (y ∷ ys) = eqb x y && eqs xs ys

-- is every byte 0
unfoldable pub zeros : List ℕ → Bool
zeros [] = true
zeros (x ∷ xs) = eqb x 0 && zeros xs

-- is x from a to b, both included
abbrev pub within : ℕ → ℕ → ℕ → Bool
within a b x = leb a x && leb x b

-- how many bytes a word, a number below 65,536, takes
abbrev pub word_bytes : ℕ
word_bytes = 2

-- and the count at a page's front
abbrev pub count_bytes : ℕ
count_bytes = word_bytes

-- the number at index i, two bytes big-endian
abbrev pub word_at : List ℕ → ℕ → ℕ
word_at bytes i = get_or bytes i 0 * 256 + get_or bytes (i + 1) 0

-- the count that a page begins with
abbrev pub count_of : List ℕ → ℕ
count_of page = word_at page 0

-- the two bytes that say a number
abbrev pub bytes_of : ℕ → List ℕ
bytes_of n = n / 256 ∷ n % 256 ∷ []

-- numbers, two bytes each
unfoldable pub words : List ℕ → List ℕ
words [] = []
words (n ∷ ns) = n / 256 ∷ n % 256 ∷ words ns

-- the k numbers from index i on, two bytes each
unfoldable pub words_at : List ℕ → ℕ → ℕ → List ℕ
words_at bytes i zero = []
words_at bytes i (suc k) = word_at bytes i ∷ words_at bytes (i + word_bytes) k

-- the k bytes that say a number, big-endian
abbrev pub big_endian : ℕ → ℕ → List ℕ
big_endian zero n = []
big_endian (suc k) n = n / 256 ^ k % 256 ∷ big_endian k n

-- the number that the k bytes from index i on say
abbrev pub number_at : List ℕ → ℕ → ℕ → ℕ
number_at bytes i zero = 0
number_at bytes i (suc k) = number_at bytes i k * 256 + get_or bytes (i + k) 0

-- how many bytes a number of 64 bits takes
abbrev pub long_bytes : ℕ
long_bytes = 8

-- the lowest byte of each number
unfoldable pub low_bytes : List ℕ → List ℕ
low_bytes [] = []
low_bytes (n ∷ ns) = n % 256 ∷ low_bytes ns

-- the page with other bytes from index at on, and every other byte as it was
abbrev pub put : List ℕ → ℕ → List ℕ → List ℕ
put page at bytes = paste page at bytes (length bytes)
