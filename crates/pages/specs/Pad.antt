-- How an array of n places holds a list: its elements from place 0 on, and a filler after them.
use Rattle.std.specs.Prelude.{List, [], ◌∷◌, ℕ, zero, suc, length}
use Rattle.pages.specs.declared.Padded.{Padded}

-- n places that hold a list: its first n elements, and fillers d after the last
unfoldable pub pad : {A : Type 0} → ℕ → A → List A → List A
pad zero d xs = []
pad (suc n) d [] = d ∷ pad n d []
pad (suc n) d (x ∷ xs) = x ∷ pad n d xs

-- bytes by value, in n places
abbrev pub padded : (n : ℕ) → List ℕ → Padded n
padded n xs = record { size = length xs; bytes = pad n 0 xs }
