-- Prints of names: only names with equal prints need be compared.
use Rattle.std.specs.Prelude.{List, ◌≡◌, ℕ, ◌<◌, ◌≤◌, length, get_or}
use Rattle.chains.specs.Last.{Links}
use Rattle.chains.specs.Prints.{print_of}
use Rattle.names.specs.Table.{offset, name_at}

-- the print of name i
abbrev pub print_at : List ℕ → ℕ → ℕ
print_at page i = print_of (name_at page i)

-- where the first n names stand, and for each the one before it with its print
pub record Chained (page : List ℕ) (n : ℕ) (offsets links : List ℕ) : Type 0 where
  pub inside : offset page n ≤ length page
  pub noted : n ≤ length offsets
  pub linked : n ≤ length links
  pub offset_at : (j : ℕ) → j < n → get_or offsets j 0 ≡ offset page j
  pub link_at : Links (print_at page) links n
