-- The next symbol as it is looked for. proofs/Gather.antt shows that the sums that are gathered so are those of specs/Sums.antt.
use Rattle.std.specs.Prelude.{◌&&◌, List, ℕ, Option, min, filter, ltb, leb}
use Rattle.std.specs.List.{reduce}

-- the least of those symbols that are lo or more and below n
abbrev pub next_from : ℕ → ℕ → List ℕ → Option ℕ
next_from lo n ss = reduce min (filter (λ s. leb lo s && ltb s n) ss)
