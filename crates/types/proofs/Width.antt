-- What the code knows of a name's width: it is one byte. Of the other laws only `named_made` (Entries.antt) says so; the rest hold of any
-- width. Assumes nothing.
use mathlib.Core.Path.{◌≡◌, refl}
use mathlib.Core.List.{List, [], ◌∷◌}
use Prim.Native.Nat.{ℕ, ◌+◌, ◌%◌, ◌^◌, ◌≤◌}
use native.Mathlib.Omega.{arith}
use lib.ListN.{get_or}
use Rattle.pages.specs.Bytes.{big_endian}
use Rattle.pages.proofs.Bytes.{number_one, big_one}
use Rattle.names.specs.Table.{names_max}
use Rattle.types.specs.Store.{head_bytes, name_bytes, name_at}

pub name_width : name_bytes ≡ 1
unfolding name_bytes
name_width = refl

pub name_byte_lem : (page : List ℕ) (o : ℕ) → name_at page o ≡ get_or page (o + head_bytes) 0
unfolding name_bytes
name_byte_lem page o = number_one page (o + head_bytes)

pub byte_name : (m : ℕ) → big_endian name_bytes m ≡ m % 256 ∷ []
unfolding name_bytes
byte_name m = big_one m

-- the number of every name there can be fits
pub names_fit : names_max ≤ 256 ^ name_bytes
unfolding name_bytes
names_fit = omega arith
