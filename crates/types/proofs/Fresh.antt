-- A page of zeros is a store in form, of the fixed types alone. Assumes nothing.
use mathlib.Core.Path.{◌≡◌}
use mathlib.Core.Bool.{true}
use Prim.Native.Nat.{ℕ, ◌≤◌}
use native.Mathlib.Omega.{arith}
use lib.ListN.{length, replicate, length-replicate}
use borrow.Author.Tests.{le-leb}
use Rattle.pages.specs.Bytes.{count_bytes, count_of}
use Rattle.pages.proofs.Quant.{all_none}
use Rattle.pages.proofs.Bytes.{zeros_made, made_at, zeros_drop}
use Rattle.types.specs.Store.{offset, good_at, formed}

pub zeros_formed : (len n : ℕ) → count_bytes ≤ len → formed (replicate len 0) n ≡ true
unfolding formed offset
zeros_formed len n h =
    let none : count_of (replicate len 0) ≡ 0 = let a = made_at len 0 in let b = made_at len 1 in omega (arith, a, b) in
    let size : length {A = ℕ} (replicate len 0) ≡ len = length-replicate len 0 in
    let two : count_bytes ≤ length {A = ℕ} (replicate len 0) = omega (arith, size) in
    rw (le-leb count_bytes (length {A = ℕ} (replicate len 0)) two, none, all_none (good_at (replicate len 0) n)) (zeros_drop (replicate len 0) count_bytes (zeros_made len))
