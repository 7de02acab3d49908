-- Texts written one after another into a page. Assumes nothing.
use mathlib.Core.Path.{◌≡◌, sym, ◌∙◌}
use mathlib.Core.List.{List, [], ◌++◌}
use Prim.Native.Nat.{ℕ, ◌+◌, ◌≤◌}
use native.Mathlib.Omega.{arith}
use lib.ListN.{length, length-append}
use Rattle.pages.specs.Bytes.{put}
use Rattle.pages.proofs.Put.{put_none, put_append}

-- a text from index at on makes the page o the page p, and ends at r
abbrev pub Wrote : List ℕ → ℕ → List ℕ → ℕ → List ℕ → Type 0
Wrote o at t r p = (r ≡ at + length t) × (p ≡ put o at t)

-- no text leaves the page as it is
pub wrote_none : (o : List ℕ) (at : ℕ) → Wrote o at [] at o
wrote_none o at = (omega arith, sym (put_none o at))

-- what was written is the text meant
pub spelled : (o : List ℕ) (at : ℕ) (t u : List ℕ) (r : ℕ) (p : List ℕ) → t ≡ u → Wrote o at t r p → Wrote o at u r p
spelled o at t u r p e h = (h.0 ∙ rw e, h.1 ∙ rw e)

-- one text, and another behind it
pub wrote_both : (o : List ℕ) (at : ℕ) (t : List ℕ) (r : ℕ) (p u : List ℕ) (s : ℕ) (q : List ℕ) → at + length t + length u ≤ length o → Wrote o at t r p → Wrote p r u s q → Wrote o at (t ++ u) s q
wrote_both o at t r p u s q fits h k = (omega (arith, h.0, k.0, length-append t u), k.1 ∙ rw (h.1, h.0) (put_append o at t u fits))
