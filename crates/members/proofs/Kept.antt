-- The store that a check's conclusion leaves: it has grown and is in form, and what is answered is in use. Assumes nothing.
use Rattle.std.proofs.Common.{Result, Ok, Err}
use mathlib.Core.Path.{◌≡◌, refl}
use mathlib.Core.Bool.{true}
use mathlib.Core.List.{List}
use Prim.Native.Nat.{ℕ, ◌<◌}
use native.Mathlib.Omega.{arith}
use Rattle.refusals.specs.declared.Refusal.{Refusal}
use Rattle.types.specs.Store.{Formed}
use Rattle.types.specs.Types.{types_in}
use Rattle.types.specs.Making.{Grows}
use Rattle.types.proofs.Grown.{grows_refl}
use Rattle.matching.specs.Matching.{in_use}
use Rattle.matching.specs.declared.Checked.{Checked}
use Rattle.matching.specs.declared.Checked.TheVariants.{Known, Unknown, Function}
use Rattle.matching.proofs.Matching.{known_in_use, in_use_known}
use Rattle.operators.specs.Outcome.{no_error, outcome, number_of}
use Rattle.operators.specs.declared.Outcome.{Outcome}
use Rattle.members.specs.Members.{Entered, Concluded, concluded, conclude}
use Rattle.members.proofs.Unions.{Sound}

pub record Kept (page : List ℕ) (z : Concluded) : Type 0 where
  pub grown : Grows page z.store
  pub form : Formed z.store
  pub used : (o : Outcome) → z.conclusion ≡ Ok o → in_use z.store o.checked ≡ true

-- Unknown is always in use
pub unknown_used : (page : List ℕ) → in_use page Unknown ≡ true
unfolding in_use
unknown_used page = refl

-- what is in use has a number in use
pub number_used : (page : List ℕ) (c : Checked) → in_use page c ≡ true → number_of c < types_in page
number_used page (Known t) h = known_in_use page t h
number_used page Unknown h = omega arith
number_used page (Function t) h = omega arith

is_inj : (o p : Outcome) → ◌≡◌ {A = Result Outcome Refusal} (Ok o) (Ok p) → o ≡ p
is_inj o p e = cc

-- nothing is entered
pub kept_same : (page : List ℕ) → Formed page → (o : Outcome) → in_use page o.checked ≡ true → Kept page (concluded (Ok o) page)
kept_same page f o l = record { grown = grows_refl page; form = f; used = λ p e. rw (← is_inj o p e) l }

-- what was made is concluded
concluded_used : (page : List ℕ) (m : Result ℕ Refusal) → ((r : ℕ) → m ≡ Ok r → r < types_in page) → (o : Outcome) → conclude m ≡ Ok o
    → in_use page o.checked ≡ true
concluded_used page (Ok t) u o e = rw (← is_inj (outcome (Known t) no_error) o e) (in_use_known page t (u t refl))
concluded_used page (Err r) u o e = absurd (let z : ◌≡◌ {A = ℕ} 0 1 = cc in omega arith)

pub refused_made : (m : Result ℕ Refusal) (r : Refusal) → conclude m ≡ Err r → m ≡ Err r
refused_made (Ok t) r e = absurd (let z : ◌≡◌ {A = ℕ} 0 1 = cc in omega arith)
refused_made (Err q) r e = cc

-- a type that was entered, or its refusal
pub kept_entered : (page : List ℕ) (x : Entered) → Sound page x → Kept page (concluded (conclude x.made) x.store)
kept_entered page x s = record {
  grown = s.grown;
  form = s.form;
  used = concluded_used x.store x.made s.used;
}
