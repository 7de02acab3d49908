-- The first refusal of a list of conditions: what it is (`lowest_is`), and how it is found from the front: a condition that does not
-- hold falls away by computation, and one that holds and has no earlier refusal behind it is the verdict. Assumes nothing.
use Rattle.std.proofs.Common.{Ok, Err, is_err}
use mathlib.Core.Path.{◌≡◌, refl, sym, ◌∙◌, ap}
use mathlib.Core.Logic.{◌↔◌}
use mathlib.Core.Bool.{Bool, true, false, cond, ◌&&◌, and-eq-true_iff}
use mathlib.Core.List.{List, [], ◌∷◌}
use Prim.Native.Nat.{ℕ, ◌≤◌}
use native.Mathlib.Nat.{le_refl}
use native.Mathlib.Omega.{arith}
use lib.Dec.{leb}
use lib.ListN.{get_or}
use borrow.Author.Tests.{leb-true, leb-false}
use Rattle.refusals.specs.Numbers.{rank_of, Verdict}
use Rattle.refusals.specs.Lowest.{Condition, ◌when◌, lower, lowest, unless_refused, answer_of}
use Rattle.refusals.specs.declared.Refusal.{Refusal}
use Rattle.refusals.specs.declared.Refusal.TheVariants.{Undefined, Broken, Unused, Malformed, BadUnit, Width, Depth, Exponent, Symbols, Full, Sheet}

-- no condition of the list has a refusal before r, whether or not it holds
abbrev pub above : Refusal → List Condition → Bool
above r [] = true
above r ((s when b) ∷ cs) = leb (rank_of r) (rank_of s) && above r cs

-- one more verdict behind r, which comes no earlier
lower_more : (r s : Refusal) (v : Verdict) → leb (rank_of r) (rank_of s) ≡ true → lower r v ≡ Err r → lower r (lower s v) ≡ Err r
lower_more r s (Ok _) h e = rw h
lower_more r s (Err t) h e = go (leb (rank_of s) (rank_of t))
  where
    go : (b : Bool) → lower r (Err (cond b s t)) ≡ Err r
    go true = rw h
    go false = e

pub first_holds : (r : Refusal) (cs : List Condition) → above r cs ≡ true → lower r (lowest cs) ≡ Err r
first_holds r [] h = refl
first_holds r ((s when b) ∷ cs) h =
    let k = (and-eq-true_iff (leb (rank_of r) (rank_of s)) (above r cs)).0 h in
    go b k.0 (first_holds r cs k.1)
  where
    go : (b : Bool) → leb (rank_of r) (rank_of s) ≡ true → lower r (lowest cs) ≡ Err r → lower r (cond b (lower s (lowest cs)) (lowest cs)) ≡ Err r
    go true l ih = lower_more r s (lowest cs) l ih
    go false l ih = ih

-- nothing is refused only where no condition holds
pub passed_parts : (r : Refusal) (b : Bool) (cs : List Condition) → lowest ((r when b) ∷ cs) ≡ Ok tt → (b ≡ false) × (lowest cs ≡ Ok tt)
passed_parts r true cs h = absurd (never (lowest cs) h)
  where
    never : (v : Verdict) → lower r v ≡ Ok tt → ⊥
    never (Ok _) e = let z : ◌≡◌ {A = ℕ} 0 1 = cc in omega arith
    never (Err s) e = let z : ◌≡◌ {A = ℕ} 0 1 = cc in omega arith
passed_parts r false cs h = (refl, h)

-- what is not refused has passed
pub passed_is : (v : Verdict) → is_err v ≡ false → v ≡ Ok tt
passed_is (Ok _) h = refl
passed_is (Err r) h = let z : ◌≡◌ {A = ℕ} 0 1 = cc in absurd (omega arith)

-- ---- a value that only a call that passes changes

pub kept : {A : Type 0} (v : Verdict) (new old : A) → is_err v ≡ true → old ≡ unless_refused v new old
kept (Ok _) new old h = let z : ◌≡◌ {A = ℕ} 0 1 = cc in absurd (omega arith)
kept (Err r) new old h = refl

pub changed : {A : Type 0} (v : Verdict) (new old : A) → is_err v ≡ false → new ≡ unless_refused v new old
changed (Ok _) new old h = refl
changed (Err r) new old h = let z : ◌≡◌ {A = ℕ} 0 1 = cc in absurd (omega arith)

-- ---- what the verdict is

-- the refusal r is listed with a condition that holds
pub data Applies (r : Refusal) : List Condition → Type 0 where
  here : {cs : List Condition} → Applies r ((r when true) ∷ cs)
  later : {c : Condition} {cs : List Condition} → Applies r cs → Applies r (c ∷ cs)

-- nothing that applies comes before r
abbrev pub NoneBefore : Refusal → List Condition → Type 0
NoneBefore r cs = (s : Refusal) → Applies s cs → rank_of r ≤ rank_of s

-- the refusal of a rank; there is none of rank 0
of_rank : ℕ → Refusal
of_rank n = get_or (Sheet ∷ Undefined ∷ Broken ∷ Unused ∷ Malformed ∷ BadUnit ∷ Width ∷ Depth ∷ Exponent ∷ Symbols ∷ Full ∷ []) n Sheet

rank_back : (r : Refusal) → of_rank (rank_of r) ≡ r
unfolding of_rank
rank_back Undefined = refl
rank_back Broken = refl
rank_back Unused = refl
rank_back Malformed = refl
rank_back BadUnit = refl
rank_back Width = refl
rank_back Depth = refl
rank_back Exponent = refl
rank_back Symbols = refl
rank_back Full = refl
rank_back Sheet = refl

-- two refusals of one rank are one
pub rank_one : (r s : Refusal) → rank_of r ≡ rank_of s → r ≡ s
rank_one r s e = sym (rank_back r) ∙ ap of_rank e ∙ rank_back s

-- where a condition applies, the call is refused
refused_by : (s : Refusal) (cs : List Condition) → Applies s cs → lowest cs ≡ Ok tt → ⊥
refused_by s [] a h = elim a [ ]
refused_by s ((t when b) ∷ cs) here h = let e = (passed_parts s true cs h).0 in let z : ◌≡◌ {A = ℕ} 0 1 = cc in omega arith
refused_by s ((t when b) ∷ cs) (later a) h = refused_by s cs a (passed_parts t b cs h).1

-- a refusal that is given applies, and nothing that applies comes before it
given : (cs : List Condition) (r : Refusal) → lowest cs ≡ Err r → Applies r cs × NoneBefore r cs
given [] r h = let z : ◌≡◌ {A = ℕ} 0 1 = cc in absurd (omega arith)
given ((t when false) ∷ cs) r h = let k = given cs r h in (later k.0, skip k.1)
  where
    skip : NoneBefore r cs → NoneBefore r ((t when false) ∷ cs)
    skip n s (later a) = n s a
given ((t when true) ∷ cs) r h = go (lowest cs) refl (λ u. given cs u) h
  where
    go : (v : Verdict) → lowest cs ≡ v → ((u : Refusal) → v ≡ Err u → Applies u cs × NoneBefore u cs) → lower t v ≡ Err r → Applies r ((t when true) ∷ cs) × NoneBefore r ((t when true) ∷ cs)
    go (Ok _) e rest h = let q : t ≡ r = cc in (rw (← q) here, none q)
      where
        none : t ≡ r → NoneBefore r ((t when true) ∷ cs)
        none q s here = rw (← q) (le_refl (rank_of t))
        none q s (later a) = absurd (refused_by s cs a e)
    go (Err u) e rest h = choose (leb (rank_of t) (rank_of u)) refl h
      where
        k : Applies u cs × NoneBefore u cs
        k = rest u refl

        choose : (b : Bool) → leb (rank_of t) (rank_of u) ≡ b → ◌≡◌ {A = Verdict} (Err (cond b t u)) (Err r) → Applies r ((t when true) ∷ cs) × NoneBefore r ((t when true) ∷ cs)
        choose true l h = let q : t ≡ r = cc in (rw (← q) here, none q)
          where
            none : t ≡ r → NoneBefore r ((t when true) ∷ cs)
            none q s here = rw (← q) (le_refl (rank_of t))
            none q s (later a) = let f = leb-true (rank_of t) (rank_of u) l in let g = k.1 s a in rw (← q) (omega arith)
        choose false l h = let q : u ≡ r = cc in (rw (← q) (later k.0), none q)
          where
            none : u ≡ r → NoneBefore r ((t when true) ∷ cs)
            none q s here = let f = leb-false (rank_of t) (rank_of u) l in rw (← q) (omega arith)
            none q s (later a) = rw (← q) (k.1 s a)

-- Refused r exactly if r applies and nothing that applies comes before it
pub lowest_is : (cs : List Condition) (r : Refusal) → (lowest cs ≡ Err r) ↔ (Applies r cs × NoneBefore r cs)
lowest_is cs r = (given cs r, back)
  where
    back : Applies r cs × NoneBefore r cs → lowest cs ≡ Err r
    back a = go (lowest cs) refl
      where
        go : (v : Verdict) → lowest cs ≡ v → v ≡ Err r
        go (Ok _) e = absurd (refused_by r cs a.0 e)
        go (Err s) e = let k = given cs s e in let f = k.1 r a.0 in let g = a.1 s k.0 in ap Err (rank_one s r (omega arith))

-- and passed exactly if nothing applies
pub lowest_passes : (cs : List Condition) → (lowest cs ≡ Ok tt) ↔ ((r : Refusal) → ¬ (Applies r cs))
lowest_passes cs = (λ e r a. refused_by r cs a e, back)
  where
    back : ((r : Refusal) → ¬ (Applies r cs)) → lowest cs ≡ Ok tt
    back n = go (lowest cs) refl
      where
        go : (v : Verdict) → lowest cs ≡ v → v ≡ Ok tt
        go (Ok _) e = refl
        go (Err s) e = absurd (n s (given cs s e).0)

-- ---- what a call that passes answers, or the refusal

pub answer_of_ok : {A : Type 0} (v : Verdict) (a x : A) → Ok x ≡ answer_of v a → (v ≡ Ok tt) × (x ≡ a)
answer_of_ok (Ok _) a x e = (refl, cc)
answer_of_ok (Err r) a x e = let z : ◌≡◌ {A = ℕ} 0 1 = cc in absurd (omega arith)

pub answer_of_err : {A : Type 0} (v : Verdict) (a : A) (r : Refusal) → Err r ≡ answer_of v a → v ≡ Err r
answer_of_err (Ok _) a r e = let z : ◌≡◌ {A = ℕ} 0 1 = cc in absurd (omega arith)
answer_of_err (Err s) a r e = cc

-- ---- of one condition

-- an answer is there only where it does not hold
pub one_ok : {A : Type 0} (r : Refusal) (b : Bool) (a x : A) → Ok x ≡ answer_of (lowest ((r when b) ∷ [])) a → (b ≡ false) × (x ≡ a)
one_ok r b a x e = let k = answer_of_ok (lowest ((r when b) ∷ [])) a x e in ((passed_parts r b [] k.0).0, k.1)

-- and a refusal only where it does
pub verdict_err : (r : Refusal) (b : Bool) (s : Refusal) → Err s ≡ lowest ((r when b) ∷ []) → (b ≡ true) × (s ≡ r)
verdict_err r true s e = (refl, cc)
verdict_err r false s e = let z : ◌≡◌ {A = ℕ} 0 1 = cc in absurd (omega arith)

pub one_err : {A : Type 0} (r : Refusal) (b : Bool) (a : A) (s : Refusal) → Err s ≡ answer_of (lowest ((r when b) ∷ [])) a → (b ≡ true) × (s ≡ r)
one_err r true a s e = (refl, cc)
one_err r false a s e = let z : ◌≡◌ {A = ℕ} 0 1 = cc in absurd (omega arith)
