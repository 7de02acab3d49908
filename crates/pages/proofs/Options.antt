-- What a test says where a value is there, or is not, by it. Assumes nothing.
use Rattle.std.specs.Prelude.{unwrap_or}
use Rattle.std.proofs.Common.{Some, None}
use Rattle.std.proofs.lemmas.Option.{none-some}
use mathlib.Core.Bool.{Bool, true, false, cond}
use mathlib.Core.Path.{◌≡◌, refl}

pub none_cond : {A : Type 0} (b : Bool) (x : A) → None ≡ cond b (Some x) None → b ≡ false
none_cond true x e = absurd (none-some x e)
none_cond false x e = refl

pub cond_or : {A : Type 0} (b : Bool) (x y : A) → unwrap_or (cond b (Some x) None) y ≡ cond b x y
cond_or true x y = refl
cond_or false x y = refl
