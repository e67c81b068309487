-- Steps of reading that gave something.
use Rattle.std.proofs.Common.{◌≡◌, Bool, true, false, cond, Option, Some, None, refl}
use Rattle.std.specs.Option.{option_map}
use Rattle.edge_case.specs.Reading.{◌>>=◌}

pub bound : {A B : Type 0} (o : Option A) (f : A → Option B) (y : B) → (o >>= f) ≡ Some y → (x : A) × (o ≡ Some x) × (f x ≡ Some y)
bound None f y e = absurd (cc)
bound (Some x) f y e = (x, refl, e)

pub mapped : {A B : Type 0} (o : Option A) (f : A → B) (y : B) → option_map f o ≡ Some y → (x : A) × (o ≡ Some x) × (f x ≡ y)
mapped None f y e = absurd (cc)
mapped (Some x) f y e = (x, refl, cc)

pub guarded : {A : Type 0} (b : Bool) (x y : A) → cond b (Some x) None ≡ Some y → (b ≡ true) × (x ≡ y)
guarded true x y e = (refl, cc)
guarded false x y e = absurd (cc)

pub unguarded : {A : Type 0} (b : Bool) (o : Option A) (y : A) → cond b None o ≡ Some y → (b ≡ false) × (o ≡ Some y)
unguarded true o y e = absurd (cc)
unguarded false o y e = (refl, e)

pub same_value : {A : Type 0} (x y : A) → Some x ≡ Some y → x ≡ y
same_value x y e = cc
