-- A head that isn't refused for its method.
use Rattle.std.proofs.Common.{◌≡◌, ◌≢◌, List, ℕ, Bool, true, false, bytes_eq, refl}
use Rattle.std.proofs.lemmas.Slice.Eq.{bytes_eq-Decides}
use Rattle.std.proofs.lemmas.Bool.Decides.{not_from_Decides}
use Rattle.page_http.specs.Head.{served}

by_test : {P : Type 0} (b : Bool) → (b ≡ true → P) → (b ≡ false → P) → P
by_test true holds fails = holds refl
by_test false holds fails = fails refl

pub is_served : (method : List ℕ) → ¬ (method ≢ served) → method ≡ served
is_served method served_alone =
    let decided = bytes_eq-Decides method served in
    by_test (bytes_eq method served) decided.0 (λ differs. absurd (served_alone (not_from_Decides _ decided differs)))
