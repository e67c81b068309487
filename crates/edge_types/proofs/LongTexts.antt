-- A text that is too long to be resolved stands for no URL.
use Rattle.std.proofs.Common.{◌≡◌, ℕ, false, nat_le, List, length, Option, Some, None, Ok, Err, refl}
use Rattle.url.specs.Parts.{Parts}
use Rattle.url.specs.Parser.{Parsed, parse_url}
use Rattle.edge_types.specs.Asked.{resolvable, asked, resolve}

not_resolvable : (text : List ℕ) → nat_le (length text) 8192 ≡ false → resolvable text ≡ None
unfolding resolvable
not_resolvable text long = rw long refl

not_asked : (base : Option Parts) (text : List ℕ) → nat_le (length text) 8192 ≡ false → asked base text ≡ None
unfolding asked
not_asked base text long = rw (not_resolvable text long) refl

pub long_text : (u text : List ℕ) → nat_le (length text) 8192 ≡ false → resolve u text ≡ None
unfolding resolve
long_text u text long = by_base (parse_url None u) refl
  where
    by_base : (base : Parsed Parts) → parse_url None u ≡ base → resolve u text ≡ None
    by_base (Ok base) is = rw is (not_asked (Some base) text long)
    by_base (Err e) is = rw is refl
