-- As which method a request is answered (RFC 9110, "HEAD").
use Rattle.std.specs.Prelude.{ℕ, List, Bool, codes, bytes_eq, ◌&&◌, if◌then◌else◌}

-- HEAD as GET, where it is answered at all; each other one as itself
abbrev pub answered_as : Bool → List ℕ → List ℕ
answered_as answers_head method = if answers_head && bytes_eq method (codes "HEAD") then codes "GET" else method
