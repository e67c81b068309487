-- What a device says that it can do.
use Rattle.std.specs.Prelude.{ℕ, List, ◌++◌, codes}

-- its token, and the two capabilities in quotes
abbrev pub capability_of : List ℕ → List ℕ
capability_of device = device ++ codes "=\"Surrogate/1.0 ESI/1.0\""

-- the token of this edge
abbrev pub own_device : List ℕ
own_device = codes "edge1"
