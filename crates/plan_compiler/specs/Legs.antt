-- What a leg keeps of its source.
use Rattle.std.specs.Prelude.{◌≡◌, List, Option, Some, None}
use Rattle.edge_types.specs.Asked.{resolve}
use Rattle.edge_types.specs.declared.request.Request.{Request}
use Rattle.esi_vars.specs.declared.part.Part.{Part}
use Rattle.esi_vars.specs.Values.{substituted}
use Rattle.plan_compiler.specs.declared.leg.Resolved.{Resolved}

-- nothing, or the URL that the source denotes in a template at the base, whatever the request is
abbrev pub IsResolved : List Part → Option Resolved → Type 0
IsResolved source None = Unit {0}
IsResolved source (Some kept) = (r : Request) → resolve kept.base (substituted r source) ≡ Some kept.url
