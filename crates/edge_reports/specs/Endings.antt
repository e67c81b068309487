-- How a server's end is told. Our profile.
use Rattle.std.specs.Prelude.{Bool, Option, None, Some, if◌then◌else◌}
use Rattle.edge_connections.specs.declared.roster.ServeEnd.{ServeEnd}
use Rattle.edge_connections.specs.declared.roster.ServeEnd.TheVariants as end
use Rattle.operator_http.specs.declared.health.Health.{Health}
use Rattle.operator_http.specs.declared.health.Health.TheVariants as health

-- a server ends once nobody is accepted any longer, and badly where that is because accepts have failed
abbrev pub ending_of : Bool → Bool → Option ServeEnd
ending_of is_closed has_failed = if is_closed then Some (if has_failed then end.AcceptsFailed else end.Served) else None

-- what a server's operator is told of it
abbrev pub health_of : Option ServeEnd → Health
health_of None = health.Well
health_of (Some end.Served) = health.Ending
health_of (Some end.AcceptsFailed) = health.AcceptsFailed
