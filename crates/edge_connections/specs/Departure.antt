-- When a client has left while its page is made. Our profile.
use Rattle.std.specs.Prelude.{ℤ, Bool, true, false, ◌||◌, Option, None, option_map, if◌then◌else◌}
use Rattle.edge_connections.specs.declared.departure.ClientState.{ClientState}
use Rattle.edge_connections.specs.declared.departure.ClientState.TheVariants.{Open, InputEnded, Reset}
use Rattle.edge_connections.specs.declared.departure.ClientWatch.{ClientWatch}

-- the client has left: its connection was reset, or it has ended its input, where that counts
abbrev pub has_left : Bool → ClientState → Bool
has_left end_leaves Open = false
has_left end_leaves InputEnded = end_leaves
has_left end_leaves Reset = true

-- the client's socket is looked at where the page has a limit or the end of the client's input counts; that counts only where it was asked for
abbrev pub watch_of : Bool → Bool → Option ℤ → Option ClientWatch
watch_of is_limited end_leaves socket = if is_limited || end_leaves then option_map (λ s. record { socket = s; end_leaves = end_leaves }) socket else None
