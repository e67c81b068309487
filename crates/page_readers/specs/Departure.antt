-- When nothing more is fetched for a page: its time is over, or its client has left. Our profile.
use Rattle.std.specs.Prelude.{ℕ, Bool, false, ◌||◌, nat_lt, Option, Some, None}

-- the limit of the page's time is past; without a limit, or without a clock, never
abbrev pub is_past : Option ℕ → Option ℕ → Bool
is_past None now = false
is_past (Some until) None = false
is_past (Some until) (Some now) = nat_lt until now

-- nothing more is fetched
abbrev pub is_over : Option ℕ → Option ℕ → Bool → Bool
is_over until now has_left = is_past until now || has_left
