-- How much is read of an answer. Our profile.
use Rattle.std.specs.Prelude.{ℕ, ◌+◌, ◌*◌}

-- the most bytes that are read of an answer of which so many bytes of the body were handed over: 65,536, by which its heads, its first chunk's line and its last have room, and 16 for each of these
abbrev pub most_read : ℕ → ℕ
most_read body = 65_536 + 16 * body
