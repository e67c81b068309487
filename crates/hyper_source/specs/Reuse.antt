-- Whether connections to an address are kept. Our profile.
use Rattle.std.specs.Prelude.{ℕ, ◌-◌, Bool, true, nat_le}
use Rattle.hyper_source.specs.declared.reuse.Reuse.{Reuse}
use Rattle.hyper_source.specs.declared.reuse.Reuse.TheVariants.{Kept, Strayed}

-- no bytes came from it unasked, or a minute has passed since then
abbrev pub keeps : Reuse → ℕ → Bool
keeps Kept now = true
keeps (Strayed since) now = nat_le 60_000 (now - since)
