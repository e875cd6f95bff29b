-- How many bytes an output still takes, where it tells that. A rule of this project.
use Rattle.std.specs.Prelude.{ℕ, ◌-◌, Bool, false, nat_lt, Option, Some, None}

-- whether there is no room for so many bytes
abbrev pub is_short : Option ℕ → ℕ → Bool
is_short None n = false
is_short (Some share) n = nat_lt share n

-- what is left of it behind so many bytes
abbrev pub share_behind : Option ℕ → ℕ → Option ℕ
share_behind None n = None
share_behind (Some share) n = Some (share - n)
