-- Which numbers of the system's errors say that it is short of something that comes back, and which that a connection that was
-- taken came broken.
use Rattle.std.specs.Prelude.{◌==◌, ℤ, pos, negsuc, Bool, false, ◌||◌, Option, Some, None}

-- ENOMEM, ENFILE, EMFILE, ENOSPC and ENOBUFS
abbrev pub is_scarce : Option ℤ → Bool
is_scarce (Some (pos code)) = code == 12 || code == 23 || code == 24 || code == 28 || code == 105
is_scarce (Some (negsuc n)) = false
is_scarce None = false

-- ENONET, EPROTO, ENOPROTOOPT, EOPNOTSUPP, ENETDOWN, ENETUNREACH, EHOSTDOWN and EHOSTUNREACH
abbrev pub came_broken : Option ℤ → Bool
came_broken (Some (pos code)) =
    code == 64 || code == 71 || code == 92 || code == 95 || code == 100 || code == 101 || code == 112 || code == 113
came_broken (Some (negsuc n)) = false
came_broken None = false
