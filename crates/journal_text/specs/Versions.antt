-- The versions of a journal's text. Each is a record of what it has: its first line, whether a report is written with
-- its second value, which is 0 where it isn't, and one is asked for, and whether pools are asked. A rule of this project.
use Rattle.std.specs.Prelude.{◌≡◌, ◌⊎◌, ℕ, true, false, Option, Some, None, List, codes, if◌then◌else◌}
use Rattle.std.specs.Str.{bytes_eq}
use Rattle.journal_text.specs.declared.version.Version.{Version}

abbrev pub version_1 : Version
version_1 = record { header = codes "comet journal 1"; has_seconds = false; has_pools = false }

abbrev pub version_2 : Version
version_2 = record { header = codes "comet journal 2"; has_seconds = true; has_pools = false }

abbrev pub version_3 : Version
version_3 = record { header = codes "comet journal 3"; has_seconds = true; has_pools = true }

-- one of the versions that there are
abbrev pub IsVersion : Version → Type 0
IsVersion v = (v ≡ version_1) ⊎ ((v ≡ version_2) ⊎ (v ≡ version_3))

-- the version whose first line this is
abbrev pub version_of : List ℕ → Option Version
version_of line =
    if bytes_eq line version_1.header then Some version_1
    else if bytes_eq line version_2.header then Some version_2
    else if bytes_eq line version_3.header then Some version_3
    else None
