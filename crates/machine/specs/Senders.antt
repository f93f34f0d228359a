-- Senders (document 02, T-04): where a command comes from, by its number.
use Rattle.std.specs.Prelude.{ℕ}

-- detection
abbrev pub detection : ℕ
detection = 0

-- kiosk
abbrev pub kiosk : ℕ
kiosk = 1

-- local operator
abbrev pub local_operator : ℕ
local_operator = 2

-- remote centre
abbrev pub remote_centre : ℕ
remote_centre = 3
