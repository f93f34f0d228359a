-- Boom reports (code 8): the four numbers that a drive may report, one name each.
use Rattle.std.specs.Prelude.{ℕ}

-- the boom is up
abbrev pub up : ℕ
up = 0

-- it moves, up or down
abbrev pub moving : ℕ
moving = 1

-- it is down
abbrev pub down : ℕ
down = 2

-- its position is lost: neither up nor moving nor down (T-02)
abbrev pub lost : ℕ
lost = 3
