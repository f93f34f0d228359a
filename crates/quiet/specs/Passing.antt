-- Quiet ticks: what they make of a crossing, and how many of them lie ahead.
use Rattle.std.specs.Prelude.{Bool, cond, not, ◌&&◌, ℕ, ◌+◌, ◌-◌, eqb, ltb, min}
use Rattle.machine.specs.declared.Entry.{Entry}
use Rattle.machine.specs.declared.Crossing.{Crossing}
use Rattle.machine.specs.Plant.{overlong_ticks, most_ticks, old_sheet, boom, booms_up, normal}

-- ticks out of normal k quiet ticks later
unfoldable pub out_after : Bool → ℕ → ℕ → ℕ
out_after normal k out = cond normal out (cond (ltb (out + k) most_ticks) (out + k) most_ticks)

-- a crossing k quiet ticks later: nothing but its counts moves
unfoldable pub passed : Entry → ℕ → Crossing → Crossing
passed s k c = record {
  calling = c.calling;
  waiting = c.waiting;
  route = c.route;
  occupied = c.occupied;
  unsure = c.unsure;
  booms = c.booms;
  lamps = c.lamps;
  kiosk = c.kiosk;
  operator = c.operator;
  countdown = c.countdown - k;
  phase = c.phase;
  timer = c.timer - k;
  left = c.left - k;
  out = out_after (normal s c) k c.out;
}

-- more ticks than a sheet has
abbrev pub long : ℕ
long = 8192

-- the quiet ticks of a count: all but its last; without end where it does not run
unfoldable pub ticks_left : ℕ → ℕ
ticks_left count = cond (eqb count 0) long (count - 1)

-- the quiet ticks until the 1959 sheet may release (T-09); without end in normal position and at other kinds
unfoldable pub sheet_left : Entry → Crossing → ℕ
sheet_left s c = cond (old_sheet s.kind && not (normal s c)) (overlong_ticks - c.out) long

-- in phase 4 with every boom up: the next tick moves it on
unfoldable pub opens : Entry → Crossing → Bool
opens s c = eqb c.phase 4 && booms_up s.kind (boom c)

-- the quiet ticks that lie ahead of a crossing that has settled
unfoldable pub span : Entry → Crossing → ℕ
span s c = cond (opens s c) 0 (min (min (min (ticks_left c.countdown) (ticks_left c.timer)) (ticks_left c.left)) (sheet_left s c))
