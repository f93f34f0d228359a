-- A crossing in words: what each track, boom and lamp holds are the digits of one number.
use Rattle.std.specs.Prelude.{ℕ, ◌<◌, ◌≤◌}
use Rattle.machine.specs.declared.Crossing.{Crossing}
use Rattle.machine.specs.Plant.{calling, waiting, route_flag, occupied_flag, unsure_flag, boom, lamp_flag}
use Rattle.digits.specs.Digits.{digits}
use Rattle.lane.specs.declared.Lane.{Lane}

-- the crossing that a lane holds: bytes of trains, bits of flags, pairs of bits of boom reports
unfoldable pub crossing_of : Lane → Crossing
crossing_of l = record {
  calling = digits 256 4 l.calling;
  waiting = digits 256 4 l.waiting;
  route = digits 2 4 l.route;
  occupied = digits 2 4 l.occupied;
  unsure = digits 2 4 l.unsure;
  booms = digits 4 4 l.booms;
  lamps = digits 2 7 l.lamps;
  kiosk = l.kiosk;
  operator = l.operator;
  countdown = l.countdown;
  phase = l.phase;
  timer = l.timer;
  left = l.left;
  out = l.out;
}

-- a crossing that a lane can hold
pub record Small (c : Crossing) : Type 0 where
  pub calling : (t : ℕ) → t < 4 → calling c t < 256
  pub waiting : (t : ℕ) → t < 4 → waiting c t < 256
  pub route : (t : ℕ) → t < 4 → route_flag c t < 2
  pub occupied : (t : ℕ) → t < 4 → occupied_flag c t < 2
  pub unsure : (t : ℕ) → t < 4 → unsure_flag c t < 2
  pub booms : (b : ℕ) → b < 4 → boom c b < 4
  pub lamps : (l : ℕ) → l < 7 → lamp_flag c l < 2

-- numbers that a crossing can hold
pub record Fits (c : Crossing) : Type 0 where
  pub kiosk : c.kiosk ≤ 255
  pub operator : c.operator ≤ 255
  pub countdown : c.countdown ≤ 65535
  pub phase : c.phase ≤ 255
  pub timer : c.timer ≤ 65535
  pub left : c.left ≤ 65535
  pub out : c.out ≤ 65535
