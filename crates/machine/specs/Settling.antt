-- Settling: once, by the phase on entry to this step.
use Rattle.std.specs.Prelude.{Bool, cond, not, ◌&&◌, ℕ, ◌+◌, eqb, ltb}
use Rattle.machine.specs.Common.{bit}
use Rattle.machine.specs.Plant.{Entry, Crossing, most_ticks, boom, lights_only, reason, booms_up}

-- 0 with a reason and no ticks left to motorists (T-06): phase 1. 1 without: phase 0. 2 or 3 without: phase 4, lights only phase 0.
-- 4 with every boom up: phase 1 if a reason stands and M is 0 (T-06), else 0. Otherwise 4.
unfoldable pub phase_settled : Entry → Bool → Bool → ℕ → ℕ → ℕ
phase_settled s stands up left phase =
    cond (eqb phase 0) (bit (stands && eqb left 0) 1)
    (cond (eqb phase 1) (bit stands 1)
    (cond (eqb phase 4) (cond up (bit (stands && eqb s.pause 0) 1) 4)
    (cond stands phase (cond (lights_only s.kind) 0 4))))

-- timer F where a warning begins, as it was where the phase stays, otherwise 0
unfoldable pub timer_settled : ℕ → ℕ → ℕ → ℕ → ℕ
timer_settled pre phase next timer = cond (eqb next phase) timer (bit (eqb next 1) pre)

-- ticks left to motorists (T-06): as they were where the phase stays, M where raising ends or lights only leave phase 3 for phase 0, none where a
-- warning is given up or begins
unfoldable pub left_settled : ℕ → ℕ → ℕ → ℕ → ℕ
left_settled pause phase next left = cond (eqb next phase) left (bit (eqb next 0 && not (eqb phase 1)) pause)

-- ticks out of normal: 0 in normal position; otherwise a tick adds 1, up to 1,080 (T-09)
unfoldable pub out_settled : Bool → ℕ → ℕ → ℕ
out_settled normal add out = cond normal 0 (cond (ltb out most_ticks) (out + add) most_ticks)

-- a crossing with phase, timer, ticks left and ticks out of normal as given
abbrev pub with_phase : Crossing → ℕ → ℕ → ℕ → ℕ → Crossing
with_phase c phase timer left out = record {
  calling = c.calling;
  waiting = c.waiting;
  route = c.route;
  occupied = c.occupied;
  unsure = c.unsure;
  booms = c.booms;
  lamps = c.lamps;
  kiosk = c.kiosk;
  operator = c.operator;
  countdown = c.countdown;
  phase = phase;
  timer = timer;
  left = left;
  out = out;
}

-- a crossing after it settles; `add` is 1 on a tick, otherwise 0
unfoldable pub settle : Entry → ℕ → Crossing → Crossing
settle s add c =
    let up = booms_up s.kind (boom c) in
    let next = phase_settled s (reason c) up c.left c.phase in
    let timer = timer_settled s.pre c.phase next c.timer in
    let left = left_settled s.pause c.phase next c.left in
    with_phase c next timer left (out_settled (eqb next 0 && up) add c.out)
