-- What a taken event does to its own crossing, and a tick to each, before the crossing settles.
use Rattle.std.specs.Prelude.{Bool, cond, not, ◌&&◌, ◌||◌, ℕ, ◌+◌, ◌-◌, pred, eqb, leb}
use Rattle.machine.specs.Common.{tab, any_below, bit}
use Rattle.machine.specs.Plant.{Entry, Crossing, release_ticks, overlong_ticks, calling, waiting, route_flag, route, occupied_flag, occupied, unsure_flag, boom, lamp_flag, kiosk, operator, is_full, dependent, four_booms, old_sheet, total}
use Rattle.machine.specs.Events.{Event, is, is_to, is_at}

-- An event of codes 1 to 9 -------------------------------------------------------------------------------------------------------
-- a strike-in calls on a plain track or with the route set
abbrev pub calls : Entry → Crossing → ℕ → Bool
calls s c t = not (dependent s t) || route c t

-- a strike-in that finds its track full (T-01)
abbrev pub sweeps : Crossing → Event → Bool
sweeps c e = is 1 e && is_full c e.place

-- calling on track t: a strike-in on a full track leaves it (T-01); strike-in + 1 where it calls; passage - 1; setting a route adds all
-- waiting
unfoldable pub calling_after : Entry → Crossing → Event → ℕ → ℕ
calling_after s c e t =
    cond (sweeps c e) (calling c t)
    (cond (is_at 1 t e) (calling c t + bit (calls s c t) 1)
    (cond (is_at 2 t e) (pred (calling c t))
    (cond (is_at 5 t e && eqb e.value 1) (calling c t + waiting c t)
    (calling c t))))

-- waiting on track t: a strike-in on a full track leaves it (T-01); strike-in + 1 where it does not call; passage - 1 where calling is 0;
-- setting a route leaves none
unfoldable pub waiting_after : Entry → Crossing → Event → ℕ → ℕ
waiting_after s c e t =
    cond (sweeps c e) (waiting c t)
    (cond (is_at 1 t e) (waiting c t + bit (not (calls s c t)) 1)
    (cond (is_at 2 t e) (waiting c t - bit (eqb (calling c t) 0) 1)
    (cond (is_at 5 t e && eqb e.value 1) 0
    (waiting c t))))

-- a strike-in on a full track makes it unsure; every other event of codes 1 to 9 leaves the flag (T-01)
unfoldable pub unsure_after : Crossing → Event → ℕ → ℕ
unsure_after c e t = cond (sweeps c e && eqb e.place t) 1 (unsure_flag c t)

-- a strike-in, a hold on, a route set or an approach occupied cancels the countdown, a repeat included
unfoldable pub cancels : Event → Bool
cancels e = is 1 e || is_to 3 1 e || is_to 4 1 e || is_to 5 1 e || is_to 6 1 e

-- what an event of codes 1 to 9 makes of its own crossing, field by field
unfoldable pub act : Entry → Crossing → Event → Crossing
act s c e = record {
  calling = tab 4 (calling_after s c e);
  waiting = tab 4 (waiting_after s c e);
  route = tab 4 (λ t. cond (is_at 5 t e) e.value (route_flag c t));
  occupied = tab 4 (λ t. cond (is_at 6 t e) e.value (occupied_flag c t));
  unsure = tab 4 (unsure_after c e);
  booms = tab 4 (λ b. cond (is_at 8 b e) e.value (boom c b));
  lamps = tab 7 (λ l. cond (is_at 9 l e) e.value (lamp_flag c l));
  kiosk = cond (is 3 e) e.value c.kiosk;
  operator = cond (is 4 e) e.value c.operator;
  countdown = cond (is 7 e) release_ticks (cond (cancels e) 0 c.countdown);
  phase = c.phase;
  timer = c.timer;
  left = c.left;
  out = c.out;
}

-- A tick -------------------------------------------------------------------------------------------------------------------------
-- the 1959 sheet's own release (T-09): at least 1,079 ticks out of normal, no hold on and every approach free; a set route does not hinder it
unfoldable pub overlong : Entry → Crossing → Bool
overlong s c = old_sheet s.kind && leb overlong_ticks c.out && not (kiosk c || operator c || any_below 4 (occupied c))

-- a release completes on this tick: that of the 1959 sheet, in the countdown's place (T-09), or a running countdown comes to 0. The trains of
-- the crossing are written off, and no track stays unsure (T-01)
abbrev pub releases : Entry → Crossing → Bool
releases s c = overlong s c || eqb c.countdown 1

-- a timer that runs out in phase 1 of kind 4 leads to phase 2
abbrev pub to_gap : Entry → ℕ → Bool
to_gap s phase = eqb phase 1 && four_booms s.kind

-- timer at 0: phase 1 goes to 2 for kind 4, otherwise to 3; phase 2 goes to 3
unfoldable pub phase_ticked : Entry → ℕ → ℕ → ℕ
phase_ticked s phase timer = cond (eqb timer 1) (cond (to_gap s phase) 2 3) phase

-- the timer by 1; at 0, timer G where phase 2 begins
unfoldable pub timer_ticked : Entry → ℕ → ℕ → ℕ
timer_ticked s phase timer = cond (eqb timer 1) (bit (to_gap s phase) s.gap) (pred timer)

-- the countdown, then the timer, then the ticks left to motorists (T-06), by 1; a completed release clears the trains, with T-01 the flags and
-- with T-09 the countdown
unfoldable pub tick : Entry → Crossing → Crossing
tick s c = record {
  calling = tab 4 (λ t. cond (releases s c) 0 (calling c t));
  waiting = tab 4 (λ t. cond (releases s c) 0 (waiting c t));
  route = c.route;
  occupied = c.occupied;
  unsure = tab 4 (λ t. cond (releases s c) 0 (unsure_flag c t));
  booms = c.booms;
  lamps = c.lamps;
  kiosk = c.kiosk;
  operator = c.operator;
  countdown = cond (releases s c) 0 (pred c.countdown);
  phase = phase_ticked s c.phase c.timer;
  timer = timer_ticked s c.phase c.timer;
  left = pred c.left;
  out = c.out;
}

-- the trains that an event writes off at crossing i, whose settings are s: a tick all of them where a release completes, a strike-in there
-- that finds its track full 1 (T-01), every other event none
unfoldable pub written_at : Entry → ℕ → Crossing → Event → ℕ
written_at s i c e = cond (is 0 e) (bit (releases s c) (total c)) (bit (sweeps c e && eqb e.crossing i) 1)
