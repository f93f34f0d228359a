-- Laws of the 1959 sheet (T-09): of every entry under it and every record, in range or not, at every beat. Kind and track are parameters.
use Rattle.std.specs.Prelude.{◌≡◌, Bool, true, cond, not, ◌&&◌, ◌||◌, ℕ, ◌+◌, pred, ◌^◌, ◌<◌, eqb, ltb, leb, get_or}
use Rattle.machine.specs.Common.{all_below, any_below, sum4, bit}
use Rattle.machine.specs.Reports.{up, moving, down}
use Rattle.machine.specs.declared.Entry.{Entry}
use Rattle.machine.specs.declared.Crossing.{Crossing}
use Rattle.machine.specs.declared.Event.{Event}
use Rattle.machine.specs.Plant.{calling, waiting, route, occupied, unsure_flag, boom, lamp, kiosk, operator, total, dependent, lights_only, old_sheet, boom_count, normal}
use Rattle.machine.specs.Effects.{written_at}
use Rattle.machine.specs.Step.{touch}
use Rattle.machine.specs.Panel.{row}

-- The panel ------------------------------------------------------------------------------------------------------------------------
-- byte k of a crossing
abbrev pub shown : ℕ → Entry → Crossing → ℕ → ℕ
shown beat s c k = get_or (row beat s c) k 0

-- secured: phase 3, the road's red whole, each boom reported moving or down and its lamp whole, which is lamp 5 of boom 0 and lamp 6 of boom 1
unfoldable pub is_secured : Entry → Crossing → Bool
is_secured s c = eqb c.phase 3 && lamp c 1 && all_below (boom_count s.kind) (λ b. (eqb (boom c b) moving || eqb (boom c b) down) && lamp c (5 + b))

-- the white: lamp 3 whole; with lights only in phases 1 and 3 with the road's red whole, with booms where secured
unfoldable pub is_white : Entry → Crossing → Bool
is_white s c = lamp c 3 && cond (lights_only s.kind) ((eqb c.phase 1 || eqb c.phase 3) && lamp c 1) (is_secured s c)

-- what the panel shows of a crossing
pub record PanelLaw (beat : ℕ) (s : Entry) (c : Crossing) : Type 0 where
  -- the road is dark in normal position, otherwise red, or dark if that lamp is dead
  pub road : shown beat s c 0 ≡ cond (normal s c) 0 (bit (lamp c 1) 2)
  -- the boom lamps are on exactly while some boom that the kind has was not last reported up
  pub boom_lamps : shown beat s c 3 ≡ bit (any_below (boom_count s.kind) (λ b. not (eqb (boom c b) up))) 1
  -- by those reports alone: another record that has the same shows the same, at any beat and whatever its lamps, 5 and 6 among them
  pub reports_alone : (later : ℕ) (d : Crossing) → ((b : ℕ) → b < boom_count s.kind → boom d b ≡ boom c b) → shown later s d 3 ≡ shown beat s c 3
  -- the train signal is amber, 3, exactly where there are booms, no white and lamp 2 whole; with lights only it is white or dark
  pub signal : shown beat s c 6 ≡ cond (is_white s c) 2 (bit (lamp c 2 && not (lights_only s.kind)) 3)
  -- byte 7 equals byte 6
  pub distant : shown beat s c 7 ≡ shown beat s c 6
  -- the main signal of track t is released exactly where the track depends on a route, its route is set, and secured
  pub released : shown beat s c 8 ≡ sum4 (λ t. bit (dependent s t && route c t && is_secured s c) (2 ^ t))
  -- 1 normal position, 2 secured, 4 out of normal more than 900 ticks
  pub position : shown beat s c 9 ≡ bit (normal s c) 1 + bit (is_secured s c) 2 + bit (ltb 900 c.out) 4

-- The release ----------------------------------------------------------------------------------------------------------------------
-- a tick
abbrev pub a_tick : Event
a_tick = record { code = 0; crossing = 0; place = 0; value = 0 }

-- what it makes of crossing i
abbrev pub ticked : Entry → ℕ → Crossing → Crossing
ticked s i c = touch s i c a_tick

-- at least 1,079 ticks out of normal, no hold on and every approach free; a set route does not hinder it
unfoldable pub too_long : Crossing → Bool
too_long c = leb 1079 c.out && not (kiosk c || operator c || any_below 4 (occupied c))

-- a release completes: that, or the countdown at its last tick
abbrev pub completes : Crossing → Bool
completes c = too_long c || eqb c.countdown 1

-- what a tick does, where a release completes and where none does
pub record TickLaw (s : Entry) (i : ℕ) (c : Crossing) : Type 0 where
  -- every train of the crossing is written off, or none
  pub written : written_at s i c a_tick ≡ bit (completes c) (total c)
  -- each track t is cleared, and then not unsure
  pub calls : (t : ℕ) → t < 4 → calling (ticked s i c) t ≡ cond (completes c) 0 (calling c t)
  pub waits : (t : ℕ) → t < 4 → waiting (ticked s i c) t ≡ cond (completes c) 0 (waiting c t)
  pub marks : (t : ℕ) → t < 4 → unsure_flag (ticked s i c) t ≡ cond (completes c) 0 (unsure_flag c t)
  -- so is the countdown, otherwise lowered
  pub counts : (ticked s i c).countdown ≡ cond (completes c) 0 (pred c.countdown)

-- both, for every entry under the sheet
pub record Laws : Type 0 where
  pub panel : (beat : ℕ) (s : Entry) (c : Crossing) → old_sheet s.kind ≡ true → PanelLaw beat s c
  pub tick : (s : Entry) (i : ℕ) (c : Crossing) → old_sheet s.kind ≡ true → TickLaw s i c
