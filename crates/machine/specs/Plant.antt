-- What the plant holds: how a record is read, the fresh plant, and what document 01 says of a whole crossing.
use Rattle.std.specs.Prelude.{Bool, cond, not, ◌&&◌, ◌||◌, ℕ, ◌+◌, ◌/◌, ◌%◌, ◌^◌, eqb, ltb, leb, get_or}
pub use Rattle.machine.specs.declared.Entry.{Entry}
pub use Rattle.machine.specs.declared.Site.{Site}
pub use Rattle.machine.specs.declared.Crossing.{Crossing}
pub use Rattle.machine.specs.declared.Plant.{Plant}
use Rattle.machine.specs.Common.{tab, all_below, any_below, sum4, bit}
use Rattle.machine.specs.Reports.{up, moving, down}
pub use Rattle.machine.specs.Kinds.{lights_only, half_booms, four_booms, old_sheet, old_booms, boom_count, lamp_count}

-- Constants ----------------------------------------------------------------------------------------------------------------------
-- the release countdown begins here
abbrev pub release_ticks : ℕ
release_ticks = 270

-- out of normal for more ticks than this is shown
abbrev pub overdue_ticks : ℕ
overdue_ticks = 900

-- under the 1959 sheet a tick that finds so many ticks out of normal may release (T-09)
abbrev pub overlong_ticks : ℕ
overlong_ticks = 1079

-- ticks out of normal run to here (T-09)
abbrev pub most_ticks : ℕ
most_ticks = 1080

-- a track holds at most this many trains
abbrev pub full : ℕ
full = 255

-- How a record is read -----------------------------------------------------------------------------------------------------------
-- trains calling on track t
abbrev pub calling : Crossing → ℕ → ℕ
calling c t = get_or c.calling t 0

-- trains waiting on track t
abbrev pub waiting : Crossing → ℕ → ℕ
waiting c t = get_or c.waiting t 0

-- A flag is a number: 1 on, 0 off
abbrev pub is_on : ℕ → Bool
is_on flag = eqb flag 1

-- the flag of track t: route set
abbrev pub route_flag : Crossing → ℕ → ℕ
route_flag c t = get_or c.route t 0

-- the route of track t is set
abbrev pub route : Crossing → ℕ → Bool
route c t = is_on (route_flag c t)

-- the flag of track t: approach occupied
abbrev pub occupied_flag : Crossing → ℕ → ℕ
occupied_flag c t = get_or c.occupied t 0

-- the approach of track t is occupied
abbrev pub occupied : Crossing → ℕ → Bool
occupied c t = is_on (occupied_flag c t)

-- the flag of track t: unsure (T-01)
abbrev pub unsure_flag : Crossing → ℕ → ℕ
unsure_flag c t = get_or c.unsure t 0

-- track t is unsure: a strike-in found it full (T-01)
abbrev pub unsure : Crossing → ℕ → Bool
unsure c t = is_on (unsure_flag c t)

-- the last report of boom b: up, moving, down or lost (T-02)
abbrev pub boom : Crossing → ℕ → ℕ
boom c b = get_or c.booms b 0

-- the last report of lamp l: 0 dead, 1 whole
abbrev pub lamp_flag : Crossing → ℕ → ℕ
lamp_flag c l = get_or c.lamps l 0

-- lamp l was last reported whole
abbrev pub lamp : Crossing → ℕ → Bool
lamp c l = is_on (lamp_flag c l)

-- the kiosk hold is on
abbrev pub kiosk : Crossing → Bool
kiosk c = is_on c.kiosk

-- the operator hold is on
abbrev pub operator : Crossing → Bool
operator c = is_on c.operator

-- the trains of track t
abbrev pub trains : Crossing → ℕ → ℕ
trains c t = calling c t + waiting c t

-- track t is full: calling and waiting together (T-01)
abbrev pub is_full : Crossing → ℕ → Bool
is_full c t = leb full (trains c t)

-- the trains of a crossing
abbrev pub total : Crossing → ℕ
total c = sum4 (trains c)

-- all zero: an entry past the last crossing
abbrev pub no_entry : Entry
no_entry = record { kind = 0; tracks = 0; mask = 0; pre = 0; gap = 0; pause = 0 }

-- Fresh: no trains, holds, routes or occupation, no track unsure (T-01), booms up, so many lamps whole and the others held as 0 (T-09), phase 0
-- with no ticks left to motorists (T-06)
abbrev pub fresh_crossing : ℕ → Crossing
fresh_crossing lamps = record {
  calling = tab 4 (λ t. 0);
  waiting = tab 4 (λ t. 0);
  route = tab 4 (λ t. 0);
  occupied = tab 4 (λ t. 0);
  unsure = tab 4 (λ t. 0);
  booms = tab 4 (λ b. up);
  lamps = tab 7 (λ l. bit (ltb l lamps) 1);
  kiosk = 0;
  operator = 0;
  countdown = 0;
  phase = 0;
  timer = 0;
  left = 0;
  out = 0;
}

-- all zero: a record past the last crossing
abbrev pub no_crossing : Crossing
no_crossing = fresh_crossing 0

-- the settings of crossing i
abbrev pub entry : Plant → ℕ → Entry
entry p i = get_or p.site.entries i no_entry

-- the record of crossing i
abbrev pub crossing : Plant → ℕ → Crossing
crossing p i = get_or p.crossings i no_crossing

-- the lamps of crossing i: none past the last crossing
abbrev pub lamps_at : Site → ℕ → ℕ
lamps_at s i = bit (ltb i s.n) (lamp_count (get_or s.entries i no_entry).kind)

-- Fresh: beat 0 and each crossing fresh
unfoldable pub fresh_plant : Site → Plant
fresh_plant s = record { site = s; beat = 0; crossings = tab 8 (λ i. fresh_crossing (lamps_at s i)) }

-- Mask: bit t set where track t depends on a route
unfoldable pub dependent : Entry → ℕ → Bool
dependent s t = eqb ((s.mask / (2 ^ t)) % 2) 1

-- What holds of a crossing -------------------------------------------------------------------------------------------------------
-- the test holds of each boom that a kind has
abbrev pub each_boom : ℕ → (ℕ → Bool) → Bool
each_boom kind f = all_below 4 (λ b. leb (boom_count kind) b || f b)

-- a reason: some track is calling or a hold is on; or some track is unsure (T-01)
abbrev pub reason_of : Bool → Bool → (ℕ → ℕ) → (ℕ → Bool) → Bool
reason_of kiosk operator calling unsure = kiosk || operator || any_below 4 (λ t. ltb 0 (calling t)) || any_below 4 unsure

-- the reason of a crossing
unfoldable pub reason : Crossing → Bool
reason c = reason_of (kiosk c) (operator c) (calling c) (unsure c)

-- every boom reported up
unfoldable pub booms_up : ℕ → (ℕ → ℕ) → Bool
booms_up kind boom = each_boom kind (λ b. eqb (boom b) up)

-- every boom reported down
unfoldable pub booms_down : ℕ → (ℕ → ℕ) → Bool
booms_down kind boom = each_boom kind (λ b. eqb (boom b) down)

-- one boom as the kind demands: a half boom reported moving or down (T-02), a full one reported down
abbrev pub boom_closed : ℕ → ℕ → Bool
boom_closed kind report = cond (half_booms kind) (eqb report moving || eqb report down) (eqb report down)

-- every boom as the kind demands
unfoldable pub booms_closed : ℕ → (ℕ → ℕ) → Bool
booms_closed kind boom = each_boom kind (λ b. boom_closed kind (boom b))

-- normal position: phase 0 and every boom last reported up
unfoldable pub normal : Entry → Crossing → Bool
normal s c = eqb c.phase 0 && booms_up s.kind (boom c)

-- kind 6: the lamps of both booms whole (T-09)
abbrev pub boom_lamps_whole : ℕ → (ℕ → Bool) → Bool
boom_lamps_whole kind lamp = not (old_booms kind) || (lamp 5 && lamp 6)

-- secured: phase 3, road red whole, and the booms as the kind demands, their lamps too (T-09)
unfoldable pub secured : Entry → Crossing → Bool
secured s c = eqb c.phase 3 && lamp c 1 && booms_closed s.kind (boom c) && boom_lamps_whole s.kind (lamp c)
