-- Kinds 5 and 6, under the 1959 sheet (T-09): what a crossing shows, takes and releases, line by line, computed at every beat. A line is about one
-- record in range, whatever list led to it; Laws speaks of every record, demand 3 (crates/demand) of the lists.
use Rattle.std.specs.Prelude.{◌≡◌, true, not, ◌&&◌, List, [], ◌∷◌, ℕ, eqb, get_or}
use Rattle.machine.specs.Common.{bit}
use Rattle.machine.specs.Reports.{down}
use Rattle.machine.specs.declared.Entry.{Entry}
use Rattle.machine.specs.declared.Crossing.{Crossing}
use Rattle.machine.specs.Plant.{lights_only}
use Rattle.machine.specs.Range.{entry_in, crossing_in}
use Rattle.machine.specs.Events.{listed, number}
use Rattle.machine.specs.Effects.{written_at}
use Rattle.machine.specs.Panel.{row}
use Rattle.machine.specs.SiteBook.{read}
use Rattle.old_sheet.specs.Laws.{a_tick, ticked, Laws}

-- Records ----------------------------------------------------------------------------------------------------------------------------
-- one crossing of a kind, F 15; its one track depends on a route
abbrev pub site : ℕ → Entry
site kind = record { kind = kind; tracks = 1; mask = 1; pre = 15; gap = 0; pause = 0 }

-- the lamps: road white, road red, train signal red (amber) and white, flasher, those of booms 0 and 1
abbrev pub lamps : ℕ → ℕ → ℕ → ℕ → ℕ → ℕ → List ℕ
lamps red amber white flasher boom_0 boom_1 = 1 ∷ red ∷ amber ∷ white ∷ flasher ∷ boom_0 ∷ boom_1 ∷ []

-- all whole at kind 6, and at kind 5, which has five
abbrev pub whole : List ℕ
whole = lamps 1 1 1 1 1 1

abbrev pub whole_5 : List ℕ
whole_5 = lamps 1 1 1 1 0 0

-- the record: a train calls with its route set, the track is unsure; the approach, the holds, the countdown, the phase, in phase 1 with one tick to
-- come, ticks out of normal, the reports of booms 0 and 1, the lamps
abbrev pub record_of : ℕ → ℕ → ℕ → ℕ → ℕ → ℕ → ℕ → ℕ → List ℕ → Crossing
record_of occupied kiosk operator countdown phase out boom_0 boom_1 lamps = record {
  calling = 1 ∷ 0 ∷ 0 ∷ 0 ∷ [];
  waiting = 0 ∷ 0 ∷ 0 ∷ 0 ∷ [];
  route = 1 ∷ 0 ∷ 0 ∷ 0 ∷ [];
  occupied = occupied ∷ 0 ∷ 0 ∷ 0 ∷ [];
  unsure = 1 ∷ 0 ∷ 0 ∷ 0 ∷ [];
  booms = boom_0 ∷ boom_1 ∷ 0 ∷ 0 ∷ [];
  lamps = lamps;
  kiosk = kiosk;
  operator = operator;
  countdown = countdown;
  phase = phase;
  timer = bit (eqb phase 1) 1;
  left = 0;
  out = out;
}

-- it and its settings are in range: no number 15
abbrev pub Held : ℕ → Crossing → Type 0
Held kind c = (entry_in (site kind) && crossing_in (site kind) c) ≡ true

-- The panel ------------------------------------------------------------------------------------------------------------------------
-- a record by phase, booms and lamps
abbrev pub at : ℕ → ℕ → ℕ → List ℕ → Crossing
at phase boom_0 boom_1 lamps = record_of 0 0 0 0 phase 0 boom_0 boom_1 lamps

-- bytes 0, 3, 6, 7, 8 and 9: road, boom lamps, train signal, distant, main signals released, position
abbrev pub shows : ℕ → Crossing → List ℕ
shows kind c = let r = row 0 (site kind) c in get_or r 0 0 ∷ get_or r 3 0 ∷ get_or r 6 0 ∷ get_or r 7 0 ∷ get_or r 8 0 ∷ get_or r 9 0 ∷ []

-- byte 1, lit, at beats 0 to 3: bits 1 road, 2 boom lamps, 4 train signal, 8 distant
abbrev pub lits : ℕ → Crossing → List ℕ
lits kind c = get_or (row 0 (site kind) c) 1 0 ∷ get_or (row 1 (site kind) c) 1 0 ∷ get_or (row 2 (site kind) c) 1 0 ∷ get_or (row 3 (site kind) c) 1 0 ∷ []

-- a line: a record in range, what is shown, and lit at each beat
abbrev pub Line : ℕ → Crossing → List ℕ → List ℕ → Type 0
Line kind c bytes beats = Held kind c × (shows kind c ≡ bytes) × (lits kind c ≡ beats)

-- lights only: nothing in normal position; white in phases 1 and 3 with the road red and lamp 3 whole (in no other phase: Laws, signal)
pub record Lights : Type 0 where
  pub normal : Line 5 (at 0 0 0 whole_5) (0 ∷ 0 ∷ 0 ∷ 0 ∷ 0 ∷ 1 ∷ []) (0 ∷ 0 ∷ 0 ∷ 0 ∷ [])
  pub warning : Line 5 (at 1 0 0 whole_5) (2 ∷ 0 ∷ 2 ∷ 2 ∷ 0 ∷ 0 ∷ []) (13 ∷ 0 ∷ 13 ∷ 0 ∷ [])
  pub closed : Line 5 (at 3 0 0 whole_5) (2 ∷ 0 ∷ 2 ∷ 2 ∷ 1 ∷ 2 ∷ []) (13 ∷ 0 ∷ 13 ∷ 0 ∷ [])
  pub white_dead : Line 5 (at 1 0 0 (lamps 1 1 0 1 0 0)) (2 ∷ 0 ∷ 0 ∷ 0 ∷ 0 ∷ 0 ∷ []) (1 ∷ 0 ∷ 1 ∷ 0 ∷ [])
  pub red_dead : Line 5 (at 3 0 0 (lamps 0 1 1 1 0 0)) (0 ∷ 0 ∷ 0 ∷ 0 ∷ 0 ∷ 0 ∷ []) (0 ∷ 0 ∷ 0 ∷ 0 ∷ [])
  pub flasher_dead : Line 5 (at 1 0 0 (lamps 1 1 1 0 0 0)) (2 ∷ 0 ∷ 2 ∷ 2 ∷ 0 ∷ 0 ∷ []) (13 ∷ 13 ∷ 13 ∷ 13 ∷ [])

-- half booms: amber steady but when secured with lamp 3 whole; boom lamps steady while a boom is not reported up
pub record Booms : Type 0 where
  pub normal : Line 6 (at 0 0 0 whole) (0 ∷ 0 ∷ 3 ∷ 3 ∷ 0 ∷ 1 ∷ []) (12 ∷ 12 ∷ 12 ∷ 12 ∷ [])
  pub normal_amber_dead : Line 6 (at 0 0 0 (lamps 1 0 1 1 1 1)) (0 ∷ 0 ∷ 0 ∷ 0 ∷ 0 ∷ 1 ∷ []) (0 ∷ 0 ∷ 0 ∷ 0 ∷ [])
  pub warning : Line 6 (at 1 0 0 whole) (2 ∷ 0 ∷ 3 ∷ 3 ∷ 0 ∷ 0 ∷ []) (13 ∷ 12 ∷ 13 ∷ 12 ∷ [])
  pub one_up : Line 6 (at 3 1 0 whole) (2 ∷ 1 ∷ 3 ∷ 3 ∷ 0 ∷ 0 ∷ []) (15 ∷ 14 ∷ 15 ∷ 14 ∷ [])
  pub both_moving : Line 6 (at 3 1 1 whole) (2 ∷ 1 ∷ 2 ∷ 2 ∷ 1 ∷ 2 ∷ []) (15 ∷ 2 ∷ 15 ∷ 2 ∷ [])
  pub one_lost : Line 6 (at 3 1 3 whole) (2 ∷ 1 ∷ 3 ∷ 3 ∷ 0 ∷ 0 ∷ []) (15 ∷ 14 ∷ 15 ∷ 14 ∷ [])
  pub lamp_5_dead : Line 6 (at 3 2 2 (lamps 1 1 1 1 0 1)) (2 ∷ 1 ∷ 3 ∷ 3 ∷ 0 ∷ 0 ∷ []) (15 ∷ 14 ∷ 15 ∷ 14 ∷ [])
  pub lamp_6_dead : Line 6 (at 3 2 2 (lamps 1 1 1 1 1 0)) (2 ∷ 1 ∷ 3 ∷ 3 ∷ 0 ∷ 0 ∷ []) (15 ∷ 14 ∷ 15 ∷ 14 ∷ [])
  pub white_dead : Line 6 (at 3 2 2 (lamps 1 1 0 1 1 1)) (2 ∷ 1 ∷ 3 ∷ 3 ∷ 1 ∷ 2 ∷ []) (15 ∷ 14 ∷ 15 ∷ 14 ∷ [])
  pub both_dead : Line 6 (at 3 2 2 (lamps 1 0 0 1 1 1)) (2 ∷ 1 ∷ 0 ∷ 0 ∷ 1 ∷ 2 ∷ []) (3 ∷ 2 ∷ 3 ∷ 2 ∷ [])
  pub red_dead : Line 6 (at 3 2 2 (lamps 0 1 1 1 1 1)) (0 ∷ 1 ∷ 3 ∷ 3 ∷ 0 ∷ 0 ∷ []) (14 ∷ 14 ∷ 14 ∷ 14 ∷ [])
  pub flasher_dead : Line 6 (at 3 2 2 (lamps 1 1 1 0 1 1)) (2 ∷ 1 ∷ 2 ∷ 2 ∷ 1 ∷ 2 ∷ []) (15 ∷ 15 ∷ 15 ∷ 15 ∷ [])
  pub raising : Line 6 (at 4 1 0 whole) (2 ∷ 1 ∷ 3 ∷ 3 ∷ 0 ∷ 0 ∷ []) (15 ∷ 14 ∷ 15 ∷ 14 ∷ [])
  pub not_raised : Line 6 (at 0 0 1 whole) (2 ∷ 1 ∷ 3 ∷ 3 ∷ 0 ∷ 0 ∷ []) (15 ∷ 14 ∷ 15 ∷ 14 ∷ [])

-- The release ----------------------------------------------------------------------------------------------------------------------
-- a record out of normal, in phase 3, the booms that the kind has down, by approach, holds, countdown, ticks out of normal, and kind
abbrev pub out_of_normal : ℕ → ℕ → ℕ → ℕ → ℕ → ℕ → Crossing
out_of_normal occupied kiosk operator countdown out kind =
    let boom = bit (not (lights_only kind)) down in
    record_of occupied kiosk operator countdown 3 out boom boom whole_5

-- a tick: the train that it writes off; then calling, unsure, countdown and ticks out of normal
abbrev pub after_tick : ℕ → Crossing → List ℕ
after_tick kind c =
    let d = ticked (site kind) 0 c in
    written_at (site kind) 0 c a_tick ∷ get_or d.calling 0 0 ∷ get_or d.unsure 0 0 ∷ d.countdown ∷ d.out ∷ []

-- a line: a record in range, by the kind, and what a tick makes of it
abbrev pub TickLine : ℕ → (ℕ → Crossing) → List ℕ → Type 0
TickLine kind c numbers = Held kind (c kind) × (after_tick kind (c kind) ≡ numbers)

-- from 1,079 ticks on, with no hold on and the approach free; a set route does not hinder it, a running countdown ends with it
pub record Release : Type 0 where
  pub short : TickLine 5 (out_of_normal 0 0 0 9 1078) (0 ∷ 1 ∷ 1 ∷ 8 ∷ 1079 ∷ [])
  pub due : TickLine 5 (out_of_normal 0 0 0 9 1079) (1 ∷ 0 ∷ 0 ∷ 0 ∷ 0 ∷ [])
  pub booms : TickLine 6 (out_of_normal 0 0 0 9 1079) (1 ∷ 0 ∷ 0 ∷ 0 ∷ 1080 ∷ [])
  pub later : TickLine 6 (out_of_normal 0 0 0 0 1080) (1 ∷ 0 ∷ 0 ∷ 0 ∷ 1080 ∷ [])
  pub kiosk : TickLine 5 (out_of_normal 0 1 0 0 1080) (0 ∷ 1 ∷ 1 ∷ 0 ∷ 1080 ∷ [])
  pub operator : TickLine 5 (out_of_normal 0 0 1 0 1080) (0 ∷ 1 ∷ 1 ∷ 0 ∷ 1080 ∷ [])
  pub approach : TickLine 5 (out_of_normal 1 0 0 0 1080) (0 ∷ 1 ∷ 1 ∷ 0 ∷ 1080 ∷ [])
  pub chapter_9 : TickLine 1 (out_of_normal 0 0 0 9 1079) (0 ∷ 1 ∷ 1 ∷ 8 ∷ 1080 ∷ [])
  pub half_booms : TickLine 2 (out_of_normal 0 0 0 9 1080) (0 ∷ 1 ∷ 1 ∷ 8 ∷ 1080 ∷ [])

-- Settings and lamps ---------------------------------------------------------------------------------------------------------------
-- a book of one crossing by kind and F
abbrev pub book : ℕ → ℕ → List ℕ
book kind pre = 1 ∷ kind ∷ 1 ∷ 0 ∷ pre ∷ 0 ∷ 0 ∷ 0 ∷ 0 ∷ 0 ∷ []

-- the number of a report of a lamp from fresh
abbrev pub lamp_report : ℕ → ℕ → ℕ
lamp_report kind lamp = number (read (book kind 15)).plant (listed (record { code = 9; crossing = 0; place = lamp; value = 0 }))

-- kinds 1 to 6; F is 15 for kind 6 alone; lamps 5 and 6 are there for kind 6 alone
pub record Settings : Type 0 where
  pub kinds : (read (book 5 1)).number ∷ (read (book 6 15)).number ∷ (read (book 7 15)).number ∷ [] ≡ 0 ∷ 0 ∷ 3 ∷ []
  pub pre : (read (book 6 14)).number ∷ (read (book 6 16)).number ∷ (read (book 5 180)).number ∷ (read (book 2 14)).number ∷ [] ≡ 3 ∷ 3 ∷ 0 ∷ 0 ∷ []
  pub lamps_6 : lamp_report 6 5 ∷ lamp_report 6 6 ∷ lamp_report 6 7 ∷ [] ≡ 0 ∷ 0 ∷ 7 ∷ []
  pub lamps_else : lamp_report 5 4 ∷ lamp_report 5 5 ∷ lamp_report 2 5 ∷ lamp_report 2 6 ∷ [] ≡ 0 ∷ 7 ∷ 7 ∷ 7 ∷ []

-- the table and the laws
pub record OldSheet : Type 0 where
  pub lights : Lights
  pub booms : Booms
  pub release : Release
  pub settings : Settings
  pub laws : Laws
