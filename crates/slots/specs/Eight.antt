-- The eight slots of a run: how they begin, what a tick makes of them, and the crossings that they show.
use Rattle.std.specs.Prelude.{◌≡◌, List, ℕ, ◌*◌, ◌≤◌, ◌<◌, length, get_or}
use Rattle.machine.specs.declared.Entry.{Entry}
use Rattle.machine.specs.declared.Site.{Site}
use Rattle.machine.specs.declared.Crossing.{Crossing}
use Rattle.machine.specs.Common.{tab, sum_below}
use Rattle.machine.specs.Plant.{no_entry, no_crossing}
use Rattle.lane.specs.declared.Lane.{Lane}
use Rattle.lane.specs.Lanes.{Small, Fits}
use Rattle.slot.specs.declared.Packed.{Packed}
use Rattle.slot.specs.Slots.{Slot, first_slot, seen, current, woken, written_off}

-- what a read past the end would give
abbrev pub no_lane : Lane
no_lane = record {
  calling = 0;
  waiting = 0;
  route = 0;
  occupied = 0;
  unsure = 0;
  booms = 0;
  lamps = 0;
  kiosk = 0;
  operator = 0;
  countdown = 0;
  phase = 0;
  timer = 0;
  left = 0;
  out = 0;
}

abbrev pub no_packed : Packed
no_packed = record { lane = no_lane; since = 0; due = 0 }

-- slot i
abbrev pub slot_at : List Packed → ℕ → Slot
slot_at ps i = seen (get_or ps i no_packed)

-- the settings of crossing i
abbrev pub entry_at : Site → ℕ → Entry
entry_at site i = get_or site.entries i no_entry

-- the record of crossing i
abbrev pub crossing_at : List Crossing → ℕ → Crossing
crossing_at cs i = get_or cs i no_crossing

-- crossings that lanes can hold
pub record AllSmall (cs : List Crossing) : Type 0 where
  pub each : (i : ℕ) → i < 8 → Small (crossing_at cs i)

-- before the first tick
pub record Begun (cs : List Crossing) (ps : List Packed) : Type 0 where
  pub eight : length ps ≡ 8
  pub each : (i : ℕ) → i < 8 → slot_at ps i ≡ first_slot (crossing_at cs i)

-- the crossings at the tick `now`
unfoldable pub shown : Site → ℕ → List Packed → List Crossing
shown site now ps = tab 8 (λ i. current (entry_at site i) now (slot_at ps i))

-- numbers that they can hold
pub record AllFit (site : Site) (now : ℕ) (ps : List Packed) : Type 0 where
  pub each : (i : ℕ) → i < 8 → Fits (current (entry_at site i) now (slot_at ps i))

-- the slots after the tick `now`, done at the first i of them: none of these is due before `least`
pub record Swept (site : Site) (now : ℕ) (before after : List Packed) (i least written : ℕ) : Type 0 where
  pub size : length after ≡ length before
  pub done : (j : ℕ) → j < i → slot_at after j ≡ woken (entry_at site j) now (slot_at before j)
  pub rest : (j : ℕ) → i ≤ j → slot_at after j ≡ slot_at before j
  pub ahead : (j : ℕ) → j < i → least ≤ (slot_at after j).due
  pub sum : written ≡ sum_below i (λ j. written_off (entry_at site j) now (slot_at before j))
  pub bound : written ≤ 2040 * i
