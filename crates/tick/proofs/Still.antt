-- A tick of a crossing where nothing runs leaves it to settle as it is.
use mathlib.Core.Path.{◌≡◌}
use mathlib.Core.Bool.{false}
use Prim.Native.Nat.{ℕ}
use lib.ListN.{length}
use Rattle.machine.specs.declared.Entry.{Entry}
use Rattle.machine.specs.declared.Crossing.{Crossing}
use Rattle.machine.specs.Effects.{releases, tick, phase_ticked, timer_ticked}
use Rattle.machine.proofs.Tools.{tab_getD}

-- a crossing of the code has its lists by track at length four
pub record Tracks (c : Crossing) : Type 0 where
  pub calling : length c.calling ≡ 4
  pub waiting : length c.waiting ≡ 4
  pub unsure : length c.unsure ≡ 4

abbrev counted : Crossing → ℕ → ℕ → ℕ → Crossing
counted c countdown timer left = record {
  calling = c.calling;
  waiting = c.waiting;
  route = c.route;
  occupied = c.occupied;
  unsure = c.unsure;
  booms = c.booms;
  lamps = c.lamps;
  kiosk = c.kiosk;
  operator = c.operator;
  countdown = countdown;
  phase = c.phase;
  timer = timer;
  left = left;
  out = c.out;
}

same_counts : (c : Crossing) {countdown timer left : ℕ} → c.countdown ≡ countdown → c.timer ≡ timer → c.left ≡ left → counted c countdown timer left ≡ c
same_counts c d t m = rw (← d, ← t, ← m)

-- where neither the countdown nor the timer runs, no ticks are left to motorists and no release completes, a tick leaves the crossing to settle as it is
pub still_ticks : (s : Entry) (c : Crossing) → c.countdown ≡ 0 → c.timer ≡ 0 → c.left ≡ 0 → releases s c ≡ false → Tracks c → tick s c ≡ c
unfolding tick phase_ticked timer_ticked
still_ticks s c d t m r z = rw r (simp (d, t, m, tab_getD 4 c.calling 0 z.calling, tab_getD 4 c.waiting 0 z.waiting, tab_getD 4 c.unsure 0 z.unsure) (same_counts c d t m))
