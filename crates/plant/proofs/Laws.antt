-- The array of crossings of a plant: its length, and a crossing read within it.
use mathlib.Core.Path.{◌≡◌, refl}
use mathlib.Core.List.{List, [], ◌∷◌}
use Prim.Native.Nat.{ℕ, zero, suc, ◌<◌}
use native.Mathlib.Omega.{arith}
use lib.ListN.{get_or, length}
use mir.Val.{Val}
use denote.Laws.{Is}
use denote.Struct.Declared.{row}
use Rattle.machine.specs.declared.Crossing.{Crossing}
use Rattle.machine.specs.declared.Plant.{Plant}
use Rattle.machine.specs.Plant.{no_crossing}
use Rattle.machine.specs.contracts.Plant.{the_type}

-- a plant of the code has eight crossings
pub eight_crossings : (p : Plant) (vs : List Val) → Is (row the_type) p vs → length p.crossings ≡ 8
eight_crossings p vs i = assumption i

-- within a list, what a read past its end would give does not count
pub within : {A : Type 0} (l : List A) (i : ℕ) (d e : A) → i < length l → get_or l i d ≡ get_or l i e
within [] i d e h = absurd (omega arith)
within (x ∷ l) zero d e h = refl
within (x ∷ l) (suc i) d e h = within l i d e (omega arith)

-- what the code's read past the end of an array of crossings would give
abbrev pub unread : Crossing
unread = record {
  calling = [];
  waiting = [];
  route = [];
  occupied = [];
  unsure = [];
  booms = [];
  lamps = [];
  kiosk = 0;
  operator = 0;
  countdown = 0;
  phase = 0;
  timer = 0;
  left = 0;
  out = 0;
}

pub crossing_read : (l : List Crossing) (i : ℕ) → i < length l → get_or l i unread ≡ get_or l i no_crossing
crossing_read l i h = within l i unread no_crossing h
