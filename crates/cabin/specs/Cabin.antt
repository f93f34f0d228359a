-- Hut against cabin (T-07), one claim in words of its own: when two sheets agree, which stretch fails first, and what changes no answer.
use Rattle.std.specs.Prelude.{◌≡◌, Bool, true, false, cond, not, ◌&&◌, ◌||◌, ◌↔◌, ℕ, zero, suc, ◌+◌, ◌*◌, ◌≤◌, ◌<◌, eqb, ltb, length}
use mathlib.Core.List.{List, [], ◌∷◌, ◌++◌, Perm}
use Rattle.machine.specs.Common.{tab, refuse}
use Rattle.machine.specs.declared.Event.{Event}
use Rattle.machine.specs.Sheet.{sheet_size, sheet_event}
use Rattle.machine.specs.Shift.{agree}

-- a tick: its four bytes add up to 0
unfoldable pub is_tick : Event → Bool
is_tick e = eqb (e.code + e.crossing + e.place + e.value) 0

-- the ticks of a shift
unfoldable pub ticks : List Event → ℕ
ticks [] = 0
ticks (e ∷ l) = cond (is_tick e) (suc (ticks l)) (ticks l)

-- stretch k of a shift: what comes after k ticks and before the next
unfoldable pub stretch : ℕ → List Event → List Event
stretch k [] = []
stretch zero (e ∷ l) = cond (is_tick e) [] (e ∷ stretch zero l)
stretch (suc k) (e ∷ l) = cond (is_tick e) (stretch k l) (stretch (suc k) l)

-- how often an event, by its four bytes, stands in a list
unfoldable pub times : Event → List Event → ℕ
times e [] = 0
times e (x ∷ l) =
    cond (eqb e.code x.code && (eqb e.crossing x.crossing && (eqb e.place x.place && eqb e.value x.value)))
    (suc (times e l))
    (times e l)

-- the same events, each as often: every event at all
abbrev pub Same : List Event → List Event → Type 0
Same x y = (e : Event) → times e x ≡ times e y

-- the shift that a sheet holds
abbrev pub shift : List ℕ → List Event
shift s = tab (sheet_size s) (sheet_event s)

-- the number of a sheet by itself: 4 without a size, 2 with one above 4,096, 4 not of its stated length, otherwise 0
unfoldable pub own : List ℕ → ℕ
own s = refuse (ltb (length s) 2) 4 (refuse (ltb 4096 (sheet_size s)) 2 (refuse (not (eqb (length s) (2 + 4 * sheet_size s))) 4 0))

-- 18 where one of two sheets has more than 256 events, otherwise 0
unfoldable pub too_long : List ℕ → List ℕ → ℕ
too_long a b = refuse (ltb 256 (sheet_size a) || ltb 256 (sheet_size b)) 18 0

-- a number, or where it is 0 the next
abbrev pub or_else : ℕ → ℕ → ℕ
or_else zero next = next
or_else (suc n) next = suc n

-- a sheet that is compared: of its stated length, with at most 256 events
abbrev pub Comparable : List ℕ → Type 0
Comparable s = (2 ≤ length s) × (length s ≡ 2 + 4 * sheet_size s) × (sheet_size s ≤ 256)

-- the two agree: as many ticks, and the same events in each stretch
abbrev pub Agree : List Event → List Event → Type 0
Agree a b = (ticks a ≡ ticks b) × ((k : ℕ) → Same (stretch k a) (stretch k b))

-- as many ticks, and each stretch a rearrangement of the other's
abbrev pub Rearranged : List Event → List Event → Type 0
Rearranged a b = (ticks a ≡ ticks b) × ((k : ℕ) → Perm (stretch k a) (stretch k b))

-- stretch k agrees: both have it, with the same events
abbrev pub Agrees : ℕ → List Event → List Event → Type 0
Agrees k a b = (k ≤ ticks a) × (k ≤ ticks b) × Same (stretch k a) (stretch k b)

-- two neighbours, neither a tick, exchanged in a sheet
pub record Exchanged (s t : List ℕ) : Type 0 where
  pub before : List Event
  pub x : Event
  pub y : Event
  pub after : List Event
  pub here : shift s ≡ before ++ x ∷ y ∷ after
  pub there : shift t ≡ before ++ y ∷ x ∷ after
  pub no_tick : (is_tick x ≡ false) × (is_tick y ≡ false)
  pub long : length t ≡ length s

-- The claim, for any two sheets
pub record Cabin (a b : List ℕ) : Type 0 where
  -- the number is the hut's own, otherwise the cabin's, otherwise 18 if one is too long
  pub numbers : (agree a b).number ≡ or_else (own a) (or_else (own b) (too_long a b))
  -- they are compared exactly when each can be
  pub compared : (agree a b).number ≡ 0 ↔ (Comparable a × Comparable b)
  -- compared, they are told to agree exactly when they do
  pub agreed : (agree a b).number ≡ 0 → ((agree a b).agreed ≡ true) ↔ Agree (shift a) (shift b)
  -- which is when the one is a rearrangement of the other between ticks
  pub rearranged : Agree (shift a) (shift b) ↔ Rearranged (shift a) (shift b)
  -- otherwise every stretch before the one that is told agrees, and that one does not
  pub first : (agree a b).number ≡ 0 → (agree a b).agreed ≡ false
      → ((k : ℕ) → k < (agree a b).stretch → Agrees k (shift a) (shift b)) × (Agrees (agree a b).stretch (shift a) (shift b) → ⊥)
  -- refused they do not agree; refused or agreed the stretch is 0
  pub refused : ((agree a b).number ≡ 0 → ⊥) → ((agree a b).agreed ≡ false) × ((agree a b).stretch ≡ 0)
  pub no_stretch : (agree a b).agreed ≡ true → (agree a b).stretch ≡ 0
  -- it is the same which of them is the hut's
  pub symmetric : ((agree b a).agreed ≡ (agree a b).agreed) × ((agree b a).stretch ≡ (agree a b).stretch)
  -- neighbours exchanged between two ticks, in either sheet, change no answer
  pub exchanged : (c : List ℕ) → Exchanged a c → (agree c b ≡ agree a b) × (agree b c ≡ agree b a)
