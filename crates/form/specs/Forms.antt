-- A crossing by the names of its parts: seven arrays and seven numbers.
use Rattle.std.specs.Prelude.{◌≡◌, Bool, List, ℕ, ltb, length, get_or}
pub use mir.Val.{Val}
pub use denote.Laws.{Is}
use Rattle.machine.specs.declared.Crossing.{Crossing}
use Rattle.machine.specs.Common.{any_below}
use Rattle.machine.specs.Plant.{is_on}
use Rattle.form.specs.declared.Field.{Field}
use Rattle.form.specs.declared.Field.TheVariants.{Calling, Waiting, Route, Occupied, Unsure, Booms, Lamps}
use Rattle.form.specs.declared.Number.{Number}
use Rattle.form.specs.declared.Number.TheVariants.{Kiosk, Operator, Countdown, Phase, Timer, Left, Out}

-- Arrays ---------------------------------------------------------------------------------------------------------------------------
-- an array of a crossing
abbrev pub array_of : Crossing → Field → List ℕ
array_of c Calling = c.calling
array_of c Waiting = c.waiting
array_of c Route = c.route
array_of c Occupied = c.occupied
array_of c Unsure = c.unsure
array_of c Booms = c.booms
array_of c Lamps = c.lamps

-- a crossing with this array
abbrev pub with_array : Crossing → Field → List ℕ → Crossing
with_array c Calling l = record c { calling = l }
with_array c Waiting l = record c { waiting = l }
with_array c Route l = record c { route = l }
with_array c Occupied l = record c { occupied = l }
with_array c Unsure l = record c { unsure = l }
with_array c Booms l = record c { booms = l }
with_array c Lamps l = record c { lamps = l }

-- four tracks or booms, seven lamps
abbrev pub places : Field → ℕ
places Calling = 4
places Waiting = 4
places Route = 4
places Occupied = 4
places Unsure = 4
places Booms = 4
places Lamps = 7

-- its arrays have their places
pub record Sized (c : Crossing) : Type 0 where
  pub calling : length c.calling ≡ 4
  pub waiting : length c.waiting ≡ 4
  pub route : length c.route ≡ 4
  pub occupied : length c.occupied ≡ 4
  pub unsure : length c.unsure ≡ 4
  pub booms : length c.booms ≡ 4
  pub lamps : length c.lamps ≡ 7

-- what stands at a place
abbrev pub at : Crossing → Field → ℕ → ℕ
at c field t = get_or (array_of c field) t 0

-- a number that counts: trains, or a boom report other than up; of the flags 1
abbrev pub counts : Field → ℕ → Bool
counts Calling x = ltb 0 x
counts Waiting x = ltb 0 x
counts Route x = is_on x
counts Occupied x = is_on x
counts Unsure x = is_on x
counts Booms x = ltb 0 x
counts Lamps x = is_on x

-- some place counts
abbrev pub any_of : Crossing → Field → Bool
any_of c field = any_below (places field) (λ t. counts field (at c field t))

-- what every form can hold at a place is below this: bytes of trains, flags, boom reports
abbrev pub least_limit : Field → ℕ
least_limit Calling = 256
least_limit Waiting = 256
least_limit Route = 2
least_limit Occupied = 2
least_limit Unsure = 2
least_limit Booms = 4
least_limit Lamps = 2

-- Numbers --------------------------------------------------------------------------------------------------------------------------
-- a number of a crossing
abbrev pub number_in : Crossing → Number → ℕ
number_in c Kiosk = c.kiosk
number_in c Operator = c.operator
number_in c Countdown = c.countdown
number_in c Phase = c.phase
number_in c Timer = c.timer
number_in c Left = c.left
number_in c Out = c.out

-- a crossing with this number
abbrev pub with_number : Crossing → Number → ℕ → Crossing
with_number c Kiosk v = record c { kiosk = v }
with_number c Operator v = record c { operator = v }
with_number c Countdown v = record c { countdown = v }
with_number c Phase v = record c { phase = v }
with_number c Timer v = record c { timer = v }
with_number c Left v = record c { left = v }
with_number c Out v = record c { out = v }

-- the most that every form can hold of it
abbrev pub most : Number → ℕ
most Kiosk = 255
most Operator = 255
most Countdown = 65535
most Phase = 255
most Timer = 65535
most Left = 65535
most Out = 65535
