-- The claim's own words: what a code, a mask, a kind and a report mean, said again here and not taken from the machine's definitions,
-- so that a machine which has one of them wrong does not keep the claim.
use Rattle.std.specs.Prelude.{Bool, cond, ◌&&◌, ◌||◌, ℕ, zero, suc, ◌+◌, ◌/◌, ◌%◌, ◌^◌, eqb, leb}
use Rattle.machine.specs.declared.Entry.{Entry}
use Rattle.machine.specs.declared.Event.{Event}

-- v where the test holds, otherwise 0
abbrev pub bit : Bool → ℕ → ℕ
bit b v = cond b v 0

-- f summed over the four tracks
abbrev pub sum4 : (ℕ → ℕ) → ℕ
sum4 f = f 0 + f 1 + f 2 + f 3

-- the test holds of some track
abbrev pub some_track : (ℕ → Bool) → Bool
some_track f = f 0 || f 1 || f 2 || f 3

-- f summed over the first n crossings
unfoldable pub sum_over : ℕ → (ℕ → ℕ) → ℕ
sum_over zero f = 0
sum_over (suc n) f = sum_over n f + f n

-- Events -------------------------------------------------------------------------------------------------------------------------
-- an event of this code: the first of its four bytes
abbrev pub is : ℕ → Event → Bool
is code e = eqb e.code code

-- an event of this code and value
abbrev pub is_to : ℕ → ℕ → Event → Bool
is_to code value e = is code e && eqb e.value value

-- an event of this code at this track, boom or lamp
abbrev pub is_at : ℕ → ℕ → Event → Bool
is_at code place e = is code e && eqb e.place place

-- Settings and reports -----------------------------------------------------------------------------------------------------------
-- Mask: bit t set where track t depends on a route
unfoldable pub depends : Entry → ℕ → Bool
depends s t = eqb ((s.mask / (2 ^ t)) % 2) 1

-- Kinds 1 and 5 have lights only (T-09)
abbrev pub no_booms : ℕ → Bool
no_booms kind = eqb kind 1 || eqb kind 5

-- Kinds 5 and 6 are under the 1959 sheet (T-09)
abbrev pub under_1959 : ℕ → Bool
under_1959 kind = eqb kind 5 || eqb kind 6

-- Booms 0 and 1 stand right of the road (none for kinds 1 and 5); 2 and 3 left, kind 4 alone
abbrev pub boom_count : ℕ → ℕ
boom_count kind = cond (no_booms kind) 0 (cond (eqb kind 4) 4 2)

-- the test holds of each boom that a kind has
abbrev pub each_boom : ℕ → (ℕ → Bool) → Bool
each_boom kind f =
    let lacks = leb (boom_count kind) in
    (lacks 0 || f 0) && (lacks 1 || f 1) && (lacks 2 || f 2) && (lacks 3 || f 3)

-- Boom reports: 3, position lost (T-02), is none of these three
-- the boom is up
abbrev pub up : ℕ
up = 0

-- it moves, up or down
abbrev pub moving : ℕ
moving = 1

-- it is down
abbrev pub down : ℕ
down = 2

-- every boom last reported up
unfoldable pub all_up : ℕ → (ℕ → ℕ) → Bool
all_up kind report = each_boom kind (λ b. eqb (report b) up)

-- how a kind demands a boom: kinds 2 and 6 (T-09) reported moving or down (T-02), kinds 3 and 4 reported down
abbrev pub as_demanded : ℕ → ℕ → Bool
as_demanded kind report = cond (eqb kind 2 || eqb kind 6) (eqb report moving || eqb report down) (eqb report down)

-- every boom as the kind demands
unfoldable pub all_closed : ℕ → (ℕ → ℕ) → Bool
all_closed kind report = each_boom kind (λ b. as_demanded kind (report b))
