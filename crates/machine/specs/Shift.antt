-- Hut against cabin (document 02, T-07): two sheets of one shift, a the hut's and b the cabin's, compared stretch by stretch.
use Rattle.std.specs.Prelude.{Bool, true, false, cond, ◌&&◌, ◌||◌, List, [], ◌∷◌, ◌++◌, ℕ, suc, ◌+◌, eqb, ltb}
pub use Rattle.machine.specs.declared.Agreement.{Agreement}
use Rattle.machine.specs.Common.{tab, refuse, bit}
use Rattle.machine.specs.Numbers.{shift_too_long}
use Rattle.machine.specs.Events.{Event}
use Rattle.machine.specs.Sheet.{sheet_size, sheet_event, sheet_number}

-- Words of lists -------------------------------------------------------------------------------------------------------------------
module _ {A : Type 0} where
  -- how many of a list pass a test
  abbrev pub how_many : (A → Bool) → List A → ℕ
  how_many f [] = 0
  how_many f (x ∷ l) = bit (f x) 1 + how_many f l

  -- all of a list pass a test
  abbrev pub all_of : (A → Bool) → List A → Bool
  all_of f [] = true
  all_of f (x ∷ l) = f x && all_of f l

  -- a list parted at those that pass a test, which stand in no part; `since` is what stands since the last of them
  abbrev pub parted : (A → Bool) → List A → List A → List (List A)
  parted f since [] = since ∷ []
  parted f since (x ∷ l) = cond (f x) (since ∷ parted f [] l) (parted f (since ++ (x ∷ [])) l)

  -- two lists are equally long, and each pair passes a test
  abbrev pub pairwise : (A → A → Bool) → List A → List A → Bool
  pairwise f [] [] = true
  pairwise f [] (y ∷ m) = false
  pairwise f (x ∷ l) [] = false
  pairwise f (x ∷ l) (y ∷ m) = f x y && pairwise f l m

  -- the first place, from 0, at which a pair fails or only one list has anything
  abbrev pub first_unlike : (A → A → Bool) → List A → List A → ℕ
  first_unlike f [] m = 0
  first_unlike f (x ∷ l) [] = 0
  first_unlike f (x ∷ l) (y ∷ m) = cond (f x y) (suc (first_unlike f l m)) 0

-- The comparison -------------------------------------------------------------------------------------------------------------------
-- an event is compared by its four bytes, known code or not
unfoldable pub same_event : Event → Event → Bool
same_event x y = eqb x.code y.code && (eqb x.crossing y.crossing && (eqb x.place y.place && eqb x.value y.value))

-- a tick here is four zero bytes
unfoldable pub four_zeros : Event → Bool
four_zeros e = same_event e (record { code = 0; crossing = 0; place = 0; value = 0 })

-- the events of a sheet
abbrev pub events : List ℕ → List Event
events s = tab (sheet_size s) (sheet_event s)

-- its stretches: before the first tick, between ticks, after the last
unfoldable pub stretches : List ℕ → List (List Event)
stretches s = parted four_zeros [] (events s)

-- how often an event stands in a stretch
unfoldable pub often : Event → List Event → ℕ
often e x = how_many (same_event e) x

-- two stretches hold the same events, each as often: every event of the one or the other
unfoldable pub alike : List Event → List Event → Bool
alike x y = all_of (λ e. eqb (often e x) (often e y)) (x ++ y)

-- the two agree: as many stretches, and so as many ticks, and each alike
unfoldable pub agreed : List ℕ → List ℕ → Bool
agreed a b = pairwise alike (stretches a) (stretches b)

-- the first stretch that fails; one that only one sheet has fails, even an empty one
unfoldable pub first_failing : List ℕ → List ℕ → ℕ
first_failing a b = first_unlike alike (stretches a) (stretches b)

-- sheets over 256 events are not compared
abbrev pub shift_limit : ℕ
shift_limit = 256

-- the numbers: the hut's sheet has passed 4, 2 and 4, then the cabin's, then 18
unfoldable pub agree_number : List ℕ → List ℕ → ℕ
agree_number a b =
    sheet_number a
    (sheet_number b
    (refuse (ltb shift_limit (sheet_size a) || ltb shift_limit (sheet_size b)) shift_too_long
    0))

-- the answer: agreed with stretch 0, or the first stretch that fails; refused: the number, not agreed, stretch 0
unfoldable pub agree : List ℕ → List ℕ → Agreement
agree a b =
    cond (eqb (agree_number a b) 0)
    (record { number = 0; agreed = agreed a b; stretch = cond (agreed a b) 0 (first_failing a b) })
    (record { number = agree_number a b; agreed = false; stretch = 0 })
