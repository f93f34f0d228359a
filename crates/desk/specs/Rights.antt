-- Rights (T-04), one claim in words of its own: which sender may send what, and how an event is answered with the right and without it.
use Rattle.std.specs.Prelude.{◌≡◌, Bool, true, false, ◌&&◌, List, [], ◌∷◌, ◌++◌, ℕ, zero, suc, ◌≤◌, eqb, ltb, leb, get_or}
use Rattle.machine.specs.Common.{refuse}
use Rattle.machine.specs.declared.Plant.{Plant}
use Rattle.machine.specs.declared.Event.{Event}
use Rattle.machine.specs.Events.{Command, listed, sent}
use Rattle.machine.specs.Step.{step, after, carried}
use Rattle.machine.specs.Sheet.{ran}

-- a right: none, with every value, or with value 1 alone
pub data Right : Type 0 where
  no : Right
  yes : Right
  on : Right

-- senders down: detection, kiosk, local operator, remote centre. Codes across: tick, strike-in, passage, kiosk hold, operator hold, route,
-- approach, time release, boom report, lamp report
unfoldable pub table : List (List Right)
table =
    (yes ∷ yes ∷ yes ∷ no ∷ no ∷ yes ∷ yes ∷ no ∷ yes ∷ yes ∷ [])
    ∷ (no ∷ no ∷ no ∷ yes ∷ no ∷ no ∷ no ∷ no ∷ no ∷ no ∷ [])
    ∷ (no ∷ no ∷ no ∷ no ∷ yes ∷ no ∷ no ∷ yes ∷ no ∷ no ∷ [])
    ∷ (no ∷ no ∷ no ∷ no ∷ on ∷ no ∷ no ∷ yes ∷ no ∷ no ∷ [])
    ∷ []

-- a right holds for a value
abbrev pub holds : Right → ℕ → Bool
holds no value = false
holds yes value = true
holds on value = eqb value 1

-- the right of sender k to send a code and a value; outside the table there is none
abbrev pub granted : ℕ → ℕ → ℕ → Bool
granted k code value = holds (get_or (get_or table k []) code no) value

-- the number without the right, where the event without a sender has number m: 15 as before; 16 where the sender is none of the four; 5 to 8
-- as before; otherwise 17
abbrev pub without : ℕ → ℕ → ℕ
without k m = refuse (eqb m 15) 15 (refuse (ltb 3 k) 16 (refuse (leb 5 m && leb m 8) m 17))

-- the first k events of a sheet, none with a sender
unfoldable pub first : (ℕ → Event) → ℕ → List Command
first f zero = []
first f (suc k) = first f k ++ listed (f k) ∷ []

-- The claim, for every plant, spoilt ones too, every sender and every event
pub record Rights : Type 0 where
  -- with the right: answered exactly as without a sender
  pub right : (p : Plant) (k : ℕ) (e : Event) → granted k e.code e.value ≡ true → step p (sent k e) ≡ step p (listed e)
  -- without it: the plant comes back, and count 0
  pub none : (p : Plant) (k : ℕ) (e : Event) → granted k e.code e.value ≡ false
      → step p (sent k e) ≡ record { number = without k (step p (listed e)).number; written = 0; plant = p }
  -- without a sender: never 16 or 17
  pub sheet : (p : Plant) (e : Event) → (step p (listed e)).number ≤ 15
  -- and so in a run: its plant and the trains that it writes off are those of the list
  pub run : (p : Plant) (f : ℕ → Event) (k : ℕ) → ((ran p f k).plant ≡ after p (first f k)) × ((ran p f k).written ≡ carried p (first f k))
