-- A shift as the code keeps it: of each event its four bytes as one number.
use Rattle.std.specs.Prelude.{◌≡◌, true, false, cond, List, ℕ, ◌+◌, ◌*◌, ◌<◌, get_or, Option, Some, None, Result, Ok, Err}
use Rattle.std.specs.List.{slice_split}
use Rattle.machine.specs.declared.Event.{Event}
use Rattle.machine.specs.declared.Agreement.{Agreement}
use Rattle.machine.specs.Sheet.{sheet_event}
use Rattle.machine.specs.Shift.{pairwise, first_unlike}
use Rattle.refusal.specs.declared.Refusal.{Refusal}
use Rattle.refusal.specs.Numbers.{hut_number}
use Rattle.stretch.specs.Keys.{alike, is_zero}

-- the key of an event; a tick has 0
abbrev pub key : Event → ℕ
key e = e.code + 256 * e.crossing + 65536 * e.place + 16777216 * e.value

-- k is the key of e, whose fields are bytes: no other event has it
abbrev pub HasKey : Event → ℕ → Type 0
HasKey e k = (k ≡ key e) × (e.code < 256) × (e.crossing < 256) × (e.place < 256) × (e.value < 256)

-- an array holds the keys of a sheet's first m events
abbrev pub Keyed : List ℕ → List ℕ → ℕ → Type 0
Keyed a s m = (i : ℕ) → i < m → HasKey (sheet_event s i) (get_or a i 0)

-- the stretches of a shift, by its keys
abbrev pub stretches : List ℕ → List (List ℕ)
stretches a = slice_split is_zero a

-- the first stretch that fails
unfoldable pub compared : List ℕ → List ℕ → Option ℕ
compared a b = cond (pairwise alike (stretches a) (stretches b)) None (Some (first_unlike alike (stretches a) (stretches b)))

-- the answer of Shift `agree`, of what the call returns
abbrev pub agreement_of : Result (Option ℕ) Refusal → Agreement
agreement_of (Ok None) = record { number = 0; agreed = true; stretch = 0 }
agreement_of (Ok (Some stretch)) = record { number = 0; agreed = false; stretch = stretch }
agreement_of (Err refusal) = record { number = hut_number refusal; agreed = false; stretch = 0 }
