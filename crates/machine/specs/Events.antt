-- Events: the table of codes, places and values, where an event comes from, and its number.
use Rattle.std.specs.Prelude.{Bool, true, cond, not, ◌&&◌, ◌||◌, ℕ, suc, eqb, ltb, leb}
pub use Rattle.machine.specs.declared.Event.{Event}
use Rattle.machine.specs.Common.{any_below, refuse}
use Rattle.machine.specs.Numbers.{unknown_code, unknown_crossing, unknown_place, unknown_value, no_train, train_calling, not_clear, not_dependent, out_of_range, unknown_sender, no_right}
use Rattle.machine.specs.Reports.{lost}
use Rattle.machine.specs.Plant.{Entry, Crossing, Plant, calling, route, occupied, kiosk, operator, trains, entry, crossing, dependent, boom_count, lamp_count}
use Rattle.machine.specs.Range.{in_range}
use Rattle.machine.specs.Rights.{known_sender, may_send}

-- an event of this code
abbrev pub is : ℕ → Event → Bool
is k e = eqb e.code k

-- an event of this code and value
abbrev pub is_to : ℕ → ℕ → Event → Bool
is_to k v e = is k e && eqb e.value v

-- an event of this code at this track, boom or lamp
abbrev pub is_at : ℕ → ℕ → Event → Bool
is_at k place e = is k e && eqb e.place place

-- codes whose place is a track
abbrev pub on_track : ℕ → Bool
on_track code = eqb code 1 || eqb code 2 || eqb code 5 || eqb code 6

-- codes whose value is 0 or 1
abbrev pub on_off : ℕ → Bool
on_off code = eqb code 3 || eqb code 4 || eqb code 5 || eqb code 6 || eqb code 9

-- The table: a field is below its limit, and a field marked - is below 1
-- crossing: any of the plant's; a tick is of the whole plant
abbrev pub crossing_limit : ℕ → ℕ → ℕ
crossing_limit n code = cond (eqb code 0) 1 n

-- place: a track, a boom or a lamp of the kind (T-09), by the code
unfoldable pub place_limit : Entry → ℕ → ℕ
place_limit s code = cond (on_track code) s.tracks (cond (eqb code 8) (boom_count s.kind) (cond (eqb code 9) (lamp_count s.kind) 1))

-- value: a boom reports at most lost (T-02); holds, routes, approaches and lamps 0 or 1
unfoldable pub value_limit : ℕ → ℕ
value_limit code = cond (eqb code 8) (suc lost) (cond (on_off code) 2 1)

-- some track is calling: operator hold off is refused
abbrev pub any_calling : Crossing → Bool
any_calling c = any_below 4 (λ t. ltb 0 (calling c t))

-- a hold on, a route set or an approach occupied: time release is refused
abbrev pub blocked : Crossing → Bool
blocked c = kiosk c || operator c || any_below 4 (λ t. route c t || occupied c t)

-- Commands (T-04) ----------------------------------------------------------------------------------------------------------------
-- where an event comes from: a sheet, which carries no sender, or a sender by its number
pub data From : Type 0 where
  sheet : From
  sender : ℕ → From

-- an event as it arrives
pub record Command : Type 0 where
  pub from : From
  pub event : Event

-- an event of a sheet
abbrev pub listed : Event → Command
listed e = record { from = sheet; event = e }

-- an event of a sender
abbrev pub sent : ℕ → Event → Command
sent k e = record { from = sender k; event = e }

-- it is from a sheet or from one of the four senders
unfoldable pub is_known : From → Bool
is_known sheet = true
is_known (sender k) = known_sender k

-- the right to send it: a sheet has every right
unfoldable pub entitled : From → Event → Bool
entitled sheet e = true
entitled (sender k) e = may_send k e.code e.value

-- The number ---------------------------------------------------------------------------------------------------------------------
-- An event: 5, 6, 7, 8, 17 (T-04), 13, then 10 to 12 (9 no longer occurs, T-01); 0 where it is taken. n crossings; s and c are its own
-- crossing's; may: it has the right
unfoldable pub refusal : ℕ → Entry → Crossing → Bool → Event → ℕ
refusal n s c may e =
    refuse (ltb 9 e.code) unknown_code
    (refuse (leb (crossing_limit n e.code) e.crossing) unknown_crossing
    (refuse (leb (place_limit s e.code) e.place) unknown_place
    (refuse (leb (value_limit e.code) e.value) unknown_value
    (refuse (not may) no_right
    (refuse (is 5 e && not (dependent s e.place)) not_dependent
    (refuse (is 2 e && eqb (trains c e.place) 0) no_train
    (refuse (is_to 4 0 e && any_calling c) train_calling
    (refuse (is 7 e && blocked c) not_clear
    0))))))))

-- Order: 15 first, 16 next (T-04)
unfoldable pub number : Plant → Command → ℕ
number p x =
    let e = x.event in
    refuse (not (in_range p)) out_of_range
    (refuse (not (is_known x.from)) unknown_sender
    (refusal p.site.n (entry p e.crossing) (crossing p e.crossing) (entitled x.from e) e))
