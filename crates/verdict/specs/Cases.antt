-- The rows of the event table, and the part of a verdict that asks what the crossing holds, in document 01's numbers.
use Rattle.std.specs.Prelude.{not, ◌&&◌, ℕ, eqb, leb}
use Rattle.machine.specs.declared.Entry.{Entry}
use Rattle.machine.specs.declared.Crossing.{Crossing}
use Rattle.machine.specs.declared.Event.{Event}
use Rattle.machine.specs.Common.{refuse}
use Rattle.machine.specs.Numbers.{unknown_crossing, unknown_place, unknown_value, no_train, train_calling, not_clear, not_dependent}
use Rattle.machine.specs.Plant.{trains, dependent}
use Rattle.machine.specs.Events.{is, is_to, crossing_limit, place_limit, value_limit, any_calling, blocked}
use Rattle.action.specs.declared.Action.{Action}
use Rattle.action.specs.Codes.{code_of}
use Rattle.verdict.specs.declared.Limits.{Limits}

-- the part of the chain of refusals that asks what the crossing holds
unfoldable pub state_refusal : Entry → Crossing → Event → ℕ
state_refusal s c e =
    refuse (is 5 e && not (dependent s e.place)) not_dependent
    (refuse (is 2 e && eqb (trains c e.place) 0) no_train
    (refuse (is_to 4 0 e && any_calling c) train_calling
    (refuse (is 7 e && blocked c) not_clear
    0)))

-- an event with the code of this action
abbrev pub of_action : Action → Event → Event
of_action action e = record { code = code_of action; crossing = e.crossing; place = e.place; value = e.value }

-- the row of a code in the event table: the limits of crossing, place and value
abbrev pub row_of : ℕ → Entry → ℕ → Limits
row_of n s code = record { crossing = crossing_limit n code; place = place_limit s code; value = value_limit code }

-- the chain of refusals for code 0: crossing, place and value are 0
unfoldable pub tick_refusal : Event → ℕ
tick_refusal e =
    refuse (leb 1 e.crossing) unknown_crossing
    (refuse (leb 1 e.place) unknown_place
    (refuse (leb 1 e.value) unknown_value
    0))
