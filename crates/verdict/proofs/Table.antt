-- The numbers of an event of the table, by the limits of its row.
use Rattle.std.proofs.Common.{◌≡◌, refl, ℕ, true, false}
use Rattle.std.specs.Prelude.{ltb, leb}
use Rattle.machine.specs.Common.{refuse}
use Rattle.machine.specs.declared.Entry.{Entry}
use Rattle.machine.specs.declared.Crossing.{Crossing}
use Rattle.machine.specs.declared.Event.{Event}
use Rattle.machine.specs.Numbers.{unknown_crossing, unknown_place, unknown_value}
use Rattle.machine.specs.Events.{place_limit, value_limit, refusal}
use Rattle.action.specs.declared.Action.{Action}
use Rattle.action.specs.declared.Action.TheVariants.{Tick, StrikeIn, Passage, KioskHold, OperatorHold, Route, Approach, TimeRelease, BoomReport, LampReport}
use Rattle.action.specs.Codes.{code_of}
use Rattle.verdict.specs.declared.Limits.{Limits}
use Rattle.verdict.specs.Cases.{of_action, row_of, state_refusal, tick_refusal}

-- no action has an unknown code
known : (action : Action) → ltb 9 (code_of action) ≡ false
known Tick = refl
known StrikeIn = refl
known Passage = refl
known KioskHold = refl
known OperatorHold = refl
known Route = refl
known Approach = refl
known TimeRelease = refl
known BoomReport = refl
known LampReport = refl

-- the chain of refusals of an event of this row; the last number is what its crossing's state gives
abbrev pub row_refusal : Limits → Event → ℕ → ℕ
row_refusal row e state =
    refuse (leb row.crossing e.crossing) unknown_crossing
    (refuse (leb row.place e.place) unknown_place
    (refuse (leb row.value e.value) unknown_value
    state))

pub by_action : (n : ℕ) (s : Entry) (c : Crossing) (e : Event) (action : Action) (row : Limits) → code_of action ≡ e.code → row ≡ row_of n s (code_of action) →
    row_refusal row e (state_refusal s c (of_action action e)) ≡ refusal n s c true e
unfolding refusal state_refusal
by_action n s c e action row q r = rw (r, ← q, known action) refl

-- what the crossing holds refuses events of four codes alone
pub no_state : (s : Entry) (c : Crossing) (action : Action) (e : Event) → (action ≡ Route → ⊥) → (action ≡ Passage → ⊥) → (action ≡ OperatorHold → ⊥) → (action ≡ TimeRelease → ⊥) →
    0 ≡ state_refusal s c (of_action action e)
unfolding state_refusal
no_state s c Tick e r p h t = refl
no_state s c StrikeIn e r p h t = refl
no_state s c Passage e r p h t = absurd (p refl)
no_state s c KioskHold e r p h t = refl
no_state s c OperatorHold e r p h t = absurd (h refl)
no_state s c Route e r p h t = absurd (r refl)
no_state s c Approach e r p h t = refl
no_state s c TimeRelease e r p h t = absurd (t refl)
no_state s c BoomReport e r p h t = refl
no_state s c LampReport e r p h t = refl

-- the verdict on a tick asks no crossing
pub of_tick : (n : ℕ) (s : Entry) (c : Crossing) (e : Event) → e.code ≡ 0 → refusal n s c true e ≡ tick_refusal e
unfolding refusal place_limit value_limit tick_refusal
of_tick n s c e q = simp q
