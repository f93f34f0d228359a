-- The code of each action, and what a byte decodes to.
use Rattle.std.specs.Prelude.{◌≡◌, ℕ, ◌<◌, Result, MatchResult}
use Rattle.action.specs.declared.Action.{Action}
use Rattle.action.specs.declared.Action.TheVariants.{Tick, StrikeIn, Passage, KioskHold, OperatorHold, Route, Approach, TimeRelease, BoomReport, LampReport}
use Rattle.refusal.specs.declared.Refusal.{Refusal}
use Rattle.refusal.specs.declared.Refusal.TheVariants.{UnknownCode}

-- the code of each action
abbrev pub code_of : Action → ℕ
code_of Tick = 0
code_of StrikeIn = 1
code_of Passage = 2
code_of KioskHold = 3
code_of OperatorHold = 4
code_of Route = 5
code_of Approach = 6
code_of TimeRelease = 7
code_of BoomReport = 8
code_of LampReport = 9

-- the action of this code; above the last code there is none
abbrev pub Decodes : ℕ → Result Action Refusal → Type 0
Decodes code r = MatchResult r (λ action. code_of action ≡ code) (λ e. (e ≡ UnknownCode) × (9 < code))
