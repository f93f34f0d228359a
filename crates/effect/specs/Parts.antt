-- The codes of events that one function serves.
use Rattle.std.specs.Prelude.{◌≡◌, ℕ}
use Rattle.form.specs.declared.Field.{Field}
use Rattle.form.specs.declared.Field.TheVariants.{Calling, Waiting, Route, Occupied, Unsure, Booms, Lamps}
use Rattle.form.specs.declared.Number.{Number}
use Rattle.form.specs.declared.Number.TheVariants.{Kiosk, Operator, Countdown, Phase, Timer, Left, Out}

-- the code of the hold that is this number
abbrev pub Holds : Number → ℕ → Type 0
Holds Kiosk code = code ≡ 3
Holds Operator code = code ≡ 4
Holds Countdown code = ⊥
Holds Phase code = ⊥
Holds Timer code = ⊥
Holds Left code = ⊥
Holds Out code = ⊥

-- the code of the reports that this array keeps
abbrev pub Reports : Field → ℕ → Type 0
Reports Calling code = ⊥
Reports Waiting code = ⊥
Reports Route code = ⊥
Reports Occupied code = ⊥
Reports Unsure code = ⊥
Reports Booms code = code ≡ 8
Reports Lamps code = code ≡ 9
