-- Words of the chart: events, books, and the panel after a list.
use Rattle.std.specs.Prelude.{List, [], ◌∷◌, ℕ, replicate}
use Rattle.machine.specs.Events.{Command, listed}
use Rattle.machine.specs.Step.{after}
use Rattle.machine.specs.Panel.{panel}
use Rattle.machine.specs.SiteBook.{read}

-- an event of a sheet, at crossing 0
abbrev pub ev : ℕ → ℕ → ℕ → Command
ev code place value = listed (record { code = code; crossing = 0; place = place; value = value })

-- a tick
abbrev pub a_tick : Command
a_tick = ev 0 0 0

-- a train strikes in on track 0
abbrev pub strike_in : Command
strike_in = ev 1 0 0

-- and passes
abbrev pub passage : Command
passage = ev 2 0 0

-- a book of one crossing with one track, F 2, G 0 and M
abbrev pub book : ℕ → ℕ → ℕ → List ℕ
book kind mask pause = 1 ∷ kind ∷ 1 ∷ mask ∷ 2 ∷ 0 ∷ 0 ∷ 0 ∷ pause ∷ 0 ∷ []

-- with M 0
abbrev pub site : ℕ → ℕ → List ℕ
site kind mask = book kind mask 0

-- its track plain, with M 3 (T-06)
abbrev pub paused : ℕ → List ℕ
paused kind = book kind 0 3

-- the panel after a list of events from fresh
abbrev pub shown : List ℕ → List Command → List ℕ
shown book es = panel (after (read book).plant es)

-- kind 1: a strike-in, a release and n ticks
abbrev pub release : ℕ → List Command
release n = strike_in ∷ ev 7 0 0 ∷ replicate n a_tick
