-- The chart: every starred row of document 01, one table about the machine.
use Rattle.std.specs.Prelude.{◌≡◌, List, [], ◌∷◌, ◌++◌, ℕ, get_or}
use Rattle.machine.specs.Reports.{up, moving, down}
use Rattle.machine.specs.Plant.{crossing}
use Rattle.machine.specs.Events.{Command}
use Rattle.machine.specs.Step.{after, carried}
use Rattle.machine.specs.SiteBook.{read}
use Rattle.chart.specs.Words.{ev, a_tick, strike_in, passage, site, shown, release}

-- bytes 10 and 6: phase and train signal
abbrev pub phase_signal : List ℕ → List Command → List ℕ
phase_signal book es = get_or (shown book es) 10 0 ∷ get_or (shown book es) 6 0 ∷ []

-- both booms report
abbrev pub reports : ℕ → ℕ → List Command
reports a b = ev 8 0 a ∷ ev 8 1 b ∷ []

-- a strike-in, then two ticks: phase 3
abbrev pub closing : List Command
closing = strike_in ∷ a_tick ∷ a_tick ∷ []

-- the program's case
abbrev pub closed : List Command
closed = closing ++ reports down down

-- bytes 14, 12 and 10: waiting, calling and phase
abbrev pub queue_phase : List ℕ → List Command → List ℕ
queue_phase book es = get_or (shown book es) 14 0 ∷ get_or (shown book es) 12 0 ∷ get_or (shown book es) 10 0 ∷ []

-- the rows
pub record Chart : Type 0 where
  pub fresh : shown (site 3 0) [] ≡ 1 ∷ 13 ∷ 0 ∷ 0 ∷ 0 ∷ 0 ∷ 1 ∷ 1 ∷ 0 ∷ 1 ∷ 0 ∷ 0 ∷ 0 ∷ 0 ∷ 0 ∷ 0 ∷ []
  pub program : shown (site 3 0) closed ≡ 2 ∷ 15 ∷ 0 ∷ 1 ∷ 1 ∷ 0 ∷ 2 ∷ 2 ∷ 0 ∷ 2 ∷ 3 ∷ 0 ∷ 1 ∷ 0 ∷ 0 ∷ 0 ∷ []
  pub one_tick_fewer : phase_signal (site 3 0) (strike_in ∷ a_tick ∷ reports down down) ≡ 1 ∷ 1 ∷ []
  pub gone_in_warning : get_or (shown (site 3 0) (strike_in ∷ passage ∷ [])) 10 0 ≡ 0
  pub raising : phase_signal (site 3 0) (closed ++ passage ∷ []) ≡ 4 ∷ 1 ∷ []
  pub opened : get_or (shown (site 3 0) (closed ++ passage ∷ reports up up)) 10 0 ≡ 0
  pub again : get_or (shown (site 3 0) (closed ++ passage ∷ strike_in ∷ reports up up)) 10 0 ≡ 1
  pub again_timer : (crossing (after (read (site 3 0)).plant (closed ++ passage ∷ strike_in ∷ reports up up)) 0).timer ≡ 2
  pub waits : queue_phase (site 3 1) (strike_in ∷ []) ≡ 1 ∷ 0 ∷ 0 ∷ []
  pub route_set : queue_phase (site 3 1) (strike_in ∷ ev 5 0 1 ∷ []) ≡ 0 ∷ 1 ∷ 1 ∷ []
  pub both_moving : phase_signal (site 2 0) (closing ++ reports moving moving) ≡ 3 ∷ 2 ∷ []
  pub one_up : phase_signal (site 2 0) (closing ++ reports moving up) ≡ 3 ∷ 1 ∷ []
  pub red_dead_road : get_or (shown (site 3 0) (closed ++ ev 9 1 0 ∷ [])) 0 0 ≡ 0
  pub red_dead_stop : phase_signal (site 3 0) (closed ++ ev 9 1 0 ∷ []) ≡ 3 ∷ 1 ∷ []
  pub one_tick : get_or (shown (site 3 0) (a_tick ∷ [])) 1 0 ≡ 0
  pub flasher_dead : get_or (shown (site 3 0) (ev 9 4 0 ∷ a_tick ∷ [])) 1 0 ≡ 13
  pub release_269 : carried (read (site 1 0)).plant (release 269) ≡ 0
  pub release_270 : carried (read (site 1 0)).plant (release 270) ≡ 1
  pub released : get_or (shown (site 1 0) (release 270)) 10 0 ≡ 0
