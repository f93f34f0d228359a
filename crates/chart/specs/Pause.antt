-- Time for motorists (T-06): one table about the machine. M is 3, F 2, and a train calls on the one track.
use Rattle.std.specs.Prelude.{◌≡◌, List, [], ◌∷◌, ◌++◌, ℕ, get_or, replicate}
use Rattle.machine.specs.Reports.{up, down}
use Rattle.machine.specs.Plant.{crossing}
use Rattle.machine.specs.Events.{Command}
use Rattle.machine.specs.Step.{after}
use Rattle.machine.specs.SiteBook.{read}
use Rattle.chart.specs.Words.{ev, a_tick, strike_in, passage, paused, shown}

-- a train, both booms down at beat 2, its passage; a second train
abbrev pub second : List Command
second = strike_in ∷ a_tick ∷ a_tick ∷ ev 8 0 down ∷ ev 8 1 down ∷ passage ∷ strike_in ∷ []

-- both booms up again, then n ticks
abbrev pub opens : ℕ → List Command
opens n = ev 8 0 up ∷ ev 8 1 up ∷ replicate n a_tick

-- lights only: a train that passes, a second one, then n ticks
abbrev pub lights : ℕ → List Command
lights n = strike_in ∷ a_tick ∷ a_tick ∷ passage ∷ strike_in ∷ replicate n a_tick

-- bytes 10, 9 and 12: phase, position, calling
abbrev pub phase_normal_calling : List ℕ → List Command → List ℕ
phase_normal_calling book es = get_or (shown book es) 10 0 ∷ get_or (shown book es) 9 0 ∷ get_or (shown book es) 12 0 ∷ []

-- ticks left at crossing 0
abbrev pub left : List ℕ → List Command → ℕ
left book es = (crossing (after (read book).plant es) 0).left

-- the rows
pub record Pause : Type 0 where
  pub rising : shown (paused 3) second ≡ 2 ∷ 15 ∷ 0 ∷ 1 ∷ 0 ∷ 0 ∷ 1 ∷ 1 ∷ 0 ∷ 0 ∷ 4 ∷ 0 ∷ 1 ∷ 0 ∷ 0 ∷ 0 ∷ []
  pub opened : shown (paused 3) (second ++ opens 0) ≡ 1 ∷ 0 ∷ 0 ∷ 0 ∷ 0 ∷ 0 ∷ 1 ∷ 1 ∷ 0 ∷ 1 ∷ 0 ∷ 0 ∷ 1 ∷ 0 ∷ 0 ∷ 0 ∷ []
  pub one_tick : shown (paused 3) (second ++ opens 1) ≡ 1 ∷ 0 ∷ 0 ∷ 0 ∷ 0 ∷ 0 ∷ 1 ∷ 1 ∷ 0 ∷ 1 ∷ 0 ∷ 0 ∷ 1 ∷ 0 ∷ 0 ∷ 0 ∷ []
  pub two_ticks : shown (paused 3) (second ++ opens 2) ≡ 1 ∷ 13 ∷ 0 ∷ 0 ∷ 0 ∷ 0 ∷ 1 ∷ 1 ∷ 0 ∷ 1 ∷ 0 ∷ 0 ∷ 1 ∷ 0 ∷ 0 ∷ 0 ∷ []
  pub three_ticks : shown (paused 3) (second ++ opens 3) ≡ 2 ∷ 0 ∷ 1 ∷ 1 ∷ 0 ∷ 0 ∷ 1 ∷ 1 ∷ 0 ∷ 0 ∷ 1 ∷ 0 ∷ 1 ∷ 0 ∷ 0 ∷ 0 ∷ []
  pub four_ticks : shown (paused 3) (second ++ opens 4) ≡ 2 ∷ 15 ∷ 1 ∷ 1 ∷ 0 ∷ 0 ∷ 1 ∷ 1 ∷ 0 ∷ 0 ∷ 1 ∷ 0 ∷ 1 ∷ 0 ∷ 0 ∷ 0 ∷ []
  pub five_ticks : shown (paused 3) (second ++ opens 5) ≡ 2 ∷ 0 ∷ 1 ∷ 1 ∷ 1 ∷ 0 ∷ 1 ∷ 1 ∷ 0 ∷ 0 ∷ 3 ∷ 0 ∷ 1 ∷ 0 ∷ 0 ∷ 0 ∷ []
  pub left_at_first : left (paused 3) (second ++ opens 0) ≡ 3
  pub while_rising : phase_normal_calling (paused 3) (second ++ a_tick ∷ a_tick ∷ opens 2) ≡ 0 ∷ 1 ∷ 1 ∷ []
  pub given_up : phase_normal_calling (paused 3) (strike_in ∷ passage ∷ strike_in ∷ []) ≡ 1 ∷ 0 ∷ 1 ∷ []
  pub hold : phase_normal_calling (paused 3) (second ++ opens 1 ++ ev 3 0 1 ∷ a_tick ∷ []) ≡ 0 ∷ 1 ∷ 1 ∷ []
  pub lights_open : phase_normal_calling (paused 1) (lights 2) ≡ 0 ∷ 1 ∷ 1 ∷ []
  pub lights_warn : phase_normal_calling (paused 1) (lights 3) ≡ 1 ∷ 0 ∷ 1 ∷ []
  pub older_book : (read (1 ∷ 3 ∷ 1 ∷ 0 ∷ 2 ∷ 0 ∷ 0 ∷ 0 ∷ [])).number ≡ 1
