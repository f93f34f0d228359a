-- Closing in time (T-06) from every plant in range, also where no list from a fresh plant leads: raising with a reason and all booms up, or open with a
-- reason and no ticks left. It is about plants, so the reason and the last reports are read from the plant's own record; which ticks are taken, how many
-- are enough, and what is then ordered down, the claim says (crates/demand).
use Rattle.std.specs.Prelude.{◌≡◌, Bool, true, ◌&&◌, ◌||◌, List, [], ◌∷◌, ◌++◌, ℕ, ◌≤◌, ◌<◌, eqb, ltb, get_or, replicate}
use Rattle.machine.specs.Common.{tab, all_below}
use Rattle.machine.specs.declared.Crossing.{Crossing}
use Rattle.machine.specs.declared.Plant.{Plant}
use Rattle.machine.specs.Plant.{entry, crossing, no_crossing}
use Rattle.machine.specs.Range.{in_range}
use Rattle.machine.specs.Events.{sheet, Command, listed}
use Rattle.machine.specs.Settling.{with_phase}
use Rattle.machine.specs.Step.{after}
use Rattle.machine.specs.SiteBook.{read}
use Rattle.demand.specs.Words.{some_track, all_up}
use Rattle.demand.specs.Ledger.{log, ticks}
use Rattle.demand.specs.Demand.{enough_ticks, a_tick, Ordered}

-- a reason stands: a hold is on, some track is calling, or some track is unsure (T-01)
unfoldable pub stands_in : Crossing → Bool
stands_in c = eqb c.kiosk 1 || eqb c.operator 1 || some_track (λ t. ltb 0 (get_or c.calling t 0)) || some_track (λ t. eqb (get_or c.unsure t 0) 1)

-- every boom that a kind has is last reported up
abbrev pub up_in : ℕ → Crossing → Bool
up_in kind c = all_up kind (λ b. get_or c.booms b 0)

-- both, at crossing i of a plant
abbrev pub ready_in : Plant → ℕ → Bool
ready_in p i = stands_in (crossing p i) && up_in (entry p i).kind (crossing p i)

-- a list from plant p holds M + F + G + 1 taken ticks or more, and both hold at crossing i before its first command and after each
pub record Ready (p : Plant) (i : ℕ) (es : List Command) : Type 0 where
  pub enough : enough_ticks (entry p i) ≤ ticks (log p i es)
  pub stood : (a b : List Command) → es ≡ a ++ b → ready_in (after p a) i ≡ true

-- then all booms are ordered down there
unfoldable pub Closes : Type 0
Closes = (p : Plant) (es : List Command) (i : ℕ) → in_range p ≡ true → i < p.site.n → Ready p i es → Ordered p es i

-- It is exact ------------------------------------------------------------------------------------------------------------------------
-- the fresh plant of a book, four booms with F 1, G 1 and M 1, after the kiosk hold is put on
abbrev pub held : Plant
held = after (read (1 ∷ 4 ∷ 1 ∷ 0 ∷ 1 ∷ 0 ∷ 1 ∷ 0 ∷ 1 ∷ 0 ∷ [])).plant (listed (record { code = 3; crossing = 0; place = 0; value = 1 }) ∷ [])

-- the same, but raising
abbrev pub raised : Plant
raised = record { site = held.site; beat = held.beat; crossings = with_phase (crossing held 0) 4 0 0 0 ∷ tab 7 (λ i. no_crossing) }

-- and after n ticks
abbrev pub ticked : ℕ → Plant
ticked n = after raised (replicate n (a_tick sheet))

-- a reason stands and all booms are up throughout, and M + F + G ticks, 3, are one too few
pub record Exact : Type 0 where
  pub range : in_range raised ≡ true
  pub ready : all_below 5 (λ n. ready_in (ticked n) 0) ≡ true
  pub one_short : (crossing (ticked 3) 0).phase ≡ 2
  pub enough : (crossing (ticked 4) 0).phase ≡ 3
