-- Kind 1, strike-in and release: 269 ticks are computed once, and the 270th follows.
use mathlib.Core.Path.{◌≡◌, refl, sym, ◌∙◌, ap}
use mathlib.Core.List.{List, [], ◌∷◌, ◌++◌}
use Prim.Native.Nat.{ℕ, ◌+◌}
use native.Mathlib.Omega.{arith}
use lib.ListN.{get_or}
use Rattle.machine.specs.Common.{tab}
use Rattle.machine.specs.declared.Crossing.{Crossing}
use Rattle.machine.specs.declared.Plant.{Plant}
use Rattle.machine.specs.Reports.{up}
use Rattle.machine.specs.Plant.{no_crossing, fresh_plant, dependent, reason, booms_up, booms_down, booms_closed, normal, secured}
use Rattle.machine.specs.Range.{entry_in, entry_zero, track_in, phase_in, crossing_in, crossing_zero, place_in, in_range}
use Rattle.machine.specs.Events.{Command, is_known, entitled, place_limit, value_limit, refusal, number}
use Rattle.machine.specs.Effects.{calling_after, waiting_after, unsure_after, cancels, act, overlong, phase_ticked, timer_ticked, tick, written_at}
use Rattle.machine.specs.Settling.{phase_settled, timer_settled, left_settled, out_settled, settle}
use Rattle.machine.specs.Step.{touch, apply, written, step, after, carried}
use Rattle.machine.specs.Panel.{road, shows_white, signal, distant, lit_at, road_rhythm, boom_rhythm, train_rhythm, is_lit, lit, bell, boom_lamps, right_down, left_down, released, releases_shown, status, holds, row, panel}
use Rattle.machine.specs.SiteBook.{book_entry, book_site, read_number, read}
use Rattle.chart.specs.Words.{a_tick, site, shown, release}

-- the plant after a list and the trains that the answers carry, together
pub record Played : Type 0 where
  pub plant : Plant
  pub carries : ℕ

unfoldable played : Plant → ℕ → List Command → Played
played p n [] = record { plant = p; carries = n }
played p n (e ∷ es) = let a = step p e in played a.plant (n + a.written) es

played_plant : (p : Plant) (n : ℕ) (es : List Command) → (played p n es).plant ≡ after p es
unfolding played after
played_plant p n [] = refl
played_plant p n (e ∷ es) = played_plant (step p e).plant (n + (step p e).written) es

played_carries : (p : Plant) (n : ℕ) (es : List Command) → (played p n es).carries ≡ n + carried p es
unfolding played carried
played_carries p n [] = omega arith
played_carries p n (e ∷ es) = let h = played_carries (step p e).plant (n + (step p e).written) es in omega arith

played_append : (p : Plant) (n : ℕ) (es fs : List Command) → played p n (es ++ fs) ≡ played (played p n es).plant (played p n es).carries fs
unfolding played
played_append p n [] fs = refl
played_append p n (e ∷ es) fs = played_append (step p e).plant (n + (step p e).written) es fs

-- after 269 ticks: the train still calls, all is ordered down, and the countdown ends on the next tick
abbrev held : Crossing
held = record {
  calling = 1 ∷ 0 ∷ 0 ∷ 0 ∷ [];
  waiting = tab 4 (λ t. 0);
  route = tab 4 (λ t. 0);
  occupied = tab 4 (λ t. 0);
  unsure = tab 4 (λ t. 0);
  booms = tab 4 (λ b. up);
  lamps = 1 ∷ 1 ∷ 1 ∷ 1 ∷ 1 ∷ 0 ∷ 0 ∷ [];
  kiosk = 0;
  operator = 0;
  countdown = 1;
  phase = 3;
  timer = 0;
  left = 0;
  out = 269;
}

abbrev last_tick_due : Played
last_tick_due = record {
  plant = record { site = (read (site 1 0)).plant.site; beat = 1; crossings = held ∷ tab 7 (λ i. no_crossing) };
  carries = 0;
}

-- the fresh plant
abbrev lights : Plant
lights = (read (site 1 0)).plant

-- the 270th tick
abbrev ended : Played
ended = played last_tick_due.plant 0 (a_tick ∷ [])

record Computed : Type 0 where
  pub ticks : played lights 0 (release 269) ≡ last_tick_due
  pub carries : ended.carries ≡ 1
  pub phase : get_or (panel ended.plant) 10 0 ≡ 0

computed : Computed
unfolding fresh_plant dependent reason booms_up booms_down booms_closed normal secured entry_in entry_zero track_in phase_in crossing_in crossing_zero place_in in_range is_known entitled place_limit value_limit refusal number calling_after waiting_after unsure_after cancels act overlong phase_ticked timer_ticked tick written_at phase_settled timer_settled left_settled out_settled settle touch apply written step after carried road shows_white signal distant lit_at road_rhythm boom_rhythm train_rhythm is_lit lit bell boom_lamps right_down left_down released releases_shown status holds row panel book_entry book_site read_number read played
computed = record { ticks = refl; carries = refl; phase = refl }

ticks_270 : played lights 0 (release 270) ≡ ended
ticks_270 = played_append lights 0 (release 269) (a_tick ∷ []) ∙ ap (λ r. played r.plant r.carries (a_tick ∷ [])) computed.ticks

-- The rows -------------------------------------------------------------------------------------------------------------------------
pub carried_269 : carried lights (release 269) ≡ 0
carried_269 = let h = played_carries lights 0 (release 269) in let k = ap (λ r. r.carries) computed.ticks in omega arith

pub carried_270 : carried lights (release 270) ≡ 1
carried_270 = let h = played_carries lights 0 (release 270) in let k = ap (λ r. r.carries) ticks_270 ∙ computed.carries in omega arith

pub phase_270 : get_or (shown (site 1 0) (release 270)) 10 0 ≡ 0
phase_270 = ap (λ p. get_or (panel p) 10 0) (sym (played_plant lights 0 (release 270)) ∙ ap (λ r. r.plant) ticks_270) ∙ computed.phase
