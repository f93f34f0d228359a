-- The rows of time for motorists (T-06), computed.
use mathlib.Core.Path.{refl}
use Rattle.machine.specs.Plant.{fresh_plant, dependent, reason, booms_up, booms_down, booms_closed, normal, secured}
use Rattle.machine.specs.Range.{entry_in, entry_zero, track_in, phase_in, crossing_in, crossing_zero, place_in, in_range}
use Rattle.machine.specs.Events.{is_known, entitled, place_limit, value_limit, refusal, number}
use Rattle.machine.specs.Effects.{calling_after, waiting_after, unsure_after, cancels, act, overlong, phase_ticked, timer_ticked, tick}
use Rattle.machine.specs.Settling.{phase_settled, timer_settled, left_settled, out_settled, settle}
use Rattle.machine.specs.Step.{touch, apply, step, after}
use Rattle.machine.specs.Panel.{road, shows_white, signal, distant, lit_at, road_rhythm, boom_rhythm, train_rhythm, is_lit, lit, bell, boom_lamps, right_down, left_down, released, releases_shown, status, holds, row, panel}
use Rattle.machine.specs.SiteBook.{book_entry, book_site, read_number, read}
use Rattle.chart.specs.Pause.{Pause}

pub pause : Pause
unfolding fresh_plant dependent reason booms_up booms_down booms_closed normal secured entry_in entry_zero track_in phase_in crossing_in crossing_zero place_in in_range is_known entitled place_limit value_limit refusal number calling_after waiting_after unsure_after cancels act overlong phase_ticked timer_ticked tick phase_settled timer_settled left_settled out_settled settle touch apply step after road shows_white signal distant lit_at road_rhythm boom_rhythm train_rhythm is_lit lit bell boom_lamps right_down left_down released releases_shown status holds row panel book_entry book_site read_number read
pause = record {
  rising = refl;
  opened = refl;
  one_tick = refl;
  two_ticks = refl;
  three_ticks = refl;
  four_ticks = refl;
  five_ticks = refl;
  left_at_first = refl;
  while_rising = refl;
  given_up = refl;
  hold = refl;
  lights_open = refl;
  lights_warn = refl;
  older_book = refl;
}
