-- The chart, computed.
use mathlib.Core.Path.{refl}
use Rattle.machine.specs.Plant.{fresh_plant, dependent, reason, booms_up, booms_down, booms_closed, normal, secured}
use Rattle.machine.specs.Range.{entry_in, entry_zero, track_in, phase_in, crossing_in, crossing_zero, place_in, in_range}
use Rattle.machine.specs.Events.{is_known, entitled, place_limit, value_limit, refusal, number}
use Rattle.machine.specs.Effects.{calling_after, waiting_after, unsure_after, cancels, act, overlong, phase_ticked, timer_ticked, tick, written_at}
use Rattle.machine.specs.Settling.{phase_settled, timer_settled, left_settled, out_settled, settle}
use Rattle.machine.specs.Step.{touch, apply, written, step, after, carried}
use Rattle.machine.specs.Panel.{road, shows_white, signal, distant, lit_at, road_rhythm, boom_rhythm, train_rhythm, is_lit, lit, bell, boom_lamps, right_down, left_down, released, releases_shown, status, holds, row, panel}
use Rattle.machine.specs.SiteBook.{book_entry, book_site, read_number, read}
use Rattle.chart.specs.Chart.{Chart}
use Rattle.chart.proofs.Release.{carried_269, carried_270, phase_270}

pub chart : Chart
unfolding fresh_plant dependent reason booms_up booms_down booms_closed normal secured entry_in entry_zero track_in phase_in crossing_in crossing_zero place_in in_range is_known entitled place_limit value_limit refusal number calling_after waiting_after unsure_after cancels act overlong phase_ticked timer_ticked tick written_at phase_settled timer_settled left_settled out_settled settle touch apply written step after carried road shows_white signal distant lit_at road_rhythm boom_rhythm train_rhythm is_lit lit bell boom_lamps right_down left_down released releases_shown status holds row panel book_entry book_site read_number read
chart = record {
  fresh = refl;
  program = refl;
  one_tick_fewer = refl;
  gone_in_warning = refl;
  raising = refl;
  opened = refl;
  again = refl;
  again_timer = refl;
  waits = refl;
  route_set = refl;
  both_moving = refl;
  one_up = refl;
  red_dead_road = refl;
  red_dead_stop = refl;
  one_tick = refl;
  flasher_dead = refl;
  release_269 = carried_269;
  release_270 = carried_270;
  released = phase_270;
}
