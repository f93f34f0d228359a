-- The table of the 1959 sheet (T-09), computed; with its laws.
use mathlib.Core.Path.{refl}
use Rattle.machine.specs.Plant.{fresh_plant, dependent, reason, booms_up, booms_down, booms_closed, normal, secured}
use Rattle.machine.specs.Range.{entry_in, entry_zero, track_in, phase_in, crossing_in, crossing_zero, place_in, in_range}
use Rattle.machine.specs.Events.{is_known, entitled, place_limit, value_limit, refusal, number}
use Rattle.machine.specs.Effects.{act, overlong, phase_ticked, timer_ticked, tick, written_at}
use Rattle.machine.specs.Settling.{phase_settled, timer_settled, left_settled, out_settled, settle}
use Rattle.machine.specs.Step.{touch}
use Rattle.machine.specs.Panel.{road, shows_white, signal, distant, lit_at, road_rhythm, boom_rhythm, train_rhythm, is_lit, lit, bell, boom_lamps, right_down, left_down, released, releases_shown, status, holds, row}
use Rattle.machine.specs.SiteBook.{book_entry, book_site, read_number, read}
use Rattle.old_sheet.specs.OldSheet.{Lights, Booms, Release, Settings, OldSheet}
use Rattle.old_sheet.proofs.Laws.{laws}

lights : Lights
unfolding entry_in track_in phase_in crossing_in dependent booms_up booms_down booms_closed normal secured road shows_white signal distant lit_at road_rhythm boom_rhythm train_rhythm is_lit lit bell boom_lamps right_down left_down released releases_shown status holds row
lights = record {
  normal = (refl, refl, refl);
  warning = (refl, refl, refl);
  closed = (refl, refl, refl);
  white_dead = (refl, refl, refl);
  red_dead = (refl, refl, refl);
  flasher_dead = (refl, refl, refl);
}

booms : Booms
unfolding entry_in track_in phase_in crossing_in dependent booms_up booms_down booms_closed normal secured road shows_white signal distant lit_at road_rhythm boom_rhythm train_rhythm is_lit lit bell boom_lamps right_down left_down released releases_shown status holds row
booms = record {
  normal = (refl, refl, refl);
  normal_amber_dead = (refl, refl, refl);
  warning = (refl, refl, refl);
  one_up = (refl, refl, refl);
  both_moving = (refl, refl, refl);
  one_lost = (refl, refl, refl);
  lamp_5_dead = (refl, refl, refl);
  lamp_6_dead = (refl, refl, refl);
  white_dead = (refl, refl, refl);
  both_dead = (refl, refl, refl);
  red_dead = (refl, refl, refl);
  flasher_dead = (refl, refl, refl);
  raising = (refl, refl, refl);
  not_raised = (refl, refl, refl);
}

release : Release
unfolding entry_in track_in phase_in crossing_in dependent reason booms_up normal overlong phase_ticked timer_ticked tick written_at phase_settled timer_settled left_settled out_settled settle touch
release = record {
  short = (refl, refl);
  due = (refl, refl);
  booms = (refl, refl);
  later = (refl, refl);
  kiosk = (refl, refl);
  operator = (refl, refl);
  approach = (refl, refl);
  chapter_9 = (refl, refl);
  half_booms = (refl, refl);
}

settings : Settings
unfolding fresh_plant dependent entry_in entry_zero track_in phase_in crossing_in crossing_zero place_in in_range is_known entitled place_limit value_limit refusal number book_entry book_site read_number read
settings = record { kinds = refl; pre = refl; lamps_6 = refl; lamps_else = refl }

pub old_sheet : OldSheet
old_sheet = record { lights = lights; booms = booms; release = release; settings = settings; laws = laws }
