-- M + F + G + 1 is exact, computed.
use mathlib.Core.Path.{refl}
use Rattle.machine.specs.Plant.{fresh_plant, dependent, reason, booms_up}
use Rattle.machine.specs.Range.{entry_in, entry_zero, track_in, phase_in, crossing_in, crossing_zero, place_in, in_range}
use Rattle.machine.specs.Events.{is_known, entitled, place_limit, value_limit, refusal, number}
use Rattle.machine.specs.Effects.{calling_after, waiting_after, unsure_after, cancels, act, overlong, phase_ticked, timer_ticked, tick}
use Rattle.machine.specs.Settling.{phase_settled, timer_settled, left_settled, out_settled, settle}
use Rattle.machine.specs.Step.{touch, apply, step, after}
use Rattle.machine.specs.SiteBook.{book_entry, book_site, read_number, read}
use Rattle.demand.specs.Words.{all_up}
use Rattle.closing.specs.Closing.{stands_in, Exact}

pub exact : Exact
unfolding fresh_plant dependent reason booms_up entry_in entry_zero track_in phase_in crossing_in crossing_zero place_in in_range is_known entitled place_limit value_limit refusal number calling_after waiting_after unsure_after cancels act overlong phase_ticked timer_ticked tick phase_settled timer_settled left_settled out_settled settle touch apply step after book_entry book_site read_number read all_up stands_in
exact = record { range = refl; ready = refl; one_short = refl; enough = refl }
