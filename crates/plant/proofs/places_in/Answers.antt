use Rattle.std.proofs.Common.{◌≡◌, ◌∙◌, ℕ, Bool, length, get_or, rules, arith, ap}
use Rattle.machine.specs.Plant.{entry, crossing}
use Rattle.machine.specs.Range.{place_in}
use Rattle.machine.proofs.Tools.{all_below_same}
use Rattle.machine.proofs.Below.{all_range}
use Rattle.plant.proofs.Laws.{eight_crossings, crossing_read, unread}
use Rattle.plant.proofs.places_in.Goals as goal

pub returns : goal.returns
returns c =
    let p = c.args.p in
    let f : ℕ → Bool = λ i. place_in p.site.n i (entry p i) (get_or p.crossings i unread) in
    let g : ℕ → Bool = λ i. place_in p.site.n i (entry p i) (crossing p i) in
    let eight : length p.crossings ≡ 8 = eight_crossings p _ c.well_formed.0 in
    all_range 8 f (cc) c.all.ensures.ran (λ x b q k. search rules)
    ∙ all_below_same 8 f g (λ i l. ap (place_in p.site.n i (entry p i)) (crossing_read p.crossings i (omega arith)))
