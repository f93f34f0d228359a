use mathlib.Core.Path.{◌≡◌, sym, ◌∙◌}
use lib.ListN.{length}
use Rattle.std.proofs.Common.{rules}
use lib.Dec.{eqb}
use Rattle.machine.specs.Plant.{calling, waiting, route_flag, occupied_flag, unsure_flag}
use Rattle.machine.specs.Range.{crossing_zero}
use Rattle.unused.proofs.Zeros.{and_left, five, against_zeros}
use Rattle.unused.proofs.crossing_zero.Goals as goal

pub returns : goal.returns
unfolding crossing_zero
returns c =
    let x = c.args.c in
    let z = c.default.result in
    let d = c.default.ensures in
    let k1 : length x.calling ≡ 4 = search rules in
    let k2 : length x.waiting ≡ 4 = search rules in
    let k3 : length x.route ≡ 4 = search rules in
    let k4 : length x.occupied ≡ 4 = search rules in
    let k5 : length x.unsure ≡ 4 = search rules in
    let k6 : length x.booms ≡ 4 = search rules in
    let k7 : length x.lamps ≡ 7 = search rules in
    c.eq.ensures ∙ rw (
      against_zeros 4 x.calling z.calling k1 d.0,
      against_zeros 4 x.waiting z.waiting k2 d.1.0,
      against_zeros 4 x.route z.route k3 d.1.1.0,
      against_zeros 4 x.occupied z.occupied k4 d.1.1.1.0,
      against_zeros 4 x.unsure z.unsure k5 d.1.1.1.1.0,
      against_zeros 4 x.booms z.booms k6 d.1.1.1.1.1.0,
      against_zeros 7 x.lamps z.lamps k7 d.1.1.1.1.1.1.0,
      d.1.1.1.1.1.1.1.0,
      d.1.1.1.1.1.1.1.1.0,
      d.1.1.1.1.1.1.1.1.1.0,
      d.1.1.1.1.1.1.1.1.1.1.0,
      d.1.1.1.1.1.1.1.1.1.1.1.0,
      d.1.1.1.1.1.1.1.1.1.1.1.1.0,
      d.1.1.1.1.1.1.1.1.1.1.1.1.1,
    ) (five (λ t. eqb (calling x t) 0) (λ t. eqb (waiting x t) 0) (λ t. eqb (route_flag x t) 0) (λ t. eqb (occupied_flag x t) 0) (λ t. eqb (unsure_flag x t) 0) _ ∙ simp and_left)
