use borrow.Author.Tests.{eq-eqb, ne_eqb}
use Rattle.machine.specs.Effects.{cancels}
use Rattle.train.proofs.Stores.{act_sized, route_sized}
use Rattle.train.proofs.route.Goals as goal

pub returns-then-e-eq1 : goal.returns-then-e-eq1
returns-then-e-eq1 g c =
    let x = g.F.Form.crossing c.args.f in
    let h = c.requires in
    let z = g.met.F.Form.sized c.args.f _ c.well_formed.1.0 in
    simp (c.set_number.ensures, c.set-then-e-eq1.ensures, c.set.ensures, c.set-d.ensures, c.from.ensures, c.get.ensures.value, c.get-then-e-eq1.ensures.value, route_sized c.args.s x c.args.e z h.0 (eq-eqb _ _ c.if-e-eq1.true))

pub returns : goal.returns
unfolding cancels
returns g c =
    let x = g.F.Form.crossing c.args.f in
    let h = c.requires in
    let z = g.met.F.Form.sized c.args.f _ c.well_formed.1.0 in
    simp (c.set-d.ensures, c.from.ensures, act_sized c.args.s x c.args.e z, h.0, ne_eqb _ _ c.if-e-eq1.false)
