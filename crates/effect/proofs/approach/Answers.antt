use borrow.Author.Tests.{eq-eqb, ne_eqb}
use Rattle.machine.specs.Effects.{cancels}
use Rattle.train.proofs.Stores.{act_sized}
use Rattle.effect.proofs.approach.Goals as goal

pub returns-then-e-eq1 : goal.returns-then-e-eq1
unfolding cancels
returns-then-e-eq1 g c =
    let x = g.F.Form.crossing c.args.f in
    simp (c.set_number.ensures, c.set-d.ensures, c.from.ensures, act_sized c.args.s x c.args.e (g.met.F.Form.sized c.args.f _ c.well_formed.1.0), c.requires.0, eq-eqb _ _ c.if-e-eq1.true)

pub returns : goal.returns
unfolding cancels
returns g c =
    let x = g.F.Form.crossing c.args.f in
    simp (c.set-d.ensures, c.from.ensures, act_sized c.args.s x c.args.e (g.met.F.Form.sized c.args.f _ c.well_formed.1.0), c.requires.0, ne_eqb _ _ c.if-e-eq1.false)
