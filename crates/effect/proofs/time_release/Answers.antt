use Rattle.machine.specs.Effects.{cancels}
use Rattle.train.proofs.Stores.{act_sized}
use Rattle.effect.proofs.time_release.Goals as goal

pub returns : goal.returns
unfolding cancels
returns g c =
    let x = g.F.Form.crossing c.args.f in
    simp (c.set_number.ensures, c.from.ensures, act_sized c.args.s x c.args.e (g.met.F.Form.sized c.args.f _ c.well_formed.1.0), c.requires)
