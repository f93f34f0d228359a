use Rattle.effect.proofs.Parts.{report_fits, reported}
use Rattle.effect.proofs.report.Goals as goal

pub set-requires : goal.set-requires
set-requires g c =
    let x = g.F.Form.crossing c.args.f in
    rw c.from.ensures (report_fits c.args.s x c.args.e c.args.field c.requires.0 c.requires.1)

pub returns : goal.returns
returns g c =
    let x = g.F.Form.crossing c.args.f in
    simp (c.set.ensures, c.from.ensures, reported c.args.s x c.args.e c.args.field c.requires.0 (g.met.F.Form.sized c.args.f _ c.well_formed.1.0))
