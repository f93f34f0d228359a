use Rattle.std.proofs.Common.{sym, arith}
use Rattle.effect.proofs.Parts.{none_moved}
use Rattle.effect.proofs.act.Goals as goal

pub returns-in-Ok-Tick : goal.returns-in-Ok-Tick
returns-in-Ok-Tick g c = let h = rw c.in-Ok-Tick.field-0-is at c.in-Ok-Tick.ensures in sym (none_moved c.args.s (g.F.Form.crossing c.args.f) c.args.e (g.met.F.Form.sized c.args.f _ c.well_formed.1.0) (λ k a b q. omega (arith, h)))

pub returns-in-Err : goal.returns-in-Err
returns-in-Err g c = let h = c.in-Err.ensures in sym (none_moved c.args.s (g.F.Form.crossing c.args.f) c.args.e (g.met.F.Form.sized c.args.f _ c.well_formed.1.0) (λ k a b q. omega (arith, h.1)))
