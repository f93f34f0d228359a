use borrow.Author.Rules.{rules}
use borrow.Author.Tests.{eq-eqb, ne_eqb}
use Rattle.effect.proofs.Parts.{hold_fits, held_on, held_off}
use Rattle.effect.proofs.hold.Goals as goal

pub set_number-d-requires : goal.set_number-d-requires
set_number-d-requires g c = rw c.from-value.ensures (hold_fits c.args.which c.args.e.code c.args.e.value c.requires (search rules))

pub returns-then-value-eq1 : goal.returns-then-value-eq1
returns-then-value-eq1 g c =
    let x = g.F.Form.crossing c.args.f in
    simp (c.set_number.ensures, c.set_number-d.ensures, c.from-value.ensures, held_on c.args.s x c.args.e c.args.which c.requires (g.met.F.Form.sized c.args.f _ c.well_formed.1.0) (eq-eqb _ _ (rw c.from-value.ensures at c.if-value-eq1.true)))

pub returns : goal.returns
returns g c =
    let x = g.F.Form.crossing c.args.f in
    simp (c.set_number-d.ensures, c.from-value.ensures, held_off c.args.s x c.args.e c.args.which c.requires (g.met.F.Form.sized c.args.f _ c.well_formed.1.0) (ne_eqb _ _ (rw c.from-value.ensures at c.if-value-eq1.false)))
