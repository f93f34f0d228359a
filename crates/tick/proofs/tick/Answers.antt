use Rattle.std.proofs.Common.{◌∙◌, not, ◌&&◌}
use Rattle.std.proofs.Common.{rules}
use lib.Dec.{eqb}
use borrow.Author.Tests.{eqb-true, not-true}
use Rattle.machine.proofs.Tools.{and_both}
use Rattle.machine.specs.Effects.{releases}
use Rattle.form.specs.Forms.{Sized}
use Rattle.settle.proofs.Parts.{phase_stays, none_stays}
use Rattle.tick.proofs.Still.{Tracks, still_ticks}
use Rattle.tick.proofs.tick.Goals as goal

pub returns-then-still-is_none-clause-value : goal.returns-then-still-is_none-clause-value
returns-then-still-is_none-clause-value g c =
    let x = g.F.Form.crossing c.args.f in
    let v = c.args.s in
    let z : Sized x = search (g.met.F.Form.sized, c.well_formed, rules) in
    let e = and_both (eqb x.countdown 0 && eqb x.timer 0 && eqb x.left 0 && not (releases v x)) _ (rw (c.completes.ensures, c.number.ensures, c.number-2.ensures, c.number-3.ensures) at c.if-still-is_none.true) in
    let o = and_both (eqb x.countdown 0 && eqb x.timer 0 && eqb x.left 0) (not (releases v x)) e.0 in
    let y = and_both (eqb x.countdown 0 && eqb x.timer 0) (eqb x.left 0) o.0 in
    let t = and_both (eqb x.countdown 0) (eqb x.timer 0) y.0 in
    let r = not-true (releases v x) o.1 in
    let l : Tracks x = record { calling = z.calling; waiting = z.waiting; unsure = z.unsure } in
    let q = none_stays v x _ c.next_phase.ensures (c.is_none.ensures ∙ rw e.1) in
    rw r (simp (c.count_out-crossing.ensures, still_ticks v x (eqb-true _ _ t.0) (eqb-true _ _ t.1) (eqb-true _ _ y.1) r l, ← phase_stays v 1 x q))
