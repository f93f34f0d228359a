use mathlib.Core.Path.{sym, ◌∙◌}
use lib.Seq.{set-get_or}
use native.Mathlib.Nat.{sub-zero}
use native.Mathlib.Numerals.{sub-one}
use borrow.Author.Tests.{ne_eqb}
use Rattle.machine.specs.Plant.{calling}
use Rattle.machine.specs.Effects.{cancels}
use Rattle.train.proofs.Stores.{act_sized, passage_sized}
use Rattle.train.proofs.passage.Goals as goal

pub returns-then-calling-eq0 : goal.returns-then-calling-eq0
returns-then-calling-eq0 g c =
    let x = g.F.Form.crossing c.args.f in
    let h = c.requires in
    let z = g.met.F.Form.sized c.args.f _ c.well_formed.1.0 in
    simp (c.set.ensures, c.get.ensures.value, passage_sized c.args.s x c.args.e z h.0 (sym c.get-calling.ensures.value ∙ c.if-calling-eq0.true))

pub returns : goal.returns
unfolding cancels
returns g c =
    let x = g.F.Form.crossing c.args.f in
    let h = c.requires in
    let z = g.met.F.Form.sized c.args.f _ c.well_formed.1.0 in
    let k = c.get-calling.ensures.value in
    simp (c.set-2.ensures, act_sized c.args.s x c.args.e z, h.0, k, ne_eqb (calling x c.args.e.place) 0 (λ z. c.if-calling-eq0.false (k ∙ z)), sub-one, sub-zero, set-get_or)
