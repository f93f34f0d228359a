use mathlib.Core.Bool.{true, false}
use mathlib.Core.Path.{◌≡◌, sym, ◌∙◌}
use native.Mathlib.Nat.{add-zero}
use lib.Seq.{set-get_or}
use Rattle.machine.specs.Plant.{is_full}
use Rattle.machine.specs.Effects.{calls, cancels}
use Rattle.train.proofs.Stores.{act_sized}
use Rattle.train.proofs.strike_in.Goals as goal

pub returns-then-full : goal.returns-then-full
unfolding cancels
returns-then-full g c =
    let x = g.F.Form.crossing c.args.f in
    let h = c.requires in
    let z = g.met.F.Form.sized c.args.f _ c.well_formed.1.0 in
    let q : is_full x c.args.e.place ≡ true = sym (rw c.from.ensures at c.full.ensures) ∙ c.if-full.true in
    simp (c.set.ensures, c.set_number-d.ensures, act_sized c.args.s x c.args.e z, h.0, q)

pub returns-then-dependent-get : goal.returns-then-dependent-get
unfolding cancels
returns-then-dependent-get g c =
    let x = g.F.Form.crossing c.args.f in
    let h = c.requires in
    let z = g.met.F.Form.sized c.args.f _ c.well_formed.1.0 in
    let q : is_full x c.args.e.place ≡ false = sym (rw c.from.ensures at c.full.ensures) ∙ c.if-full.false in
    let r : calls c.args.s x c.args.e.place ≡ true = rw (c.dependent.ensures, c.from-2.ensures, c.get.ensures.value) at c.if-dependent-get.true in
    simp (c.set-then-dependent-get.ensures, c.set_number-d.ensures, c.get-then-dependent-get.ensures.value, act_sized c.args.s x c.args.e z, h.0, q, r, add-zero, set-get_or)

pub returns : goal.returns
unfolding cancels
returns g c =
    let x = g.F.Form.crossing c.args.f in
    let h = c.requires in
    let z = g.met.F.Form.sized c.args.f _ c.well_formed.1.0 in
    let q : is_full x c.args.e.place ≡ false = sym (rw c.from.ensures at c.full.ensures) ∙ c.if-full.false in
    let r : calls c.args.s x c.args.e.place ≡ false = rw (c.dependent.ensures, c.from-2.ensures, c.get.ensures.value) at c.if-dependent-get.false in
    simp (c.set-2.ensures, c.set_number-d.ensures, c.get-2.ensures.value, act_sized c.args.s x c.args.e z, h.0, q, r, add-zero, set-get_or)
