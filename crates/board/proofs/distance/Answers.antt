use mathlib.Core.Path.{◌≡◌, sym, ap, ◌∙◌}
use Prim.Native.Nat.{ℕ}
use mir.Syntax.{w16}
use mir.ValLaws.{to_z-of_z}
use Rattle.std.specs.Prelude.{Result, Ok, Err, IsErrAnd}
use Rattle.refusal.specs.declared.Refusal.{Refusal}
use Rattle.refusal.specs.Numbers.{hut_number}
use Rattle.refusal.proofs.Numbers.{never_0}
use Rattle.setting_out.specs.SettingOut.{taken, refused}
use Rattle.setting_out.proofs.Cleared.{slowing_bounds}
use Rattle.setting_out.proofs.Ranges.{in_range, answer_refused, answer_taken}
use Rattle.setting_out.proofs.SettingOut.{distance_is}
use Rattle.board.specs.Distances.{distance_of}
use Rattle.board.proofs.distance.Goals as goal

-- a refusal that is passed on
passed_on : (result : Result ℕ Refusal) (refusal : Refusal) → IsErrAnd result (λ r. r ≡ refusal) → distance_of result ≡ refused (hut_number refusal)
passed_on (Ok x) refusal p = absurd p
passed_on (Err r) refusal p = rw p

pub returns-in_err-checked : goal.returns-in_err-checked
returns-in_err-checked c =
    let r = c.in_err-checked.field-0.0 in
    let e = rw (to_z-of_z w16 c.args.gradient c.ranges.gradient) at c.in_err-checked.ensures in
    passed_on c.from_residual.result r c.from_residual.ensures.1
    ∙ sym (answer_refused c.args.speed c.args.retardation c.args.gradient (hut_number r) (never_0 r) (sym e))

pub slowing-requires : goal.slowing-requires
slowing-requires c =
    let e = rw (to_z-of_z w16 c.args.gradient c.ranges.gradient) at c.in_ok-checked.ensures in
    let i = in_range c.args.speed c.args.retardation c.args.gradient (sym e) in
    rw (to_z-of_z w16 c.args.gradient c.ranges.gradient) (i.1, i.2)

pub metres-requires : goal.metres-requires
metres-requires c =
    let e = rw (to_z-of_z w16 c.args.gradient c.ranges.gradient) at c.in_ok-checked.ensures in
    let q = rw (to_z-of_z w16 c.args.gradient c.ranges.gradient) at c.slowing.ensures in
    let i = in_range c.args.speed c.args.retardation c.args.gradient (sym e) in
    let b = slowing_bounds c.args.retardation c.args.gradient i.1 i.2 in
    (i.0.1, rw q b.0, rw q b.1)

pub returns : goal.returns
returns c =
    let e = rw (to_z-of_z w16 c.args.gradient c.ranges.gradient) at c.in_ok-checked.ensures in
    let q = rw (to_z-of_z w16 c.args.gradient c.ranges.gradient) at c.slowing.ensures in
    let i = in_range c.args.speed c.args.retardation c.args.gradient (sym e) in
    ap taken ((rw q at c.metres.ensures) ∙ sym (distance_is c.args.speed c.args.retardation c.args.gradient i.1 i.2))
    ∙ sym (answer_taken c.args.speed c.args.retardation c.args.gradient (sym e))
