-- A lane takes an event that is ready.
use mathlib.Core.Path.{◌≡◌}
use Prim.Native.Nat.{ℕ, ◌<◌, ◌≤◌}
use native.Mathlib.Omega.{arith}
use lib.Dec.{eqb}
use borrow.Author.Tests.{eqb-true}
use Rattle.machine.specs.declared.Crossing.{Crossing}
use Rattle.machine.specs.declared.Event.{Event}
use Rattle.machine.specs.Events.{on_off, value_limit}
use Rattle.machine.proofs.Tools.{by_test, by_cond}
use Rattle.form.specs.Forms.{least_limit}
use Rattle.train.specs.Room.{room_for, Takes}
use Rattle.slot.specs.Ready.{Ready}

at_most_four : (code : ℕ) → value_limit code ≤ 4
unfolding value_limit
at_most_four code = by_cond (λ x. x ≤ 4) (eqb code 8) (λ _. omega arith) (λ _. by_cond (λ x. x ≤ 4) (on_off code) (λ _. omega arith) (λ _. omega arith))

limits : (code : ℕ) → value_limit code ≤ room_for least_limit code
unfolding value_limit
limits code = by_test (eqb code 5) (λ q. rw (eqb-true code 5 q) (omega arith)) (λ a.
    by_test (eqb code 6) (λ q. rw (eqb-true code 6 q) (omega arith)) (λ b.
    by_test (eqb code 8) (λ q. rw (eqb-true code 8 q) (omega arith)) (λ d.
    by_test (eqb code 9) (λ q. rw (eqb-true code 9 q) (omega arith)) (λ n.
    let m = at_most_four code in let e : room_for least_limit code ≡ 256 = rw (a, b, d, n) in rw e (omega arith)))))

pub ready_takes : {c : Crossing} {e : Event} → Ready c e → Takes least_limit c e
ready_takes {c} {e} r = let m = limits e.code in let v = r.value in record { room = r.room; value = omega arith }
