-- The test of two events (T-07): it passes for an event and itself alone.
use mathlib.Core.Path.{◌≡◌, refl, ap, ◌∙◌}
use mathlib.Core.Bool.{true}
use Prim.Native.Nat.{ℕ}
use borrow.Author.Tests.{eqb-true, eq-eqb}
use Rattle.machine.specs.Events.{Event}
use Rattle.machine.specs.Shift.{same_event}
use Rattle.machine.proofs.Tools.{and_both}

abbrev made : ℕ → ℕ → ℕ → ℕ → Event
made a b c d = record { code = a; crossing = b; place = c; value = d }

pub same_is : (x y : Event) → same_event x y ≡ true → x ≡ y
unfolding same_event
same_is x y s =
    let a = and_both _ _ s in
    let b = and_both _ _ a.1 in
    let c = and_both _ _ b.1 in
    ap (λ i. made i x.crossing x.place x.value) (eqb-true _ _ a.0)
    ∙ ap (λ i. made y.code i x.place x.value) (eqb-true _ _ b.0)
    ∙ ap (λ i. made y.code y.crossing i x.value) (eqb-true _ _ c.0)
    ∙ ap (λ i. made y.code y.crossing y.place i) (eqb-true _ _ c.1)

pub is_same : (x : Event) → same_event x x ≡ true
unfolding same_event
is_same x = rw (eq-eqb x.code x.code refl, eq-eqb x.crossing x.crossing refl, eq-eqb x.place x.place refl, eq-eqb x.value x.value refl) refl
