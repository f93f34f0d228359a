-- The trains of one track over an event: one more by a strike-in that finds room, one less by a passage, otherwise as many.
use mathlib.Core.Path.{◌≡◌, refl, subst}
use mathlib.Core.Bool.{Bool, true, false, cond, not, ◌&&◌, true≢false}
use Prim.Native.Nat.{ℕ, ◌+◌, ◌-◌, pred, ◌<◌}
use native.Mathlib.Omega.{arith}
use lib.Dec.{eqb}
use borrow.Author.Tests.{eqb-true, eqb-false}
use Rattle.machine.specs.Common.{bit}
use Rattle.machine.specs.Plant.{Entry, Crossing, calling, waiting, trains, is_full}
use Rattle.machine.specs.Events.{Event, is, is_at}
use Rattle.machine.specs.Effects.{calls, sweeps, calling_after, waiting_after}
use Rattle.machine.proofs.Tools.{by_test, by_cond, and_both}

-- the tests in the order of the definitions: strike-in, passage, route set
queue_law : (b1 b2 b5 r : Bool) (c w : ℕ) → (b1 ≡ true → b2 ≡ false) → (b2 ≡ true → 0 < c + w) →
    cond b1 (c + bit r 1) (cond b2 (pred c) (cond b5 (c + w) c)) + cond b1 (w + bit (not r) 1) (cond b2 (w - bit (eqb c 0) 1) (cond b5 0 w)) + bit b2 1
    ≡ c + w + bit b1 1
queue_law true true b5 r c w x g = absurd (true≢false (x refl))
queue_law true false b5 true c w x g = omega arith
queue_law true false b5 false c w x g = omega arith
queue_law false true b5 r c w x g = by_cond (λ y. pred c + (w - y) + 1 ≡ c + w + 0) (eqb c 0)
    (λ q. let z : c ≡ 0 = eqb-true _ _ q in let p : 0 < c + w = g refl in omega arith)
    (λ q. let z : c ≡ 0 → ⊥ = eqb-false _ _ q in omega arith)
queue_law false false true r c w x g = omega arith
queue_law false false false r c w x g = omega arith

-- an event has one code
pub apart : (j k t : ℕ) (e : Event) → eqb j k ≡ false → is_at j t e ≡ true → is_at k t e ≡ false
apart j k t e d q = rw (eqb-true e.code j (and_both (is j e) (eqb e.place t) q).0) (rw d)

-- what holds at the place of an event of code k holds at t where the event is at t
pub at_place : (P : ℕ → Type 0) (k t : ℕ) (e : Event) → (is k e ≡ true → P e.place) → is_at k t e ≡ true → P t
at_place P k t e f q = let b = and_both (is k e) (eqb e.place t) q in subst P (eqb-true _ _ b.1) (f b.0)

-- a strike-in that finds a full track is a train come and written off at once (T-01)
pub trains_after : (s : Entry) (c : Crossing) (e : Event) (t : ℕ) → (is 2 e ≡ true → 0 < trains c e.place) →
    calling_after s c e t + waiting_after s c e t + bit (is_at 2 t e) 1 + bit (sweeps c e && eqb e.place t) 1 ≡ trains c t + bit (is_at 1 t e) 1
unfolding calling_after waiting_after
trains_after s c e t g = by_test (sweeps c e)
    (λ q. let one : e.code ≡ 1 = eqb-true _ _ (and_both (is 1 e) (is_full c e.place) q).0 in rw q (rw one (omega arith)))
    (λ q.
    let law = queue_law (is_at 1 t e) (is_at 2 t e) (is_at 5 t e && eqb e.value 1) (calls s c t) (calling c t) (waiting c t) (apart 1 2 t e refl) (at_place (λ u. 0 < trains c u) 2 t e g) in
    rw q (omega arith))
