-- The stage of a crossing against the ticks for which a reason has stood unbroken.
use mathlib.Core.Path.{◌≡◌, refl}
use mathlib.Core.Bool.{Bool, true, false, cond, ◌&&◌, true≢false}
use Prim.Native.Nat.{ℕ, suc, ◌+◌, pred, ◌≤◌}
use native.Mathlib.Omega.{arith}
use lib.Dec.{eqb}
use borrow.Author.Tests.{eqb-true}
use Rattle.machine.specs.declared.Entry.{Entry}
use Rattle.machine.proofs.Tools.{by_test, by_cond}
use Rattle.demand.specs.Words.{bit, no_booms}
use Rattle.demand.specs.Ledger.{Stage, free, warns, lowers, shut, rises, ticked, lifted, settled}
use Rattle.demand.specs.Demand.{needed}
use Rattle.demand.proofs.Stages.{rests}

-- the ticks still to come before all is ordered down: after a warning of four booms the gap follows
abbrev pub to_come : Entry → Stage → ℕ
to_come s (free n) = 0
to_come s (warns n) = n + bit (eqb s.kind 4) s.gap
to_come s (lowers n) = n
to_come s shut = 0
to_come s rises = 0

-- S n: a reason has stood unbroken for n ticks. Where a crossing does not rest, that is all that is needed but the ticks to come
abbrev pub Timed : (ℕ → Type 0) → Entry → Stage → Type 0
Timed S s x = rests x ≡ false → (n : ℕ) × S n × (needed s ≤ n + to_come s x)

-- a crossing at rest owes nothing
at_rest : {A : Type 0} → true ≡ false → A
at_rest q = absurd (true≢false q)

-- a tick takes at most one from the ticks to come
fewer : (m n k : ℕ) → k ≤ m + n → k ≤ suc m + pred n
fewer m n k l = omega arith

fewer_still : (m n g k : ℕ) → k ≤ m + (n + g) → k ≤ suc m + (pred n + g)
fewer_still m n g k l = omega arith

module _ (s : Entry) where
  pub timed_tick : {S S' : ℕ → Type 0} → ((n : ℕ) → S n → S' (suc n)) → (x : Stage) → Timed S s x → Timed S' s (ticked s x)
  unfolding ticked
  timed_tick f (free n) k = at_rest
  timed_tick f (warns n) k = let u = k refl in by_test (eqb n 1)
      (λ q. let one : n ≡ 1 = eqb-true _ _ q in by_test (eqb s.kind 4)
      (λ four. let b = rw four at u.2 in rw (q, four) (λ _. (suc u.0, f u.0 u.1, omega arith)))
      (λ four. let b = rw four at u.2 in rw (q, four) (λ _. (suc u.0, f u.0 u.1, omega arith))))
      (λ q. rw q (λ _. (suc u.0, f u.0 u.1, fewer_still u.0 n _ _ u.2)))
  timed_tick f (lowers n) k = let u = k refl in by_test (eqb n 1)
      (λ q. let one : n ≡ 1 = eqb-true _ _ q in rw q (λ _. (suc u.0, f u.0 u.1, let b = u.2 in omega arith)))
      (λ q. rw q (λ _. (suc u.0, f u.0 u.1, fewer u.0 n _ u.2)))
  timed_tick f shut k = λ _. let u = k refl in (suc u.0, f u.0 u.1, let b = u.2 in omega arith)
  timed_tick f rises k = at_rest

  module _ (S : ℕ → Type 0) where
    -- a warning begins with all that is needed to come, where a reason stands
    begins : (stands b : Bool) (n : ℕ) → (stands ≡ true → S 0) → Timed S s (cond (stands && b) (warns s.pre) (free n))
    begins true true n z = λ _. (0, z refl, omega arith)
    begins true false n z = at_rest
    begins false b n z = at_rest

    -- no reason: at rest
    lifts : Timed S s (lifted s)
    lifts = by_cond (Timed S s) (no_booms s.kind) (λ _. at_rest) (λ _. at_rest)

    pub timed_settled : (stands up : Bool) (x : Stage) → (stands ≡ true → S 0 × Timed S s x) → Timed S s (settled s stands up x)
    unfolding settled
    timed_settled stands up (free n) f = begins stands (eqb n 0) n (λ q. (f q).0)
    timed_settled true up (warns n) f = (f refl).1
    timed_settled false up (warns n) f = at_rest
    timed_settled true up (lowers n) f = (f refl).1
    timed_settled false up (lowers n) f = lifts
    timed_settled true up shut f = (f refl).1
    timed_settled false up shut f = lifts
    timed_settled stands true rises f = begins stands (eqb s.pause 0) s.pause (λ q. (f q).0)
    timed_settled stands false rises f = at_rest
