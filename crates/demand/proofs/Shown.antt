-- What the panel shows of a crossing: a signal that lets a train pass, an order to the booms, and normal position after a tick.
use mathlib.Core.Path.{◌≡◌, refl, subst}
use mathlib.Core.Logic.{◌⊎◌, ⊎_elim}
use mathlib.Core.Bool.{Bool, true, false, cond, not, ◌&&◌, ◌||◌, and-false}
use Prim.Native.Nat.{ℕ, ◌+◌, ◌%◌, ◌<◌}
use native.Mathlib.Omega.{arith}
use lib.Dec.{eqb, ltb}
use borrow.Author.Tests.{eqb-true, ne_eqb}
use Rattle.machine.specs.Common.{bit}
use Rattle.machine.specs.declared.Entry.{Entry}
use Rattle.machine.specs.declared.Crossing.{Crossing}
use Rattle.machine.specs.Plant.{is_on, overdue_ticks, lights_only, old_sheet, calling, unsure_flag, boom, lamp, kiosk, operator, reason_of, reason, booms_up, normal, secured}
use Rattle.machine.specs.Effects.{releases, phase_ticked, tick}
use Rattle.machine.specs.Settling.{phase_settled, settle}
use Rattle.machine.specs.Panel.{has_booms, amber, road, shows_white, signal, right_down, left_down, released, releases_shown, status}
use Rattle.machine.proofs.Tools.{by_test, and_both, neither}

-- 2 is shown where the white is, and in no other way
only_2 : (old white secured amber_lit lamp_3 lamp_2 : Bool) → cond old (cond white 2 (bit amber_lit amber)) (cond secured (bit lamp_3 2) (bit lamp_2 1)) ≡ 2 → cond old white secured ≡ true
only_2 true true v a w r q = refl
only_2 true false v true w r q = absurd (omega arith)
only_2 true false v false w r q = absurd (omega arith)
only_2 false b true a w r q = refl
only_2 false b false a w true q = absurd (omega arith)
only_2 false b false a w false q = absurd (omega arith)

red_only : (still white red : Bool) → cond still (bit white 1) (bit red 2) ≡ 2 → red ≡ true
red_only true true red q = absurd (omega arith)
red_only true false red q = absurd (omega arith)
red_only false white true q = refl
red_only false white false q = absurd (omega arith)

module _ (s : Entry) (c : Crossing) where
  -- passable: secured, under the 1959 sheet as it shows white
  passable_by : signal s c ≡ 2 → cond (old_sheet s.kind) (shows_white s c) (secured s c) ≡ true
  unfolding signal
  passable_by = only_2 (old_sheet s.kind) (shows_white s c) (secured s c) (lamp c 2 && has_booms s) (lamp c 3) (lamp c 2)

  -- why it shows white: secured, with lights only phase 1 or 3 and the road red
  white_by : shows_white s c ≡ true → cond (lights_only s.kind) ((eqb c.phase 1 || eqb c.phase 3) && eqb (road s c) 2) (secured s c) ≡ true
  unfolding shows_white
  white_by q = (and_both (lamp c 3) _ q).1

  -- the same of a known kind
  passable_at : (kind : ℕ) → s.kind ≡ kind → signal s c ≡ 2 → cond (old_sheet kind) (shows_white s c) (secured s c) ≡ true
  passable_at kind k q = subst (λ x. cond (old_sheet x) (shows_white s c) (secured s c) ≡ true) k (passable_by q)

  white_at : (kind : ℕ) → s.kind ≡ kind → shows_white s c ≡ true → cond (lights_only kind) ((eqb c.phase 1 || eqb c.phase 3) && eqb (road s c) 2) (secured s c) ≡ true
  white_at kind k q = subst (λ x. cond (lights_only x) ((eqb c.phase 1 || eqb c.phase 3) && eqb (road s c) 2) (secured s c) ≡ true) k (white_by q)

  pub passable_secured : (s.kind ≡ 5 → ⊥) → signal s c ≡ 2 → secured s c ≡ true
  passable_secured n q = by_test (eqb s.kind 6)
      (λ six. let k = eqb-true s.kind 6 six in white_at 6 k (passable_at 6 k q))
      (λ other. rw (ne_eqb s.kind 5 n, other) at (passable_by q))

  -- a red road has its lamp whole
  red_whole : road s c ≡ 2 → lamp c 1 ≡ true
  unfolding road
  red_whole = red_only (normal s c) (lamp c 0 && not (old_sheet s.kind)) (lamp c 1)

  -- kind 5: phase 1 or 3, and the road's red whole
  pub passable_white : s.kind ≡ 5 → signal s c ≡ 2 → ((eqb c.phase 1 || eqb c.phase 3) ≡ true) × (lamp c 1 ≡ true)
  passable_white k q =
      let w = and_both (eqb c.phase 1 || eqb c.phase 3) (eqb (road s c) 2) (white_at 5 k (passable_at 5 k q)) in
      (w.0, red_whole (eqb-true _ _ w.1))

  pub released_secured : 0 < releases_shown s c → secured s c ≡ true
  unfolding releases_shown released
  released_secured q = by_test (secured s c) (λ t. t) (λ f. absurd (let r = simp (f, and-false) at q in omega arith))

  pub none_released : (secured s c ≡ true → ⊥) → releases_shown s c ≡ 0
  unfolding releases_shown released
  none_released q = by_test (secured s c) (λ t. absurd (q t)) (λ f. simp (f, and-false))

  -- a tick makes no reason
  tick_reason : reason c ≡ false → reason (tick s c) ≡ false
  unfolding reason tick
  tick_reason q = go (releases s c)
    where
      go : (r : Bool) → reason_of (kiosk c) (operator c) (λ t. cond r 0 (calling c t)) (λ t. is_on (cond r 0 (unsure_flag c t))) ≡ false
      go true = rw (neither (kiosk c || operator c) _ (neither (kiosk c || operator c || _) _ q).0).0
      go false = q

  -- open or raising
  module _ (phases : (c.phase ≡ 0) ⊎ (c.phase ≡ 4)) where
    pub right_up : right_down s c ≡ 0
    unfolding right_down
    right_up = ⊎_elim (λ z. rw z (rw and-false)) (λ z. rw z (rw and-false)) phases

    pub left_up : left_down s c ≡ 0
    unfolding left_down
    left_up = ⊎_elim (λ z. rw z (rw and-false)) (λ z. rw z (rw and-false)) phases

    -- a tick opens a crossing with no reason and every boom up
    pub opened : c.timer ≡ 0 → reason c ≡ false → booms_up s.kind (boom c) ≡ true → normal s (settle s 1 (tick s c)) ≡ true
    unfolding normal settle tick phase_ticked phase_settled
    opened z n up = rw (tick_reason n, z, up) (⊎_elim (λ z. rw z) (λ z. rw z) phases)

  pub normal_bit : normal s c ≡ true → status s c % 2 ≡ 1
  unfolding status
  normal_bit q = rw q (odd (secured s c) (ltb overdue_ticks c.out))
    where
      odd : (a b : Bool) → (1 + bit a 2 + bit b 4) % 2 ≡ 1
      odd true true = refl
      odd true false = refl
      odd false true = refl
      odd false false = refl

  pub bit_normal : status s c % 2 ≡ 1 → normal s c ≡ true
  unfolding status
  bit_normal q = by_test (normal s c) (λ t. t) (λ f. absurd (even (secured s c) (ltb overdue_ticks c.out) (rw f at q)))
    where
      even : (a b : Bool) → (0 + bit a 2 + bit b 4) % 2 ≡ 1 → ⊥
      even true true q = omega arith
      even true false q = omega arith
      even false true q = omega arith
      even false false q = omega arith

  -- with all ordered down, each order that the kind has
  pub all_ordered : c.phase ≡ 3 → (lights_only s.kind ≡ false → right_down s c ≡ 1) × (eqb s.kind 4 ≡ true → left_down s c ≡ 1)
  unfolding right_down left_down
  all_ordered z = ((λ q. rw (z, q)), (λ q. rw (z, q)))
