-- Quiet ticks: what a tick makes of a crossing at which it only counts.
use mathlib.Core.Path.{◌≡◌, refl, sym, ◌∙◌}
use mathlib.Core.Bool.{Bool, true, false, ◌&&◌, true≢false}
use Prim.Native.Nat.{ℕ, zero, suc, pred, min, ◌+◌, ◌-◌, ◌≤◌, ◌<◌}
use native.Mathlib.Omega.{arith}
use lib.Dec.{eqb, ltb, leb}
use lib.ListN.{length}
use borrow.Author.Tests.{eqb-true, eqb-false, eq-eqb, ne_eqb, lt-leb, ltb-true, ltb-false, lt-ltb, le-ltb}
use Rattle.machine.specs.declared.Entry.{Entry}
use Rattle.machine.specs.declared.Crossing.{Crossing}
use Rattle.machine.specs.Plant.{overlong_ticks, most_ticks, lights_only, old_sheet, boom, reason, booms_up, normal}
use Rattle.machine.specs.Effects.{tick, overlong, releases, phase_ticked, timer_ticked}
use Rattle.machine.specs.Settling.{phase_settled, timer_settled, left_settled, out_settled, settle}
use Rattle.machine.proofs.Tools.{by_test, by_cond, tab_getD}
use Rattle.quiet.specs.Passing.{out_after, passed, ticks_left, sheet_left, opens, span}

-- Counts ---------------------------------------------------------------------------------------------------------------------------
-- a count that does not end within n ticks
abbrev pub Lasts : ℕ → ℕ → Type 0
Lasts n count = (k : ℕ) → k < n → count - k ≡ 1 → ⊥

-- its arrays by track have four places
pub record Tracks (c : Crossing) : Type 0 where
  pub calling : length c.calling ≡ 4
  pub waiting : length c.waiting ≡ 4
  pub unsure : length c.unsure ≡ 4

-- what a settled crossing has: it would settle as it is, but for phase 4 with every boom up
pub record Calm (s : Entry) (c : Crossing) : Type 0 where
  pub steady : opens s c ≡ false → phase_settled s (reason c) (booms_up s.kind (boom c)) c.left c.phase ≡ c.phase
  pub rest : normal s c ≡ true → c.out ≡ 0
  pub top : c.out ≤ most_ticks

lower : (n k : ℕ) → pred (n - k) ≡ n - suc k
lower n k = omega arith

-- One quiet tick of the ticks out of normal
out_next : (b : Bool) (k out : ℕ) → (b ≡ true → out ≡ 0) → out_settled b 1 (out_after b k out) ≡ out_after b (suc k) out
unfolding out_settled out_after
out_next true k out z = sym (z refl)
out_next false k out z = by_test (ltb (out + k) most_ticks)
    (λ q. let l : out + k < 1080 = ltb-true _ _ q in by_test (ltb (out + suc k) most_ticks)
    (λ r. simp (q, r) (omega arith))
    (λ r. let m : 1080 ≤ out + suc k = ltb-false _ _ r in simp (q, r) (omega arith)))
    (λ q. let l : 1080 ≤ out + k = ltb-false _ _ q in let m : ltb (out + suc k) most_ticks ≡ false = le-ltb (out + suc k) 1080 (omega arith) in simp (q, m))

-- the phase asks of the ticks left only whether there are any
phase_left : (s : Entry) (r up : Bool) (x y phase : ℕ) → eqb x 0 ≡ eqb y 0 → phase_settled s r up x phase ≡ phase_settled s r up y phase
unfolding phase_settled
phase_left s r up x y phase q = rw q

-- One quiet tick -------------------------------------------------------------------------------------------------------------------
module _ (s : Entry) (c : Crossing) (l : Tracks c) (h : Calm s c) (o : opens s c ≡ false) (k : ℕ)
    (d : c.countdown - k ≡ 1 → ⊥) (t : c.timer - k ≡ 1 → ⊥) (e : eqb (c.left - suc k) 0 ≡ eqb c.left 0) (g : overlong s (passed s k c) ≡ false) where
  pub quiet_none : releases s (passed s k c) ≡ false
  unfolding passed
  quiet_none = rw g (ne_eqb _ _ d)

  quiet_tick : tick s (passed s k c) ≡ record {
    calling = c.calling;
    waiting = c.waiting;
    route = c.route;
    occupied = c.occupied;
    unsure = c.unsure;
    booms = c.booms;
    lamps = c.lamps;
    kiosk = c.kiosk;
    operator = c.operator;
    countdown = c.countdown - suc k;
    phase = c.phase;
    timer = c.timer - suc k;
    left = c.left - suc k;
    out = out_after (normal s c) k c.out;
  }
  unfolding passed tick phase_ticked timer_ticked
  quiet_tick =
      simp (quiet_none, ne_eqb _ _ t, lower c.countdown k, lower c.timer k, lower c.left k, tab_getD 4 c.calling 0 l.calling, tab_getD 4 c.waiting 0 l.waiting, tab_getD 4 c.unsure 0 l.unsure)

  steady_next : phase_settled s (reason c) (booms_up s.kind (boom c)) (c.left - suc k) c.phase ≡ c.phase
  steady_next = phase_left s (reason c) (booms_up s.kind (boom c)) (c.left - suc k) c.left c.phase e ∙ h.steady o

  pub quiet_next : settle s 1 (tick s (passed s k c)) ≡ passed s (suc k) c
  unfolding settle passed timer_settled left_settled reason normal
  quiet_next = rw quiet_tick (simp (steady_next, eq-eqb c.phase c.phase refl, out_next (normal s c) k c.out h.rest))

-- A span ---------------------------------------------------------------------------------------------------------------------------
-- n ticks from c on are quiet: each makes of the closed form the next one, and writes nothing off
pub record Quiet (s : Entry) (c : Crossing) (n : ℕ) : Type 0 where
  pub next : (k : ℕ) → k < n → settle s 1 (tick s (passed s k c)) ≡ passed s (suc k) c
  pub none : (k : ℕ) → k < n → releases s (passed s k c) ≡ false
  pub top : c.out ≤ most_ticks

left_lasts : (count n : ℕ) → n ≤ ticks_left count → Lasts n count
unfolding ticks_left
left_lasts count n l k b e = by_test (eqb count 0)
    (λ q. let z : count ≡ 0 = eqb-true _ _ q in omega arith)
    (λ q. let z : count ≡ 0 → ⊥ = eqb-false _ _ q in let m : n ≤ count - 1 = rw q at l in omega arith)

-- a count that runs goes on, one that does not does not begin
left_runs : (count n : ℕ) → n ≤ ticks_left count → (k : ℕ) → k < n → eqb (count - suc k) 0 ≡ eqb count 0
unfolding ticks_left
left_runs count n l k b = by_test (eqb count 0)
    (λ q. let z : count ≡ 0 = eqb-true _ _ q in rw q (eq-eqb (count - suc k) 0 (omega arith)))
    (λ q. let z : count ≡ 0 → ⊥ = eqb-false _ _ q in let m : n ≤ count - 1 = rw q at l in rw q (ne_eqb (count - suc k) 0 (λ y. omega arith)))

-- the 1959 sheet does not release within that many ticks
not_overlong : (s : Entry) (c : Crossing) → Calm s c → (k : ℕ) → k < sheet_left s c → overlong s (passed s k c) ≡ false
unfolding overlong passed out_after sheet_left
not_overlong s c h k b = by_test (old_sheet s.kind)
    (λ o. by_test (normal s c)
    (λ n. let z = h.rest n in rw (o, n, z))
    (λ n. let m : k < 1079 - c.out = rw (o, n) at b in
    let f : ltb (c.out + k) most_ticks ≡ true = lt-ltb (c.out + k) 1080 (omega arith) in
    let g : leb overlong_ticks (c.out + k) ≡ false = lt-leb 1079 (c.out + k) (omega arith) in
    rw (o, n, f, g)))
    (λ o. rw o)

-- a settled crossing is quiet for its span
pub quiet_span : (s : Entry) (c : Crossing) → Tracks c → Calm s c → Quiet s c (span s c)
unfolding span
quiet_span s c l h = by_test (opens s c)
    (λ q. rw q (record { next = λ k b. absurd (omega arith); none = λ k b. absurd (omega arith); top = h.top }))
    (λ q. let n = min (min (min (ticks_left c.countdown) (ticks_left c.timer)) (ticks_left c.left)) (sheet_left s c) in
    let d : Lasts n c.countdown = left_lasts c.countdown n (omega arith) in
    let t : Lasts n c.timer = left_lasts c.timer n (omega arith) in
    let e : (k : ℕ) → k < n → eqb (c.left - suc k) 0 ≡ eqb c.left 0 = left_runs c.left n (omega arith) in
    let g : (k : ℕ) → k < n → overlong s (passed s k c) ≡ false = (λ k m. not_overlong s c h k (omega arith)) in
    rw q (record { next = λ k m. quiet_next s c l h q k (d k m) (t k m) (e k m) (g k m); none = λ k m. quiet_none s c l h q k (d k m) (t k m) (e k m) (g k m); top = h.top }))

-- no tick at all
out_none : (b : Bool) (out : ℕ) → out ≤ most_ticks → out_after b 0 out ≡ out
unfolding out_after
out_none true out t = refl
out_none false out t = by_test (ltb (out + 0) most_ticks)
    (λ q. rw q (omega arith))
    (λ q. let m : 1080 ≤ out + 0 = ltb-false _ _ q in rw q (omega arith))

pub passed_none : (s : Entry) (c : Crossing) → c.out ≤ most_ticks → passed s 0 c ≡ c
unfolding passed
passed_none s c t =
    let d : c.countdown - 0 ≡ c.countdown = omega arith in
    let m : c.timer - 0 ≡ c.timer = omega arith in
    let e : c.left - 0 ≡ c.left = omega arith in
    rw (d, m, e, out_none (normal s c) c.out t)

-- the k-fold tick in closed form
abbrev pub ticked : Entry → ℕ → Crossing → Crossing
ticked s zero c = c
ticked s (suc k) c = settle s 1 (tick s (ticked s k c))

pub ticked_passed : (s : Entry) (c : Crossing) (n : ℕ) → Quiet s c n → (k : ℕ) → k ≤ n → ticked s k c ≡ passed s k c
ticked_passed s c n h zero l = sym (passed_none s c h.top)
ticked_passed s c n h (suc k) l = rw (ticked_passed s c n h k (omega arith)) (h.next k (omega arith))

-- A crossing that has settled is calm ----------------------------------------------------------------------------------------------
module _ (s : Entry) (left phase : ℕ) (r up : Bool) where
  abbrev once : ℕ
  once = phase_settled s r up left phase

  abbrev Twice : Type 0
  Twice = (eqb once 4 && up) ≡ false → phase_settled s r up (left_settled s.pause phase once left) once ≡ once

twice_opened : (s : Entry) (left : ℕ) (r up : Bool) → Twice s left 0 r up
unfolding phase_settled left_settled
twice_opened s left true up _ = by_test (eqb left 0) (λ q. rw q) (λ q. rw (q, q))
twice_opened s left false up _ = refl

twice_warning : (s : Entry) (left : ℕ) (r up : Bool) → Twice s left 1 r up
unfolding phase_settled left_settled
twice_warning s left true up _ = refl
twice_warning s left false up _ = refl

twice_raising : (s : Entry) (left : ℕ) (r up : Bool) → Twice s left 4 r up
unfolding phase_settled left_settled
twice_raising s left true true _ = by_test (eqb s.pause 0) (λ q. rw q) (λ q. rw (q, q))
twice_raising s left false true _ = refl
twice_raising s left r false _ = refl

twice_down : (s : Entry) (left phase : ℕ) (r up : Bool) → eqb phase 0 ≡ false → eqb phase 1 ≡ false → eqb phase 4 ≡ false → Twice s left phase r up
unfolding phase_settled left_settled
twice_down s left phase true up a b d = λ _. simp (a, b, d)
twice_down s left phase false true a b d = by_test (lights_only s.kind) (λ v o. rw (a, b, d, v)) (λ v o. absurd (true≢false (rw (a, b, d, v) at o)))
twice_down s left phase false false a b d = by_test (lights_only s.kind) (λ v o. rw (a, b, d, v)) (λ v o. rw (a, b, d, v))

twice : (s : Entry) (left phase : ℕ) (r up : Bool) → Twice s left phase r up
twice s left phase r up = by_test (eqb phase 0) (λ q. rw (eqb-true phase 0 q) (twice_opened s left r up)) (λ a.
    by_test (eqb phase 1) (λ q. rw (eqb-true phase 1 q) (twice_warning s left r up)) (λ b.
    by_test (eqb phase 4) (λ q. rw (eqb-true phase 4 q) (twice_raising s left r up)) (λ d.
    twice_down s left phase r up a b d)))

top_law : (b : Bool) (add out : ℕ) → add ≤ 1 → out_settled b add out ≤ most_ticks
unfolding out_settled
top_law b add out l = by_cond (λ x. x ≤ most_ticks) b (λ _. omega arith) (λ _. by_cond (λ x. x ≤ most_ticks) (ltb out most_ticks) (λ t. omega (arith, ltb-true)) (λ _. omega arith))

rest_law : (b : Bool) (add out : ℕ) → b ≡ true → out_settled b add out ≡ 0
unfolding out_settled
rest_law b add out q = rw q

pub settled_calm : (s : Entry) (add : ℕ) (c : Crossing) → add ≤ 1 → Calm s (settle s add c)
unfolding settle opens reason normal
settled_calm s add c l = record {
  steady = λ o. twice s c.left c.phase (reason c) (booms_up s.kind (boom c)) o;
  rest = λ q. rest_law _ add c.out q;
  top = top_law _ add c.out l;
}
