-- The record of a crossing agrees with the ledger, over a tick and over an event of its own.
use mathlib.Core.Path.{◌≡◌, refl, ◌∙◌, ap}
use mathlib.Core.Bool.{Bool, true, false, cond, not, ◌&&◌, ◌||◌}
use Prim.Native.Nat.{ℕ, zero, suc, ◌+◌, ◌-◌, pred, ◌<◌}
use native.Mathlib.Nat.{add-zero, sub-zero}
use native.Mathlib.Omega.{arith}
use lib.Dec.{eqb, ltb, leb, lit<, eqb-suc-zero}
use lib.ListN.{get_or}
use Rattle.machine.specs.Common.{bit, tab}
use Rattle.machine.specs.declared.Entry.{Entry}
use Rattle.machine.specs.declared.Crossing.{Crossing}
use Rattle.machine.specs.declared.Event.{Event}
use Rattle.machine.specs.Plant.{calling, waiting, route_flag, occupied_flag, unsure_flag, boom, lamp_flag, dependent, old_sheet, boom_count, lamp_count, each_boom, reason, booms_up}
use Rattle.machine.specs.Events.{is, is_at}
use Rattle.machine.specs.Effects.{calls, sweeps, calling_after, waiting_after, unsure_after, cancels, act, overlong, releases, tick}
use Rattle.machine.specs.Settling.{settle}
use Rattle.machine.proofs.Entries.{at_most_seven}
use Rattle.machine.proofs.Tools.{by_test, all_below_same, getD_tab, each_tab}
use Rattle.demand.specs.Words.{depends, up, all_up}
use Rattle.demand.specs.Ledger.{Queue, empty, joined, gone, moved, settled, State, stands, due, swept, queue_next, unsure_next, countdown_next, worked, rested}
use Rattle.demand.proofs.Out.{capped, same_overlong, same_out}
use Rattle.demand.proofs.Stages.{clock_of, numbers, clock_ticked, tick_clock, clock_settled, settle_clock, phase_free}

abbrev pub queue_of : Crossing → ℕ → Queue
queue_of c t = record { calling = calling c t; waiting = waiting c t }

-- queues whose two numbers stand in tables
read_queue : {f g : ℕ → ℕ} {q : ℕ → Queue} → ((t : ℕ) → t < 4 → record { calling = f t; waiting = g t } ≡ q t)
    → (t : ℕ) → t < 4 → ◌≡◌ {A = Queue} (record { calling = get_or (tab 4 f) t 0; waiting = get_or (tab 4 g) t 0 }) (q t)
read_queue {f} {g} p t b = rw (getD_tab 4 f 0 t b, getD_tab 4 g 0 t b) (p t b)

-- lamps that the kind lacks are not looked at; ticks out of normal are held up to 1,080
pub record Agree (s : Entry) (c : Crossing) (k : State) : Type 0 where
  pub kiosk : c.kiosk ≡ k.kiosk
  pub operator : c.operator ≡ k.operator
  pub countdown : c.countdown ≡ k.countdown
  pub route : (t : ℕ) → t < 4 → route_flag c t ≡ k.route t
  pub occupied : (t : ℕ) → t < 4 → occupied_flag c t ≡ k.occupied t
  pub queue : (t : ℕ) → t < 4 → queue_of c t ≡ k.queue t
  pub unsure : (t : ℕ) → t < 4 → unsure_flag c t ≡ k.unsure t
  pub boom : (b : ℕ) → b < 4 → boom c b ≡ k.boom b
  pub lamp : (l : ℕ) → l < lamp_count s.kind → lamp_flag c l ≡ k.lamp l
  pub stage : clock_of c ≡ numbers k.stage
  pub out : capped c.out ≡ capped k.out

-- the machine's two fields against the ledger's one queue: swept strike-in, strike-in, passage, route set, or another event
queue_law : (b0 b1 b2 b5 r : Bool) (c w : ℕ) →
    ◌≡◌ {A = Queue} (record {
      calling = cond b0 c (cond b1 (c + bit r 1) (cond b2 (pred c) (cond b5 (c + w) c)));
      waiting = cond b0 w (cond b1 (w + bit (not r) 1) (cond b2 (w - bit (eqb c 0) 1) (cond b5 0 w)));
    })
    (let q : Queue = record { calling = c; waiting = w } in cond b0 q (cond b1 (joined r q) (cond b2 (gone q) (cond b5 (moved q) q))))
unfolding joined gone moved
queue_law true b1 b2 b5 r c w = refl
queue_law false true b2 b5 true c w = rw add-zero
queue_law false true b2 b5 false c w = rw add-zero
queue_law false false true b5 r zero w = let z : w - 1 ≡ pred w = omega arith in rw z
queue_law false false true b5 r (suc c) w = rw (eqb-suc-zero, sub-zero)
queue_law false false false true r c w = refl
queue_law false false false false r c w = refl

module _ (s : Entry) {c : Crossing} {k : State} (a : Agree s c k) (e : Event) where
  -- a strike-in at one of four tracks finds it full in both
  pub same_sweep : (is 1 e ≡ true → e.place < 4) → sweeps c e ≡ swept e k
  same_sweep placed = by_test (is 1 e) (λ q. rw (q, ← a.queue e.place (placed q))) (λ q. rw q)

  -- an event of this crossing
  module _ (not_tick : is 0 e ≡ false) (placed : is 1 e ≡ true → e.place < 4) where
    own_queue : (t : ℕ) → t < 4 → queue_of (act s c e) t ≡ queue_next s e k t
    unfolding act queue_next calling_after waiting_after dependent depends
    own_queue t b = rw (getD_tab 4 (calling_after s c e) 0 t b, getD_tab 4 (waiting_after s c e) 0 t b, not_tick, ← same_sweep placed, ← a.route t b, ← a.queue t b)
        (queue_law (sweeps c e) (is_at 1 t e) (is_at 2 t e) (is_at 5 t e && eqb e.value 1) (calls s c t) (calling c t) (waiting c t))

    own_unsure : (t : ℕ) → t < 4 → unsure_after c e t ≡ unsure_next s e k t
    unfolding unsure_after unsure_next
    own_unsure t b = rw (not_tick, ← same_sweep placed, ← a.unsure t b)

    pub own_agree : Agree s (act s c e) (worked s e k)
    unfolding act worked countdown_next cancels
    own_agree = record {
      kiosk = ap (cond (is 3 e) e.value) a.kiosk;
      operator = ap (cond (is 4 e) e.value) a.operator;
      countdown = rw (not_tick, a.countdown);
      route = each_tab 4 _ 0 (λ t x. x ≡ (worked s e k).route t) (λ t b. ap (cond (is_at 5 t e) e.value) (a.route t b));
      occupied = each_tab 4 _ 0 (λ t x. x ≡ (worked s e k).occupied t) (λ t b. ap (cond (is_at 6 t e) e.value) (a.occupied t b));
      queue = own_queue;
      unsure = each_tab 4 _ 0 (λ t x. x ≡ (worked s e k).unsure t) own_unsure;
      boom = each_tab 4 _ 0 (λ b x. x ≡ (worked s e k).boom b) (λ b l. ap (cond (is_at 8 b e) e.value) (a.boom b l));
      lamp = λ l b. getD_tab 7 (λ l. cond (is_at 9 l e) e.value (lamp_flag c l)) 0 l (omega (arith, at_most_seven s.kind)) ∙ ap (cond (is_at 9 l e) e.value) (a.lamp l b);
      stage = rw not_tick a.stage;
      out = a.out;
    }

  -- a tick completes a release in both
  pub same_release : releases s c ≡ due s k
  unfolding overlong
  same_release = λ i. (old_sheet s.kind && same_overlong c.out k.out a.out i && not (eqb (a.kiosk i) 1 || eqb (a.operator i) 1 || (busy 0 (lit< tt) i || busy 1 (lit< tt) i || busy 2 (lit< tt) i || busy 3 (lit< tt) i)))
      || eqb (a.countdown i) 1
    where
      busy : (t : ℕ) → t < 4 → eqb (occupied_flag c t) 1 ≡ eqb (k.occupied t) 1
      busy t b = ap (λ x. eqb x 1) (a.occupied t b)

  module _ (z : e.code ≡ 0) where
    released : (t : ℕ) → t < 4 → ◌≡◌ {A = Queue} (record { calling = cond (releases s c) 0 (calling c t); waiting = cond (releases s c) 0 (waiting c t) }) (queue_next s e k t)
    unfolding queue_next
    released t b = rw (z, ← a.queue t b, ← same_release) (both (releases s c))
      where
        both : (r : Bool) → ◌≡◌ {A = Queue} (record { calling = cond r 0 (calling c t); waiting = cond r 0 (waiting c t) }) (cond r empty (queue_of c t))
        both true = refl
        both false = refl

    tick_queue : (t : ℕ) → t < 4 → queue_of (tick s c) t ≡ queue_next s e k t
    unfolding tick
    tick_queue = read_queue released

    tick_unsure : (t : ℕ) → t < 4 → cond (releases s c) 0 (unsure_flag c t) ≡ unsure_next s e k t
    unfolding unsure_next
    tick_unsure t b = rw (z, ← same_release, ← a.unsure t b)

    pub tick_agree : Agree s (tick s c) (worked s e k)
    unfolding tick worked countdown_next
    tick_agree = record {
      kiosk = rw z a.kiosk;
      operator = rw z a.operator;
      countdown = rw (z, ← same_release, ← a.countdown);
      route = λ t b. rw z (a.route t b);
      occupied = λ t b. rw z (a.occupied t b);
      queue = tick_queue;
      unsure = each_tab 4 _ 0 (λ t x. x ≡ (worked s e k).unsure t) tick_unsure;
      boom = λ b l. rw z (a.boom b l);
      lamp = λ l b. rw z (a.lamp l b);
      stage = rw z (ap (clock_ticked s) a.stage ∙ tick_clock s k.stage);
      out = a.out;
    }

-- the reason of the record is that of the ledger
pub reason_stands : {s : Entry} {c : Crossing} {k : State} → Agree s c k → reason c ≡ stands k
unfolding reason stands
reason_stands {s} {c} {k} a = λ i. eqb (a.kiosk i) 1 || eqb (a.operator i) 1 || (calls 0 (lit< tt) i || calls 1 (lit< tt) i || calls 2 (lit< tt) i || calls 3 (lit< tt) i)
    || (marks 0 (lit< tt) i || marks 1 (lit< tt) i || marks 2 (lit< tt) i || marks 3 (lit< tt) i)
  where
    calls : (t : ℕ) → t < 4 → ltb 0 (calling c t) ≡ ltb 0 (k.queue t).calling
    calls t b = ap (λ q. ltb 0 q.calling) (a.queue t b)

    marks : (t : ℕ) → t < 4 → eqb (unsure_flag c t) 1 ≡ eqb (k.unsure t) 1
    marks t b = ap (λ x. eqb x 1) (a.unsure t b)

-- so are the tests of its booms
pub same_booms : {s : Entry} {c : Crossing} {k : State} → Agree s c k → (kind : ℕ) (f : ℕ → Bool) → each_boom kind (λ b. f (boom c b)) ≡ each_boom kind (λ b. f (k.boom b))
same_booms a kind f = all_below_same 4 _ _ (λ b d. ap (λ x. leb (boom_count kind) b || f x) (a.boom b d))

pub same_up : {s : Entry} {c : Crossing} {k : State} → Agree s c k → (kind : ℕ) → booms_up kind (boom c) ≡ all_up kind k.boom
unfolding booms_up all_up
same_up a kind = same_booms a kind (λ x. eqb x up)

-- then both settle
pub settled_agree : (s : Entry) (add : ℕ) {c : Crossing} {k : State} → Agree s c k → Agree s (settle s add c) (rested s add k)
unfolding settle rested
settled_agree s add {c} {k} a = record {
  kiosk = a.kiosk;
  operator = a.operator;
  countdown = a.countdown;
  route = a.route;
  occupied = a.occupied;
  queue = a.queue;
  unsure = a.unsure;
  boom = a.boom;
  lamp = a.lamp;
  stage = next;
  out = same_out add c.out k.out (both (ap (λ x. eqb x.phase 0) next ∙ phase_free (settled s (stands k) (all_up s.kind k.boom) k.stage)) (same_up a s.kind)) a.out;
}
  where
    same : {r r' u u' : Bool} → r ≡ r' → u ≡ u' → numbers (settled s r u k.stage) ≡ numbers (settled s r' u' k.stage)
    same q v = rw (q, v)

    next : clock_settled s (reason c) (booms_up s.kind (boom c)) (clock_of c) ≡ numbers (settled s (stands k) (all_up s.kind k.boom) k.stage)
    next = ap (clock_settled s (reason c) (booms_up s.kind (boom c))) a.stage ∙ settle_clock s (reason c) (booms_up s.kind (boom c)) k.stage ∙ same (reason_stands a) (same_up a s.kind)

    both : {a a' b b' : Bool} → a ≡ a' → b ≡ b' → (a && b) ≡ (a' && b')
    both p q = rw (p, q)
