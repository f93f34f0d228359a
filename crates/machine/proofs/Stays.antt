-- A plant in range stays in range under every event.
use mathlib.Core.Path.{◌≡◌, refl, sym, ◌∙◌}
use mathlib.Core.Bool.{Bool, true, false, cond, ◌&&◌, true≢false, and-false}
use Prim.Native.Nat.{ℕ, suc, ◌+◌, ◌≤◌, ◌<◌}
use native.Mathlib.Omega.{arith}
use lib.Dec.{eqb, ltb, leb, lit≤, lit<}
use lib.ListN.{get_or}
use borrow.Author.Tests.{eqb-true, eqb-false, leb-false, le-leb, ltb-true, lt-ltb}
use Rattle.machine.specs.Common.{tab, bit}
use Rattle.machine.specs.Plant.{Entry, Crossing, Plant, release_ticks, most_ticks, full, calling, waiting, route_flag, occupied_flag, unsure_flag, boom, lamp_flag, trains, entry, crossing, no_crossing, dependent, boom_count, lamp_count, reason, booms_up}
use Rattle.machine.specs.Reports.{lost}
use Rattle.machine.specs.Range.{in_range, report_limit, boom_in, lamp_in}
use Rattle.machine.specs.Events.{Event, Command, is, is_at, on_track, place_limit, value_limit, number}
use Rattle.machine.specs.Effects.{sweeps, calling_after, waiting_after, unsure_after, cancels, act, overlong, releases, phase_ticked, timer_ticked, tick}
use Rattle.machine.specs.Settling.{phase_settled, timer_settled, left_settled, out_settled, with_phase, settle}
use Rattle.machine.specs.Step.{touch, apply, step}
use Rattle.machine.proofs.Tools.{by_test, by_cond, and_both, getD_tab}
use Rattle.machine.proofs.Trains.{at_place, trains_after}
use Rattle.machine.proofs.Taken.{Accepted, taken_accepted, taken_crossing, taken_answer, refused_answer}
use Rattle.machine.proofs.Entries.{EntryIn, zero_kind}
use Rattle.machine.proofs.Ranges.{Zero, TrackIn, TrackAt, CrossingIn, NoCrossing, PlantIn, plant_reads, plant_tests, entry_of}
use Rattle.machine.proofs.Phases.{less, phase_ticks, phase_settles, left_ticks, left_settles}

-- One crossing --------------------------------------------------------------------------------------------------------------------
-- what a completed release clears, at track t
cleared_at : (s : Entry) (c : Crossing) (f : ℕ → ℕ) (t : ℕ) → t < 4 → get_or (tab 4 (λ u. cond (releases s c) 0 (f u))) t 0 ≡ cond (releases s c) 0 (f t)
cleared_at s c f t l = getD_tab 4 (λ u. cond (releases s c) 0 (f u)) 0 t l

module _ (s : Entry) (g : EntryIn s) where
  out_law : (normal : Bool) (add out : ℕ) → add ≤ 1 → out_settled normal add out ≤ most_ticks
  unfolding out_settled
  out_law normal add out l = by_cond (λ x. x ≤ most_ticks) normal (λ _. omega arith) (λ _. by_cond (λ x. x ≤ most_ticks) (ltb out most_ticks) (λ t. omega (arith, ltb-true)) (λ _. omega arith))

  settles : (add : ℕ) (c : Crossing) → add ≤ 1 → CrossingIn s c → CrossingIn s (settle s add c)
  unfolding settle
  settles add c l h = record {
    track = h.track;
    boom = h.boom;
    lamp = h.lamp;
    kiosk = h.kiosk;
    operator = h.operator;
    countdown = h.countdown;
    phase = phase_settles s g (reason c) _ c.left h.phase;
    left = left_settles s g c.phase _ h.left;
    out = out_law _ add c.out l;
  }

  ticks : (c : Crossing) → CrossingIn s c → CrossingIn s (tick s c)
  unfolding tick
  ticks c h = record {
    track = λ t l. let k = h.track t l in rw (cleared_at s c (calling c) t l, cleared_at s c (waiting c) t l, cleared_at s c (unsure_flag c) t l) (cleared t (releases s c) k);
    boom = h.boom;
    lamp = h.lamp;
    kiosk = h.kiosk;
    operator = h.operator;
    countdown = by_cond (λ x. x ≤ release_ticks) (releases s c) (λ _. omega arith) (λ _. less c.countdown release_ticks h.countdown);
    phase = phase_ticks s g h.phase;
    left = left_ticks s g h.phase h.left;
    out = h.out;
  }
    where
      cleared : (t : ℕ) (b : Bool) {k w r o u : ℕ} → TrackIn s t k w r o u → TrackIn s t (cond b 0 k) (cond b 0 w) r o (cond b 0 u)
      cleared t true h = record {
        few = omega arith;
        route = h.route;
        occupied = h.occupied;
        unsure = omega arith;
        plain = λ d. (refl, (h.plain d).1);
        lacking = λ m. let z = h.lacking m in record { calling = refl; waiting = refl; route = z.route; occupied = z.occupied; unsure = refl };
      }
      cleared t false h = h

  -- an event of codes 1 to 9 at its own crossing
  module _ (n : ℕ) (c : Crossing) (e : Event) (a : Accepted n s c e) where
    -- a code whose place is a track is at a track that the crossing has
    elsewhere : (k t : ℕ) → on_track k ≡ true → s.tracks ≤ t → is_at k t e ≡ false
    unfolding place_limit
    elsewhere k t o m = by_test (is_at k t e)
        (λ q.
        let b = and_both (is k e) (eqb e.place t) q in
        let at : e.place ≡ t = eqb-true _ _ b.1 in
        let l : e.place < s.tracks = rw (eqb-true e.code k b.0, o) at a.place in
        absurd (omega arith))
        (λ q. q)

    swept_trains : (t : ℕ) → sweeps c e ≡ true → calling_after s c e t + waiting_after s c e t ≡ trains c t
    unfolding calling_after waiting_after
    swept_trains t q = rw q

    few : (t : ℕ) → trains c t ≤ full → calling_after s c e t + waiting_after s c e t ≤ full
    few t f = by_test (sweeps c e)
        (λ q. let m = swept_trains t q in omega arith)
        (λ q. by_test (is_at 1 t e)
        (λ o. let r = at_place (λ u. trains c u < full) 1 t e (λ one. leb-false _ _ (rw one at q)) o in let m = rw o at after in omega arith)
        (λ o. let m = rw o at after in omega arith))
      where
        after : calling_after s c e t + waiting_after s c e t + bit (is_at 2 t e) 1 + bit (sweeps c e && eqb e.place t) 1 ≡ trains c t + bit (is_at 1 t e) 1
        after = trains_after s c e t a.there

    plain_waits : (t : ℕ) → dependent s t ≡ false → waiting c t ≡ 0 → waiting_after s c e t ≡ 0
    unfolding waiting_after
    plain_waits t d z = rw d
        (by_cond (λ x. x ≡ 0) (sweeps c e) (λ _. z) (λ _.
        by_cond (λ x. x ≡ 0) (is_at 1 t e) (λ _. omega arith) (λ _.
        by_cond (λ x. x ≡ 0) (is_at 2 t e) (λ _. omega arith) (λ _.
        by_cond (λ x. x ≡ 0) (is_at 5 t e && eqb e.value 1) (λ _. refl) (λ _. z)))))

    plain_route : (t r : ℕ) → dependent s t ≡ false → r ≡ 0 → cond (is_at 5 t e) e.value r ≡ 0
    plain_route t r d z = by_cond (λ x. x ≡ 0) (is_at 5 t e)
        (λ q. absurd (true≢false (sym (at_place (λ u. dependent s u ≡ true) 5 t e a.routed q) ∙ d)))
        (λ _. z)

    -- what an event of an on-off code k stores is a flag
    flag : (k : ℕ) (b : Bool) {x : ℕ} → value_limit k ≡ 2 → (b ≡ true → is k e ≡ true) → x ≤ 1 → cond b e.value x ≤ 1
    flag k b v f l = by_cond (λ y. y ≤ 1) b (λ q. let w : e.value < 2 = rw (eqb-true e.code k (f q), v) at a.value in omega arith) (λ _. l)

    flag_at : (k t : ℕ) {x : ℕ} → value_limit k ≡ 2 → x ≤ 1 → cond (is_at k t e) e.value x ≤ 1
    flag_at k t v = flag k (is_at k t e) v (λ q. (and_both (is k e) (eqb e.place t) q).0)

    -- a track that the crossing lacks does not become unsure
    not_swept : (t : ℕ) → s.tracks ≤ t → (sweeps c e && eqb e.place t) ≡ false
    not_swept t m = by_test (is 1 e)
        (λ one. let o : eqb e.place t ≡ false = rw one at (elsewhere 1 t refl m) in rw (o, and-false))
        (λ other. rw other)

    -- and holds what it held, whether the event sweeps or not
    as_it_was : (b : Bool) {k w r o u : ℕ} → Zero k w r o u → Zero (cond b k k) (cond b w w) r o u
    as_it_was true z = z
    as_it_was false z = z

    track_acts : (t : ℕ) → TrackAt s c t → TrackIn s t (calling_after s c e t) (waiting_after s c e t) (cond (is_at 5 t e) e.value (route_flag c t)) (cond (is_at 6 t e) e.value (occupied_flag c t)) (unsure_after c e t)
    unfolding calling_after waiting_after unsure_after value_limit
    track_acts t h = record {
      few = few t h.few;
      route = flag_at 5 t refl h.route;
      occupied = flag_at 6 t refl h.occupied;
      unsure = by_cond (λ x. x ≤ 1) (sweeps c e && eqb e.place t) (λ _. omega arith) (λ _. h.unsure);
      plain = λ d. (plain_waits t d (h.plain d).0, plain_route t (route_flag c t) d (h.plain d).1);
      lacking = λ m. rw (elsewhere 1 t refl m, elsewhere 2 t refl m, elsewhere 5 t refl m, elsewhere 6 t refl m, not_swept t m) (as_it_was (sweeps c e) (h.lacking m));
    }

    boom_acts : (b : ℕ) → boom_in s c b ≡ true → leb (cond (is_at 8 b e) e.value (boom c b)) (report_limit (ltb b (boom_count s.kind))) ≡ true
    unfolding place_limit value_limit
    boom_acts b h = by_cond (λ x. leb x (report_limit (ltb b (boom_count s.kind))) ≡ true) (is_at 8 b e)
        (λ q.
        let k = and_both (is 8 e) (eqb e.place b) q in
        let eight : e.code ≡ 8 = eqb-true _ _ k.0 in
        let at : e.place ≡ b = eqb-true _ _ k.1 in
        let l : b < boom_count s.kind = rw at at (rw eight at a.place) in
        let v : e.value < value_limit 8 = rw eight at a.value in
        let most : value_limit 8 ≤ suc lost = lit≤ tt in
        rw (lt-ltb _ _ l) (le-leb e.value lost (omega (arith, v, most))))
        (λ _. h)

    lamp_acts : (l : ℕ) → lamp_in s c l ≡ true → leb (cond (is_at 9 l e) e.value (lamp_flag c l)) (bit (ltb l (lamp_count s.kind)) 1) ≡ true
    unfolding place_limit value_limit
    lamp_acts l h = by_cond (λ x. leb x (bit (ltb l (lamp_count s.kind)) 1) ≡ true) (is_at 9 l e)
        (λ q.
        let k = and_both (is 9 e) (eqb e.place l) q in
        let nine : e.code ≡ 9 = eqb-true _ _ k.0 in
        let at : e.place ≡ l = eqb-true _ _ k.1 in
        let has : l < lamp_count s.kind = rw at at (rw nine at a.place) in
        let v : e.value < 2 = rw nine at a.value in
        rw (lt-ltb _ _ has) (le-leb e.value 1 (omega arith)))
        (λ _. h)

    acts : CrossingIn s c → CrossingIn s (act s c e)
    unfolding act value_limit
    acts h = record {
      track = λ t l. rw (
        getD_tab 4 (calling_after s c e) 0 t l,
        getD_tab 4 (waiting_after s c e) 0 t l,
        getD_tab 4 (λ t. cond (is_at 5 t e) e.value (route_flag c t)) 0 t l,
        getD_tab 4 (λ t. cond (is_at 6 t e) e.value (occupied_flag c t)) 0 t l,
        getD_tab 4 (unsure_after c e) 0 t l,
      )
          (track_acts t (h.track t l));
      boom = λ b l. rw (getD_tab 4 (λ b. cond (is_at 8 b e) e.value (boom c b)) 0 b l) (boom_acts b (h.boom b l));
      lamp = λ l b. rw (getD_tab 7 (λ l. cond (is_at 9 l e) e.value (lamp_flag c l)) 0 l b) (lamp_acts l (h.lamp l b));
      kiosk = flag 3 (is 3 e) refl (λ q. q) h.kiosk;
      operator = flag 4 (is 4 e) refl (λ q. q) h.operator;
      countdown = by_cond (λ x. x ≤ release_ticks) (is 7 e) (λ _. omega arith) (λ _. by_cond (λ x. x ≤ release_ticks) (cancels e) (λ _. omega arith) (λ _. h.countdown));
      phase = h.phase;
      left = h.left;
      out = h.out;
    }

-- A record past the last crossing --------------------------------------------------------------------------------------------------
no_reason : (c : Crossing) → NoCrossing c → reason c ≡ false
unfolding reason
no_reason c h =
    let z0 = h.track 0 (lit< tt) in
    let z1 = h.track 1 (lit< tt) in
    let z2 = h.track 2 (lit< tt) in
    let z3 = h.track 3 (lit< tt) in
    rw (h.kiosk, h.operator, z0.calling, z1.calling, z2.calling, z3.calling, z0.unsure, z1.unsure, z2.unsure, z3.unsure)

same_phase : (c : Crossing) {phase timer left out : ℕ} → c.phase ≡ phase → c.timer ≡ timer → c.left ≡ left → c.out ≡ out → with_phase c phase timer left out ≡ c
same_phase c p t m o = rw (← p, ← t, ← m, ← o)

module _ (s : Entry) (none : s.kind ≡ 0) where
  -- it settles as it is
  pub zero_settles : (c : Crossing) → NoCrossing c → settle s 1 c ≡ c
  unfolding settle phase_settled timer_settled left_settled out_settled booms_up
  zero_settles c h = simp (no_reason c h, none, h.phase, h.timer, h.boom 0 (lit< tt), h.boom 1 (lit< tt)) (same_phase c h.phase h.timer refl h.out)

  -- and releases nothing
  pub zero_releases : (c : Crossing) → NoCrossing c → releases s c ≡ false
  unfolding overlong
  zero_releases c h = rw (none, h.countdown)

  zero_ticks : (c : Crossing) → NoCrossing c → NoCrossing (tick s c)
  unfolding tick phase_ticked timer_ticked
  zero_ticks c h = record {
    track = λ t l. let z = h.track t l in rw (cleared_at s c (calling c) t l, cleared_at s c (waiting c) t l, cleared_at s c (unsure_flag c) t l, zero_releases c h) z;
    boom = h.boom;
    lamp = h.lamp;
    kiosk = h.kiosk;
    operator = h.operator;
    countdown = rw (zero_releases c h, h.countdown);
    phase = rw h.timer h.phase;
    timer = rw h.timer;
    left = rw h.left;
    out = h.out;
  }

  zero_touched : (c : Crossing) → NoCrossing c → NoCrossing (settle s 1 (tick s c))
  zero_touched c h = let k = zero_ticks c h in rw (zero_settles (tick s c) k) k

-- The plant ------------------------------------------------------------------------------------------------------------------------
touches_used : (p : Plant) (x : Command) (h : PlantIn p) → number p x ≡ 0 → (i : ℕ) → i < p.site.n → CrossingIn (entry p i) (touch (entry p i) i (crossing p i) x.event)
unfolding touch
touches_used p x h q i l =
    let e = x.event in
    let s = entry p i in
    let c = crossing p i in
    let g = entry_of h i l in
    by_cond (CrossingIn s) (is 0 e)
    (λ _. settles s g 1 (tick s c) (omega arith) (ticks s g c (h.used i l)))
    (λ _. by_cond (CrossingIn s) (eqb e.crossing i)
    (λ o. settles s g 0 (act s c e) (omega arith) (acts s g p.site.n c e (taken_accepted p x q i o) (h.used i l)))
    (λ _. h.used i l))

touches_past : (p : Plant) (x : Command) (h : PlantIn p) → number p x ≡ 0 → (i : ℕ) → i < 8 → p.site.n ≤ i → NoCrossing (touch (entry p i) i (crossing p i) x.event)
unfolding touch
touches_past p x h q i l m = by_cond NoCrossing (is 0 x.event)
    (λ _. zero_touched (entry p i) (zero_kind (entry p i) (h.entry_past i l m)) (crossing p i) (h.past i l m))
    (λ z. by_cond NoCrossing (eqb x.event.crossing i)
    (λ o. let at : x.event.crossing ≡ i = eqb-true _ _ o in let b = taken_crossing p x q z in absurd (omega arith))
    (λ _. h.past i l m))

pub applied_in_range : (p : Plant) (x : Command) → number p x ≡ 0 → PlantIn p → PlantIn (apply p x.event)
unfolding apply
applied_in_range p x q h = record {
  some = h.some;
  count = h.count;
  beat = by_cond (λ x. x ≤ 3) (is 0 x.event) (λ _. omega arith) (λ _. h.beat);
  entry_test = h.entry_test;
  used = λ i l. rw (at i (let n = h.count in omega arith)) (touches_used p x h q i l);
  entry_past = h.entry_past;
  past = λ i l m. rw (at i l) (touches_past p x h q i l m);
}
  where
    at : (i : ℕ) → i < 8 → get_or (tab 8 (λ j. touch (entry p j) j (crossing p j) x.event)) i no_crossing ≡ touch (entry p i) i (crossing p i) x.event
    at i l = getD_tab 8 (λ j. touch (entry p j) j (crossing p j) x.event) no_crossing i l

pub stays_in_range : (p : Plant) (x : Command) → in_range p ≡ true → in_range (step p x).plant ≡ true
stays_in_range p x h = by_test (eqb (number p x) 0)
    (λ t. let q = eqb-true _ _ t in rw (taken_answer p x q) (plant_tests (apply p x.event) (applied_in_range p x q (plant_reads p h))))
    (λ t. rw (refused_answer p x (eqb-false _ _ t)) h)
