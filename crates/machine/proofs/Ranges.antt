-- What the range tests say, as facts: a test that holds gives its record, and the record gives the test.
use mathlib.Core.Path.{◌≡◌, ap}
use mathlib.Core.Bool.{Bool, true, false, not, ◌&&◌, ◌||◌}
use Prim.Native.Nat.{ℕ, ◌+◌, ◌≤◌, ◌<◌}
use native.Mathlib.Omega.{arith}
use lib.Dec.{eqb, ltb, leb}
use borrow.Author.Tests.{eqb-true, leb-true, ltb-true, ltb-false, not-true, eq-eqb, le-leb, lt-ltb, le-ltb}
use Rattle.machine.specs.Common.{all_below}
use Rattle.machine.specs.Plant.{Entry, Crossing, Plant, release_ticks, most_ticks, full, calling, waiting, route_flag, occupied_flag, unsure_flag, boom, lamp_flag, trains, entry, crossing, dependent, lights_only, four_booms}
use Rattle.machine.specs.Range.{entry_in, entry_zero, flag_in, track_zero, track_in, boom_in, lamp_in, phase_in, left_limit, crossing_in, crossing_zero, place_in, count_in, in_range}
use Rattle.machine.proofs.Tools.{by_test, by_cond, and_both, and_intro, or_right, or_left_false, all_below_intro, all_below_at}
use Rattle.machine.proofs.Entries.{EntryIn, entry_reads}

-- One track: its number t and what it holds ----------------------------------------------------------------------------------------
pub record Zero (k w r o u : ℕ) : Type 0 where
  pub calling : k ≡ 0
  pub waiting : w ≡ 0
  pub route : r ≡ 0
  pub occupied : o ≡ 0
  pub unsure : u ≡ 0

pub record TrackIn (s : Entry) (t k w r o u : ℕ) : Type 0 where
  pub few : k + w ≤ full
  pub route : r ≤ 1
  pub occupied : o ≤ 1
  pub unsure : u ≤ 1
  pub plain : dependent s t ≡ false → (w ≡ 0) × (r ≡ 0)
  pub lacking : s.tracks ≤ t → Zero k w r o u

abbrev pub ZeroAt : Crossing → ℕ → Type 0
ZeroAt c t = Zero (calling c t) (waiting c t) (route_flag c t) (occupied_flag c t) (unsure_flag c t)

abbrev pub TrackAt : Entry → Crossing → ℕ → Type 0
TrackAt s c t = TrackIn s t (calling c t) (waiting c t) (route_flag c t) (occupied_flag c t) (unsure_flag c t)

module _ (c : Crossing) (t : ℕ) where
  pub zero_reads : track_zero c t ≡ true → ZeroAt c t
  zero_reads q =
      let u = and_both _ (eqb (unsure_flag c t) 0) q in
      let o = and_both _ (eqb (occupied_flag c t) 0) u.0 in
      let r = and_both _ (eqb (route_flag c t) 0) o.0 in
      let w = and_both (eqb (calling c t) 0) (eqb (waiting c t) 0) r.0 in
      record { calling = eqb-true _ _ w.0; waiting = eqb-true _ _ w.1; route = eqb-true _ _ r.1; occupied = eqb-true _ _ o.1; unsure = eqb-true _ _ u.1 }

  pub zero_tests : ZeroAt c t → track_zero c t ≡ true
  zero_tests z = rw (z.calling, z.waiting, z.route, z.occupied, z.unsure)

  module _ (s : Entry) where
    pub track_reads : track_in s c t ≡ true → TrackAt s c t
    unfolding track_in
    track_reads q =
        let l = and_both _ (ltb t s.tracks || track_zero c t) q in
        let p = and_both _ (dependent s t || (eqb (waiting c t) 0 && eqb (route_flag c t) 0)) l.0 in
        let f = and_both (leb (trains c t) full) (flag_in (route_flag c t) && flag_in (occupied_flag c t) && flag_in (unsure_flag c t)) p.0 in
        let u = and_both _ (flag_in (unsure_flag c t)) f.1 in
        let g = and_both (flag_in (route_flag c t)) (flag_in (occupied_flag c t)) u.0 in
        record {
          few = leb-true _ _ f.0;
          route = leb-true _ _ g.0;
          occupied = leb-true _ _ g.1;
          unsure = leb-true _ _ u.1;
          plain = λ d. let a = and_both (eqb (waiting c t) 0) _ (or_left_false (dependent s t) _ d p.1) in (eqb-true _ _ a.0, eqb-true _ _ a.1);
          lacking = λ b. zero_reads (or_left_false (ltb t s.tracks) _ (le-ltb _ _ b) l.1);
        }

    pub track_tests : TrackAt s c t → track_in s c t ≡ true
    unfolding track_in
    track_tests h =
        and_intro (and_intro (and_intro (le-leb _ _ h.few) (and_intro (and_intro (le-leb _ _ h.route) (le-leb _ _ h.occupied)) (le-leb _ _ h.unsure)))
        (or_right (dependent s t) (eqb (waiting c t) 0 && eqb (route_flag c t) 0) (λ d. rw ((h.plain d).0, (h.plain d).1))))
        (or_right (ltb t s.tracks) (track_zero c t) (λ b. zero_tests (h.lacking (ltb-false _ _ b))))

-- Phase and timer ------------------------------------------------------------------------------------------------------------------
pub data PhaseIn (s : Entry) (phase timer : ℕ) : Type 0 where
  opened : phase ≡ 0 → timer ≡ 0 → PhaseIn s phase timer
  warning : phase ≡ 1 → 1 ≤ timer → timer ≤ s.pre → PhaseIn s phase timer
  right : phase ≡ 2 → four_booms s.kind ≡ true → 1 ≤ timer → timer ≤ s.gap → PhaseIn s phase timer
  closed : phase ≡ 3 → timer ≡ 0 → PhaseIn s phase timer
  raising : phase ≡ 4 → timer ≡ 0 → lights_only s.kind ≡ false → PhaseIn s phase timer

module _ (s : Entry) (phase timer : ℕ) where
  pub phase_tests : PhaseIn s phase timer → phase_in s phase timer ≡ true
  unfolding phase_in
  phase_tests (opened p z) = rw (p, z)
  phase_tests (warning p l h) = rw p (and_intro (le-leb _ _ l) (le-leb _ _ h))
  phase_tests (right p q l h) = rw p (and_intro q (and_intro (le-leb _ _ l) (le-leb _ _ h)))
  phase_tests (closed p z) = rw (p, z)
  phase_tests (raising p z h) = rw (p, z) (ap not h)

  rest : (timer ≡ 0) → (eqb phase 0 || eqb phase 3 || (eqb phase 4 && not (lights_only s.kind))) ≡ true → PhaseIn s phase timer
  rest z q = by_test (eqb phase 0) (λ a. opened (eqb-true _ _ a) z) (λ a.
      by_test (eqb phase 3) (λ b. closed (eqb-true _ _ b) z) (λ b.
      let d = and_both (eqb phase 4) (not (lights_only s.kind)) (rw (a, b) at q) in raising (eqb-true _ _ d.0) z (not-true _ d.1)))

  pub phase_reads : phase_in s phase timer ≡ true → PhaseIn s phase timer
  unfolding phase_in
  phase_reads q = by_test (eqb phase 1)
      (λ a. let b = and_both (leb 1 timer) _ (rw a at q) in warning (eqb-true _ _ a) (leb-true _ _ b.0) (leb-true _ _ b.1))
      (λ a. by_test (eqb phase 2)
      (λ b. let d = and_both (four_booms s.kind) _ (rw (a, b) at q) in let f = and_both (leb 1 timer) _ d.1 in right (eqb-true _ _ b) d.0 (leb-true _ _ f.0) (leb-true _ _ f.1))
      (λ b. let d = and_both (eqb timer 0) _ (rw (a, b) at q) in rest (eqb-true _ _ d.0) d.1))

-- One crossing ---------------------------------------------------------------------------------------------------------------------
pub record CrossingIn (s : Entry) (c : Crossing) : Type 0 where
  pub track : (t : ℕ) → t < 4 → TrackAt s c t
  pub boom : (b : ℕ) → b < 4 → boom_in s c b ≡ true
  pub lamp : (l : ℕ) → l < 7 → lamp_in s c l ≡ true
  pub kiosk : c.kiosk ≤ 1
  pub operator : c.operator ≤ 1
  pub countdown : c.countdown ≤ release_ticks
  pub phase : PhaseIn s c.phase c.timer
  pub left : c.left ≤ left_limit s c.phase
  pub out : c.out ≤ most_ticks

module _ (s : Entry) (c : Crossing) where
  pub crossing_reads : crossing_in s c ≡ true → CrossingIn s c
  unfolding crossing_in
  crossing_reads q =
      let o = and_both _ (leb c.out most_ticks) q in
      let n = and_both _ (leb c.left (left_limit s c.phase)) o.0 in
      let p = and_both _ (phase_in s c.phase c.timer) n.0 in
      let d = and_both _ (leb c.countdown release_ticks) p.0 in
      let k = and_both _ (flag_in c.kiosk && flag_in c.operator) d.0 in
      let f = and_both (flag_in c.kiosk) (flag_in c.operator) k.1 in
      let m = and_both _ (all_below 7 (lamp_in s c)) k.0 in
      let b = and_both (all_below 4 (track_in s c)) (all_below 4 (boom_in s c)) m.0 in
      record {
        track = λ t l. track_reads c t s (all_below_at 4 (track_in s c) b.0 t l);
        boom = all_below_at 4 (boom_in s c) b.1;
        lamp = all_below_at 7 (lamp_in s c) m.1;
        kiosk = leb-true _ _ f.0;
        operator = leb-true _ _ f.1;
        countdown = leb-true _ _ d.1;
        phase = phase_reads s c.phase c.timer p.1;
        left = leb-true _ _ n.1;
        out = leb-true _ _ o.1;
      }

  pub crossing_tests : CrossingIn s c → crossing_in s c ≡ true
  unfolding crossing_in
  crossing_tests h =
      and_intro (and_intro (and_intro (and_intro (and_intro (and_intro (and_intro
      (all_below_intro 4 (track_in s c) (λ t l. track_tests c t s (h.track t l)))
      (all_below_intro 4 (boom_in s c) h.boom))
      (all_below_intro 7 (lamp_in s c) h.lamp))
      (and_intro (le-leb _ _ h.kiosk) (le-leb _ _ h.operator)))
      (le-leb _ _ h.countdown))
      (phase_tests s c.phase c.timer h.phase))
      (le-leb _ _ h.left))
      (le-leb _ _ h.out)

-- A record past the last crossing --------------------------------------------------------------------------------------------------
pub record NoCrossing (c : Crossing) : Type 0 where
  pub track : (t : ℕ) → t < 4 → ZeroAt c t
  pub boom : (b : ℕ) → b < 4 → boom c b ≡ 0
  pub lamp : (l : ℕ) → l < 7 → lamp_flag c l ≡ 0
  pub kiosk : c.kiosk ≡ 0
  pub operator : c.operator ≡ 0
  pub countdown : c.countdown ≡ 0
  pub phase : c.phase ≡ 0
  pub timer : c.timer ≡ 0
  pub left : c.left ≡ 0
  pub out : c.out ≡ 0

module _ (c : Crossing) where
  pub no_crossing_reads : crossing_zero c ≡ true → NoCrossing c
  unfolding crossing_zero
  no_crossing_reads q =
      let o = and_both _ (eqb c.out 0) q in
      let n = and_both _ (eqb c.left 0) o.0 in
      let i = and_both _ (eqb c.timer 0) n.0 in
      let p = and_both _ (eqb c.phase 0) i.0 in
      let d = and_both _ (eqb c.countdown 0) p.0 in
      let h = and_both _ (eqb c.operator 0) d.0 in
      let k = and_both _ (eqb c.kiosk 0) h.0 in
      let l = and_both _ (all_below 7 (λ l. eqb (lamp_flag c l) 0)) k.0 in
      let b = and_both (all_below 4 (track_zero c)) (all_below 4 (λ b. eqb (boom c b) 0)) l.0 in
      record {
        track = λ t m. zero_reads c t (all_below_at 4 (track_zero c) b.0 t m);
        boom = λ n m. eqb-true _ _ (all_below_at 4 (λ b. eqb (boom c b) 0) b.1 n m);
        lamp = λ n m. eqb-true _ _ (all_below_at 7 (λ l. eqb (lamp_flag c l) 0) l.1 n m);
        kiosk = eqb-true _ _ k.1;
        operator = eqb-true _ _ h.1;
        countdown = eqb-true _ _ d.1;
        phase = eqb-true _ _ p.1;
        timer = eqb-true _ _ i.1;
        left = eqb-true _ _ n.1;
        out = eqb-true _ _ o.1;
      }

  pub no_crossing_tests : NoCrossing c → crossing_zero c ≡ true
  unfolding crossing_zero
  no_crossing_tests h =
      and_intro (and_intro (and_intro (and_intro (and_intro (and_intro (and_intro (and_intro (and_intro
      (all_below_intro 4 (track_zero c) (λ t m. zero_tests c t (h.track t m)))
      (all_below_intro 4 (λ b. eqb (boom c b) 0) (λ b m. eq-eqb _ _ (h.boom b m))))
      (all_below_intro 7 (λ l. eqb (lamp_flag c l) 0) (λ l m. eq-eqb _ _ (h.lamp l m))))
      (eq-eqb _ _ h.kiosk)) (eq-eqb _ _ h.operator))
      (eq-eqb _ _ h.countdown)) (eq-eqb _ _ h.phase)) (eq-eqb _ _ h.timer)) (eq-eqb _ _ h.left)) (eq-eqb _ _ h.out)

-- The plant ------------------------------------------------------------------------------------------------------------------------
pub record PlantIn (p : Plant) : Type 0 where
  pub some : 1 ≤ p.site.n
  pub count : p.site.n ≤ 8
  pub beat : p.beat ≤ 3
  pub entry_test : (i : ℕ) → i < p.site.n → entry_in (entry p i) ≡ true
  pub used : (i : ℕ) → i < p.site.n → CrossingIn (entry p i) (crossing p i)
  pub entry_past : (i : ℕ) → i < 8 → p.site.n ≤ i → entry_zero (entry p i) ≡ true
  pub past : (i : ℕ) → i < 8 → p.site.n ≤ i → NoCrossing (crossing p i)

module _ (p : Plant) where
  abbrev here : ℕ → Bool
  here i = place_in p.site.n i (entry p i) (crossing p i)

  pub plant_reads : in_range p ≡ true → PlantIn p
  unfolding in_range place_in
  plant_reads q =
      let a = and_both _ (all_below 8 here) q in
      let b = and_both (count_in p.site.n) (leb p.beat 3) a.0 in
      let n = and_both (leb 1 p.site.n) (leb p.site.n 8) b.0 in
      let few : p.site.n ≤ 8 = leb-true _ _ n.1 in
      let in_use : (i : ℕ) → i < p.site.n → (entry_in (entry p i) && crossing_in (entry p i) (crossing p i)) ≡ true =
      (λ i l. rw (lt-ltb i p.site.n l) at (all_below_at 8 here a.1 i (omega arith))) in
      let unused : (i : ℕ) → i < 8 → p.site.n ≤ i → (entry_zero (entry p i) && crossing_zero (crossing p i)) ≡ true =
      (λ i l m. rw (le-ltb i p.site.n m) at (all_below_at 8 here a.1 i l)) in
      record {
        some = leb-true _ _ n.0;
        count = few;
        beat = leb-true _ _ b.1;
        entry_test = λ i l. (and_both (entry_in (entry p i)) _ (in_use i l)).0;
        used = λ i l. crossing_reads (entry p i) (crossing p i) (and_both (entry_in (entry p i)) _ (in_use i l)).1;
        entry_past = λ i l m. (and_both (entry_zero (entry p i)) _ (unused i l m)).0;
        past = λ i l m. no_crossing_reads (crossing p i) (and_both (entry_zero (entry p i)) _ (unused i l m)).1;
      }

  pub plant_tests : PlantIn p → in_range p ≡ true
  unfolding in_range place_in
  plant_tests h =
      and_intro (and_intro (and_intro (le-leb _ _ h.some) (le-leb _ _ h.count)) (le-leb _ _ h.beat))
      (all_below_intro 8 here (λ i l. by_cond (λ x. x ≡ true) (ltb i p.site.n)
      (λ q. let m : i < p.site.n = ltb-true _ _ q in and_intro (h.entry_test i m) (crossing_tests (entry p i) (crossing p i) (h.used i m)))
      (λ q. let m : p.site.n ≤ i = ltb-false _ _ q in and_intro (h.entry_past i l m) (no_crossing_tests (crossing p i) (h.past i l m)))))

-- the settings of a crossing in use
pub entry_of : {p : Plant} → PlantIn p → (i : ℕ) → i < p.site.n → EntryIn (entry p i)
entry_of {p} h i l = entry_reads (entry p i) (h.entry_test i l)
