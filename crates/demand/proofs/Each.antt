-- The invariant of one crossing, and one more command.
use mathlib.Core.Path.{◌≡◌, refl, sym, ◌∙◌}
use mathlib.Core.Bool.{true, false, false≢true, and-true, and-false}
use mathlib.Core.List.{List, [], ◌∷◌, ◌++◌}
use Prim.Native.Nat.{ℕ, suc, ◌+◌, ◌≤◌, ◌<◌}
use native.Mathlib.Omega.{arith}
use native.Mathlib.Nat.{add-zero}
use lib.Dec.{eqb, ltb}
use borrow.Author.Tests.{eqb-true, lt-ltb}
use Rattle.machine.specs.declared.Entry.{Entry}
use Rattle.machine.specs.declared.Crossing.{Crossing}
use Rattle.machine.specs.declared.Plant.{Plant}
use Rattle.machine.specs.declared.Event.{Event}
use Rattle.machine.specs.Common.{bit}
use Rattle.machine.specs.Plant.{lamp_flag, entry, lamp_count}
use Rattle.machine.specs.Events.{Command, is, on_track, place_limit}
use Rattle.machine.specs.Effects.{act, tick, written_at}
use Rattle.machine.specs.Settling.{settle}
use Rattle.machine.specs.Step.{after, touch}
use Rattle.machine.proofs.Tools.{by_test, by_cond, below4, getD_tab}
use Rattle.machine.proofs.Taken.{Accepted}
use Rattle.machine.proofs.Entries.{at_most_seven}
use Rattle.machine.proofs.Laws.{fresh_of}
use Rattle.demand.specs.Ledger.{taken, note, log, count, ticked as stage_ticked, State, stands, worked, rested, state}
use Rattle.demand.specs.Demand.{known, stands_after, Unbroken}
use Rattle.demand.proofs.Lists.{log_snoc}
use Rattle.demand.proofs.Unbroken.{stands_now, begins, goes_on}
use Rattle.demand.proofs.Timing.{Timed, timed_tick, timed_settled}
use Rattle.demand.proofs.Agree.{Agree, own_agree, tick_agree, settled_agree}
use Rattle.demand.proofs.Account.{Even, own_even, own_written, tick_even, tick_written}

-- what holds of crossing i, whose record is c after the list es from the plant p
pub record Holds (p : Plant) (es : List Command) (i : ℕ) (c : Crossing) : Type 0 where
  pub agree : Agree (entry p i) c (known p i es)
  pub timed : Timed (λ n. Unbroken p i n es) (entry p i) (known p i es).stage
  pub even : Even c (known p i es) (log p i es)

-- each lamp that the kind has is whole
fresh_lamps : (s : Entry) (l : ℕ) → l < lamp_count s.kind → lamp_flag (fresh_of s) l ≡ 1
fresh_lamps s l b = getD_tab 7 (λ l. bit (ltb l (lamp_count s.kind)) 1) 0 l (omega (arith, at_most_seven s.kind)) ∙ rw (lt-ltb _ _ b)

pub fresh_holds : (p : Plant) (i : ℕ) → Holds p [] i (fresh_of (entry p i))
unfolding log state count
fresh_holds p i = record {
  agree = record {
    kiosk = refl;
    operator = refl;
    countdown = refl;
    route = below4 _ refl refl refl refl;
    occupied = below4 _ refl refl refl refl;
    queue = below4 _ refl refl refl refl;
    unsure = below4 _ refl refl refl refl;
    boom = below4 _ refl refl refl refl;
    lamp = fresh_lamps (entry p i);
    stage = refl;
    out = refl;
  };
  timed = λ q. absurd (false≢true (sym q));
  even = refl;
}

module _ (p : Plant) (es : List Command) (x : Command) (i : ℕ) (c : Crossing) (k : Holds p es i c) where
  abbrev e : Event
  e = x.event

  abbrev s : Entry
  s = entry p i

  abbrev h : List Event
  h = log p i es

  abbrev more : List Command
  more = es ++ x ∷ []

  -- an event of this crossing whose place is a track is at one of four
  at_track : {n : ℕ} → s.tracks ≤ 4 → Accepted n s c e → (j : ℕ) → on_track j ≡ true → is j e ≡ true → e.place < 4
  unfolding place_limit
  at_track few a j on q = let b : e.place < s.tracks = rw (eqb-true e.code j q, on) at a.place in omega arith

  -- a refused event, or one of another crossing
  module _ (none : note (after p es) i x ≡ []) where
    same_log : log p i more ≡ h
    same_log = log_snoc p i es x ∙ rw none

    pub skipped : Holds p more i c
    skipped = record {
      agree = rw same_log k.agree;
      timed = rw same_log (λ q. let u = k.timed q in (u.0, goes_on p i u.0 es x u.1 (rw same_log (stands_now p i u.1)) (omega arith), u.2));
      even = rw same_log k.even;
    }

  -- an event of this crossing, or a tick: d is the record before it settles
  module _ (noted : note (after p es) i x ≡ e ∷ []) where
    longer_log : log p i more ≡ e ∷ h
    longer_log = log_snoc p i es x ∙ rw noted

    abbrev w : State
    w = worked s e (known p i es)

    settled : (add : ℕ) (d : Crossing) → bit (is 0 e) 1 ≡ add → Agree s d w → Even d w (e ∷ h) → (stands_after p i more ≡ true → Timed (λ n. Unbroken p i n more) s w.stage) → Holds p more i (settle s add d)
    unfolding settle state rested stands
    settled add d adds a v f = record {
      agree = rw (longer_log, adds) (settled_agree s add a);
      timed = rw longer_log (timed_settled s (λ n. Unbroken p i n more) _ _ w.stage (λ r. let st : stands_after p i more ≡ true = rw longer_log r in (begins p i more st, f st)));
      even = rw longer_log v;
    }

    stage_on_tick : e.code ≡ 0 → w.stage ≡ stage_ticked s (known p i es).stage
    unfolding worked
    stage_on_tick z = rw z

    pub ticked : e.code ≡ 0 → Holds p more i (settle s 1 (tick s c))
    unfolding count
    ticked z = settled 1 (tick s c) (rw z) (tick_agree s k.agree e z) (tick_even s k.agree e z h k.even)
        (λ st. rw (stage_on_tick z) (timed_tick s (λ n u. goes_on p i (suc n) es x u st one_more) (known p i es).stage k.timed))
      where
        one_more : {n : ℕ} → suc n ≤ n + count 0 (note (after p es) i x)
        one_more = rw noted (rw z (omega arith))

    pub acted : {n : ℕ} → is 0 e ≡ false → s.tracks ≤ 4 → Accepted n s c e → Holds p more i (settle s 0 (act s c e))
    unfolding worked
    acted nt few a = settled 0 (act s c e) (rw nt) (own_agree s k.agree e nt (at_track few a 1 refl)) (own_even s k.agree e nt (at_track few a) a.there h k.even)
        (λ st. rw nt (λ q. let u = k.timed q in (u.0, goes_on p i u.0 es x u.1 st (omega arith), u.2)))

  -- a taken event, of any crossing
  module _ (t : taken (after p es) x ≡ true) where
    pub touched : {n : ℕ} → s.tracks ≤ 4 → (eqb e.crossing i ≡ true → Accepted n s c e) → Holds p more i (touch s i c e)
    unfolding touch note
    touched few a = by_cond (Holds p more i) (is 0 e)
        (λ z. ticked (rw (t, z)) (eqb-true _ _ z))
        (λ z. by_cond (Holds p more i) (eqb e.crossing i)
        (λ o. acted (rw (t, z, o)) z few (a o))
        (λ o. skipped (rw (t, z, o))))

    -- what the ledger writes off for it is what the machine does
    pub written_touched : {n : ℕ} → s.tracks ≤ 4 → (eqb e.crossing i ≡ true → Accepted n s c e) → (known p i more).written ≡ (known p i es).written + written_at s i c e
    unfolding note state rested written_at
    written_touched few a = by_test (is 0 e)
        (λ z. rw (longer_log (rw (t, z)), z) (tick_written s k.agree e (eqb-true _ _ z)))
        (λ z. by_test (eqb e.crossing i)
        (λ o. rw (longer_log (rw (t, z, o)), z, o, and-true) (own_written s k.agree e z (at_track few (a o)) (a o).there))
        (λ o. rw (same_log (rw (t, z, o)), z, o, and-false, add-zero)))
