-- One event of the machine as the code takes it: by the entry and the crossing at one place of its arrays.
use mathlib.Core.Path.{◌≡◌, refl, sym, ◌∙◌}
use Rattle.std.specs.Prelude.{Result, Ok, Err, IsErrAnd}
use mathlib.Core.Bool.{Bool, true, false, and-true, and-false}
use mathlib.Core.List.{List}
use Prim.Native.Nat.{ℕ, ◌%◌, ◌≤◌, ◌<◌}
use native.Mathlib.Nat.{mod-eq_of_lt}
use native.Mathlib.Omega.{arith}
use lib.Dec.{eqb, ltb, leb}
use lib.ListN.{length, get_or, set}
use borrow.Author.Tests.{ltb-true, ltb-false, le-leb, eq-eqb}
use Rattle.machine.specs.declared.Entry.{Entry}
use Rattle.machine.specs.declared.Crossing.{Crossing}
use Rattle.machine.specs.declared.Plant.{Plant}
use Rattle.machine.specs.declared.Event.{Event}
use Rattle.machine.specs.Plant.{no_entry, no_crossing, entry, crossing}
use Rattle.machine.specs.Range.{in_range}
use Rattle.machine.specs.Events.{Command, is, crossing_limit, is_known, entitled, refusal, number}
use Rattle.machine.specs.Common.{bit}
use Rattle.machine.specs.Effects.{sweeps, act, written_at}
use Rattle.machine.specs.Settling.{settle}
use Rattle.machine.specs.Step.{touch, apply, written, step}
use Rattle.machine.proofs.Tools.{by_test, by_cond, sum_at, tab_set}
use Rattle.machine.proofs.Ranges.{plant_reads, entry_of}
use Rattle.machine.proofs.Taken.{taken_answer, refused_answer, taken_tests, taken_accepted, taken_crossing}
use Rattle.refusal.specs.declared.Refusal.{Refusal}
use Rattle.refusal.specs.Numbers.{hut_number}
use Rattle.refusal.proofs.Numbers.{never_0}
use Rattle.event.specs.declared.Taken.{Taken}
use Rattle.event.specs.Answers.{answer_of}
use Rattle.plant.proofs.Laws.{unread, crossing_read}
use Rattle.train.specs.Room.{Room}
use Rattle.train.proofs.Taken.{taken_room}
use Rattle.plant_tick.specs.Ticks.{ticked_plant}

-- a crossing that the plant lacks is refused before anything is read there
unknown_at : (n : ℕ) (s z : Entry) (c d : Crossing) (may : Bool) (e : Event) → leb (crossing_limit n e.code) e.crossing ≡ true → refusal n s c may e ≡ refusal n z d may e
unfolding refusal
unknown_at n s z c d may e q = rw q

limit_below : (n code : ℕ) → n ≤ 8 → crossing_limit n code ≤ 8
limit_below n code h = by_cond (λ x. x ≤ 8) (eqb code 0) (λ _. omega arith) (λ _. h)

-- so that the entry and the crossing may be read at the event's crossing modulo 8
pub refusal_at : (n : ℕ) (entries : List Entry) (crossings : List Crossing) (may : Bool) (e : Event) → n ≤ 8 →
    refusal n (get_or entries (e.crossing % 8) no_entry) (get_or crossings (e.crossing % 8) no_crossing) may e
    ≡ refusal n (get_or entries e.crossing no_entry) (get_or crossings e.crossing no_crossing) may e
refusal_at n entries crossings may e h = by_test (ltb e.crossing 8)
    (λ q. let l : e.crossing < 8 = ltb-true _ _ q in rw (mod-eq_of_lt l))
    (λ q. let l : 8 ≤ e.crossing = ltb-false _ _ q in let m = limit_below n e.code h in
    unknown_at n _ _ _ _ may e (le-leb (crossing_limit n e.code) e.crossing (omega arith)))

module _ (p : Plant) (x : Command) where
  abbrev e : Event
  e = x.event

  pub number_spoilt : in_range p ≡ false → number p x ≡ 15
  unfolding number
  number_spoilt q = rw q

  pub number_unknown : in_range p ≡ true → is_known x.from ≡ false → number p x ≡ 16
  unfolding number
  number_unknown q k = rw (q, k)

  -- in range and of a known sender, the number is the event's own
  number_own : in_range p ≡ true → is_known x.from ≡ true → number p x ≡ refusal p.site.n (entry p e.crossing) (crossing p e.crossing) (entitled x.from e) e
  unfolding number
  number_own q k = rw (q, k)

  -- a taken tick
  pub tick_step : number p x ≡ 0 → e.code ≡ 0 → step p x ≡ record {
    number = 0;
    written = (ticked_plant p).written;
    plant = record { site = p.site; beat = (ticked_plant p).beat; crossings = (ticked_plant p).crossings };
  }
  unfolding apply written written_at touch
  tick_step q k = taken_answer p x q ∙ rw k

  pub own_below : number p x ≡ 0 → is 0 e ≡ false → e.crossing < 8
  own_below q k =
      let n = (plant_reads p (taken_tests p x q).range).count in
      let l = taken_crossing p x q k in
      omega arith

  -- an event of one crossing writes off trains there alone
  own_written : number p x ≡ 0 → is 0 e ≡ false → written p e ≡ bit (sweeps (crossing p e.crossing) e) 1
  unfolding written written_at
  own_written q k =
      sum_at (λ i. written_at (entry p i) i (crossing p i) e) 8 e.crossing (own_below q k) (λ i l o. rw (k, o, and-false))
      ∙ rw (k, eq-eqb e.crossing e.crossing refl, and-true)

  -- a taken event of one crossing
  pub own_step : length p.crossings ≡ 8 → number p x ≡ 0 → is 0 e ≡ false → step p x ≡ record {
    number = 0;
    written = bit (sweeps (crossing p e.crossing) e) 1;
    plant = record { site = p.site; beat = p.beat; crossings = set p.crossings e.crossing (settle (entry p e.crossing) 0 (act (entry p e.crossing) (crossing p e.crossing) e)) };
  }
  unfolding apply touch
  own_step len q k = taken_answer p x q ∙ simp (own_written q k, k, tab_set 8 p.crossings no_crossing e.crossing (λ i. settle (entry p i) 0 (act (entry p i) (crossing p i) e)) len)

  pub own_room : number p x ≡ 0 → is 0 e ≡ false → Room (crossing p e.crossing) e
  own_room q k =
      let h = plant_reads p (taken_tests p x q).range in
      let l = taken_crossing p x q k in
      taken_room p.site.n (entry p e.crossing) (crossing p e.crossing) e (entry_of h e.crossing l) (h.used e.crossing l) (taken_accepted p x q e.crossing (eq-eqb e.crossing e.crossing refl))

  -- the number by what stands at the event's crossing modulo 8, and by its right, is the event's number
  pub judged : (k : ℕ) (may : Bool) → length p.crossings ≡ 8 → in_range p ≡ true → is_known x.from ≡ true → may ≡ entitled x.from e
      → k ≡ refusal p.site.n (get_or p.site.entries (e.crossing % 8) no_entry) (get_or p.crossings (e.crossing % 8) unread) may e
      → k ≡ number p x
  judged k may len q known r j =
      let l : e.crossing % 8 < length p.crossings = omega arith in
      let at = refusal_at p.site.n p.site.entries p.crossings may e (plant_reads p q).count in
      j ∙ rw (crossing_read p.crossings (e.crossing % 8) l, at, r, number_own q known)

  -- a refusal with the event's number is the machine's answer
  pub refused_by : (result : Result Taken Refusal) (refusal : Refusal) → IsErrAnd result (λ r. r ≡ refusal) → hut_number refusal ≡ number p x → answer_of p result ≡ step p x
  refused_by (Ok t) refusal q n = absurd q
  refused_by (Err r) refusal q n = rw (q, n) (sym (refused_answer p x (λ z. never_0 refusal (n ∙ z))))
