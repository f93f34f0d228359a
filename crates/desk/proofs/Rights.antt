-- Rights (T-04), proved: the table cell by cell, then the chain of numbers with the right and without it.
use mathlib.Core.Path.{◌≡◌, refl, sym, ◌∙◌, ap}
use mathlib.Core.Bool.{Bool, true, false, not, ◌&&◌, true≢false}
use mathlib.Core.List.{List, [], ◌∷◌, ◌++◌}
use Prim.Native.Nat.{ℕ, zero, suc, ◌+◌, ◌≤◌, ◌<◌}
use native.Mathlib.Omega.{arith}
use native.Mathlib.Nat.{le_trans}
use lib.Dec.{eqb, ltb, leb, lit≤}
use lib.ListN.{get_or, length}
use borrow.Author.Tests.{ltb-true, ltb-false, leb-true, le-leb, lt-leb, ne_eqb}
use Rattle.machine.specs.Common.{all_below}
use Rattle.machine.specs.declared.Entry.{Entry}
use Rattle.machine.specs.declared.Crossing.{Crossing}
use Rattle.machine.specs.declared.Plant.{Plant}
use Rattle.machine.specs.declared.Event.{Event}
use Rattle.machine.specs.Plant.{trains, entry, crossing, dependent}
use Rattle.machine.specs.Range.{in_range}
use Rattle.machine.specs.Rights.{may_send}
use Rattle.machine.specs.Events.{sender, Command, listed, sent, is, is_to, crossing_limit, place_limit, value_limit, any_calling, blocked, is_known, entitled, refusal, number}
use Rattle.machine.specs.Step.{step, after, carried}
use Rattle.machine.specs.Sheet.{counted, ran}
use Rattle.machine.proofs.Tools.{by_test, below4, all_below_at}
use Rattle.machine.proofs.Chain.{Told, told}
use Rattle.machine.proofs.Taken.{refused_answer, answer_number, right_number}
use Rattle.desk.proofs.Tests.{agree, agrees}
use Rattle.desk.specs.Rights.{table, granted, without, first, Rights}

-- The table ------------------------------------------------------------------------------------------------------------------------
past : {A : Type 0} (l : List A) (k : ℕ) (d : A) → length l ≤ k → get_or l k d ≡ d
past [] k d h = refl
past (x ∷ l) zero d h = absurd (omega arith)
past (x ∷ l) (suc k) d h = past l k d (omega arith)

-- none of the four senders
unknown_granted : (k code value : ℕ) → 3 < k → granted k code value ≡ false
unfolding table
unknown_granted k code value l = rw (past table k [] (omega arith))

four_known : (k : ℕ) → k ≤ 3 → is_known (sender k) ≡ true
unfolding is_known
four_known k l = le-leb k 3 l

others_unknown : (k : ℕ) → 3 < k → is_known (sender k) ≡ false
unfolding is_known
others_unknown k l = lt-leb k 3 l

-- the ten cells of a sender
abbrev Row : ℕ → ℕ → Type 0
Row value k = all_below 10 (λ code. agree (granted k code value) (may_send k code value)) ≡ true

row : (value k : ℕ) → k < 4 → Row value k
unfolding table may_send
row value = by_test (eqb value 1) (λ q. below4 (Row value) refl refl refl (rw q)) (λ q. below4 (Row value) refl refl refl (rw q))

same_right : (k code value : ℕ) → k < 4 → code < 10 → granted k code value ≡ may_send k code value
same_right k code value l b = agrees _ _ (all_below_at 10 (λ c. agree (granted k c value) (may_send k c value)) (row value k l) code b)

-- The chain of numbers -------------------------------------------------------------------------------------------------------------
module _ (n : ℕ) (s : Entry) (c : Crossing) (e : Event) where
  refusal_told : Told (refusal n s c true e) (refusal n s c false e)
  unfolding refusal
  refusal_told = told (ltb 9 e.code) (leb (crossing_limit n e.code) e.crossing) (leb (place_limit s e.code) e.place) (leb (value_limit e.code) e.value)
      (is 5 e && not (dependent s e.place)) (is 2 e && eqb (trains c e.place) 0) (is_to 4 0 e && any_calling c) (is 7 e && blocked c)

  at_most_13 : refusal n s c true e ≤ 13
  at_most_13 = leb-true _ _ refusal_told.1.0

  below_15 : eqb (refusal n s c true e) 15 ≡ false
  below_15 = ne_eqb (refusal n s c true e) 15 (λ z. omega (arith, at_most_13, z))

  -- an unknown code has no right to ask for
  unknown_code : (a b : Bool) → ltb 9 e.code ≡ true → refusal n s c a e ≡ refusal n s c b e
  unfolding refusal
  unknown_code a b q = rw q

-- One event ------------------------------------------------------------------------------------------------------------------------
module _ (p : Plant) (k : ℕ) (e : Event) where
  -- of one of the four senders and of the table
  may_as : k ≤ 3 → ltb 9 e.code ≡ false → granted k e.code e.value ≡ entitled (sent k e).from e
  unfolding entitled
  may_as l q = let b : e.code ≤ 9 = ltb-false _ _ q in same_right k e.code e.value (omega arith) (omega arith)

  right_as : granted k e.code e.value ≡ true → number p (sent k e) ≡ number p (listed e)
  unfolding number is_known entitled
  right_as g = by_test (ltb 3 k)
      (λ u. absurd (true≢false (sym g ∙ unknown_granted k e.code e.value (ltb-true _ _ u))))
      (λ u. let l : k ≤ 3 = ltb-false _ _ u in by_test (ltb 9 e.code)
      (λ q. rw (four_known k l, unknown_code _ _ _ e (may_send k e.code e.value) true q))
      (λ q. right_number p (sent k e) (four_known k l) (sym (may_as l q) ∙ g)))

  none_number : granted k e.code e.value ≡ false → number p (sent k e) ≡ without k (number p (listed e))
  unfolding number is_known entitled
  none_number g = by_test (in_range p)
      (λ r. by_test (ltb 3 k)
      (λ u. rw (r, u, others_unknown k (ltb-true 3 k u), below_15 p.site.n (entry p e.crossing) (crossing p e.crossing) e))
      (λ u. let l : k ≤ 3 = ltb-false _ _ u in
      let t = (refusal_told p.site.n (entry p e.crossing) (crossing p e.crossing) e).0 in
      by_test (ltb 9 e.code)
      (λ q. rw (r, u, four_known k l, below_15 _ _ _ e) (unknown_code _ _ _ e (may_send k e.code e.value) false q ∙ t))
      (λ q. let m : may_send k e.code e.value ≡ false = sym (may_as l q) ∙ g in rw (r, u, four_known k l, below_15 _ _ _ e, m) t)))
      (λ r. rw r)

-- The claim ------------------------------------------------------------------------------------------------------------------------
unsent_number : (p : Plant) (e : Event) → number p (listed e) ≤ 15
unfolding number is_known entitled
unsent_number p e = by_test (in_range p)
    (λ r. rw r (le_trans (at_most_13 p.site.n (entry p e.crossing) (crossing p e.crossing) e) (lit≤ tt)))
    (λ r. rw r (lit≤ tt))

-- it is a number of a refusal
some_number : (k m : ℕ) → without k m ≡ 0 → ⊥
some_number k m = by_test (eqb m 15)
    (λ a. rw a (λ z. omega arith))
    (λ a. by_test (ltb 3 k)
    (λ b. rw (a, b) (λ z. omega arith))
    (λ b. by_test (leb 5 m)
    (λ c. let l = leb-true 5 m c in by_test (leb m 8) (λ d. rw (a, b, c, d) (λ z. omega arith)) (λ d. rw (a, b, c, d) (λ z. omega arith)))
    (λ c. rw (a, b, c) (λ z. omega arith))))

after_more : (p : Plant) (l : List Command) (x : Command) → after p (l ++ x ∷ []) ≡ (step (after p l) x).plant
unfolding after
after_more p [] x = refl
after_more p (y ∷ l) x = after_more (step p y).plant l x

carried_more : (p : Plant) (l : List Command) (x : Command) → carried p (l ++ x ∷ []) ≡ carried p l + (step (after p l) x).written
unfolding after carried
carried_more p [] x = omega arith
carried_more p (y ∷ l) x = let h = carried_more (step p y).plant l x in omega arith

run_after : (p : Plant) (f : ℕ → Event) (k : ℕ) → (ran p f k).plant ≡ after p (first f k)
unfolding ran counted first after
run_after p f zero = refl
run_after p f (suc k) = ap (λ q. (step q (listed (f k))).plant) (run_after p f k) ∙ sym (after_more p (first f k) (listed (f k)))

run_carries : (p : Plant) (f : ℕ → Event) (k : ℕ) → (ran p f k).written ≡ carried p (first f k)
unfolding ran counted first carried
run_carries p f zero = refl
run_carries p f (suc k) = rw (run_carries p f k, run_after p f k) (sym (carried_more p (first f k) (listed (f k))))

pub rights : Rights
unfolding step
rights = record {
  right = λ p k e g. rw (right_as p k e g);
  none = λ p k e g.
      let n = none_number p k e g in
      refused_answer p (sent k e) (λ z. some_number k (number p (listed e)) (sym n ∙ z)) ∙ rw (n, answer_number p (listed e));
  sheet = λ p e. rw (answer_number p (listed e)) (unsent_number p e);
  run = λ p f k. (run_after p f k, run_carries p f k);
}
