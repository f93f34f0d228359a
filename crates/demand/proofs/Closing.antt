-- Closing in time: while a reason stands and every boom is up, each tick brings a crossing nearer to all booms ordered down. The ledger shows it.
use mathlib.Core.Path.{◌≡◌, refl, sym, ◌∙◌, ap}
use mathlib.Core.Bool.{Bool, true, false, cond, ◌&&◌, false≢true}
use mathlib.Core.List.{List, [], ◌∷◌, ◌++◌, append_assoc, append-nil}
use Prim.Native.Nat.{ℕ, suc, ◌+◌, ◌-◌, pred, ◌≤◌}
use native.Mathlib.Omega.{arith}
use lib.Dec.{eqb}
use borrow.Author.Tests.{eqb-false}
use Rattle.machine.specs.declared.Entry.{Entry}
use Rattle.machine.specs.declared.Plant.{Plant}
use Rattle.machine.specs.declared.Event.{Event}
use Rattle.machine.specs.Events.{Command}
use Rattle.machine.specs.Plant.{entry}
use Rattle.machine.specs.Step.{after}
use Rattle.machine.proofs.Tools.{by_test, by_cond, and_both}
use Rattle.machine.proofs.Entries.{EntryIn, some_gap}
use Rattle.demand.specs.Words.{bit, is, no_booms, all_up}
use Rattle.demand.specs.Ledger.{taken, is_of, note, log, count, Stage, free, warns, lowers, shut, rises, ticked, settled, State, start, stands, worked, rested, state}
use Rattle.demand.specs.Demand.{known, stands_after, up_after, Ready, needed, soonest}
use Rattle.demand.proofs.Lists.{snoc_induction, after_append, log_snoc, count_append}
use Rattle.demand.proofs.Timing.{to_come}

-- the ticks to go before all booms are ordered down
abbrev to_go : Entry → Stage → ℕ
to_go s (free n) = n + bit (eqb n 0) 1 + needed s
to_go s (warns n) = to_come s (warns n)
to_go s (lowers n) = n
to_go s shut = 0
to_go s rises = suc (s.pause + needed s)

-- what is left or to come, as the settings allow it
abbrev Fits : Entry → Stage → Type 0
Fits s (free n) = n ≤ s.pause
Fits s (warns n) = (1 ≤ n) × (n ≤ s.pre)
Fits s (lowers n) = (1 ≤ n) × (n ≤ s.gap)
Fits s shut = 0 ≤ 0
Fits s rises = 0 ≤ 0

some : (n : ℕ) → 1 ≤ n + bit (eqb n 0) 1
some n = by_test (eqb n 0) (λ q. rw q (omega arith)) (λ q. let d : n ≡ 0 → ⊥ = eqb-false _ _ q in rw q (omega arith))

less : (n g : ℕ) → 1 ≤ n → pred n + g ≤ pred (n + g)
less n g l = omega arith

last : (n g : ℕ) → 1 ≤ n → g ≤ pred (n + g)
last n g l = omega arith

wait : (n b g : ℕ) → 1 ≤ n → pred n + 0 + g ≤ pred (n + b + g)
wait n b g l = omega arith

still : (n m : ℕ) → 1 ≤ n → n ≤ m → eqb n 1 ≡ false → (1 ≤ pred n) × (pred n ≤ m)
still n m l h q = let d : n ≡ 1 → ⊥ = eqb-false _ _ q in (omega arith, omega arith)

module _ (s : Entry) (g : EntryIn s) where
  -- the stage fits the settings after every log -----------------------------------------------------------------------------------
  fits_tick : (x : Stage) → Fits s x → Fits s (ticked s x)
  unfolding ticked
  fits_tick (free n) f = omega arith
  fits_tick (warns n) f = by_test (eqb n 1)
      (λ q. by_test (eqb s.kind 4) (λ k. rw (q, k) (some_gap g k, omega arith)) (λ k. rw (q, k) (omega arith)))
      (λ q. rw q (still n s.pre f.0 f.1 q))
  fits_tick (lowers n) f = by_test (eqb n 1) (λ q. rw q (omega arith)) (λ q. rw q (still n s.gap f.0 f.1 q))
  fits_tick shut f = f
  fits_tick rises f = f

  fits_warning : Fits s (warns s.pre)
  fits_warning = (g.some_pre, omega arith)

  fits_lifted : Fits s (cond (no_booms s.kind) (free s.pause) rises)
  fits_lifted = by_cond (Fits s) (no_booms s.kind) (λ _. omega arith) (λ _. omega arith)

  fits_settled : (stands up : Bool) (x : Stage) → Fits s x → Fits s (settled s stands up x)
  unfolding settled
  fits_settled stands up (free n) f = by_cond (Fits s) (stands && eqb n 0) (λ _. fits_warning) (λ _. f)
  fits_settled true up (warns n) f = f
  fits_settled false up (warns n) f = omega arith
  fits_settled true up (lowers n) f = f
  fits_settled false up (lowers n) f = fits_lifted
  fits_settled true up shut f = f
  fits_settled false up shut f = fits_lifted
  fits_settled stands true rises f = by_cond (Fits s) (stands && eqb s.pause 0) (λ _. fits_warning) (λ _. omega arith)
  fits_settled stands false rises f = f

  fits_worked : (e : Event) (k : State) → Fits s k.stage → Fits s (worked s e k).stage
  unfolding worked
  fits_worked e k f = by_cond (Fits s) (is 0 e) (λ _. fits_tick k.stage f) (λ _. f)

  fits : (h : List Event) → Fits s (state s h).stage
  unfolding state rested
  fits [] = omega arith
  fits (e ∷ h) = fits_settled _ _ _ (fits_worked e (state s h) (fits h))

  -- G counts with four booms alone
  gap : bit (eqb s.kind 4) s.gap ≤ s.gap
  gap = by_cond (λ y. y ≤ s.gap) (eqb s.kind 4) (λ _. omega arith) (λ _. omega arith)

  -- with a reason and every boom up ------------------------------------------------------------------------------------------------
  -- no step leads away
  nearer : (x : Stage) → to_go s (settled s true true x) ≤ to_go s x
  unfolding settled
  nearer (free n) = by_cond (λ y. to_go s y ≤ to_go s (free n)) (eqb n 0) (λ _. omega arith) (λ _. omega arith)
  nearer (warns n) = omega arith
  nearer (lowers n) = omega arith
  nearer shut = omega arith
  nearer rises = by_cond (λ y. to_go s y ≤ to_go s rises) (eqb s.pause 0) (λ _. omega arith) (λ q. rw q (omega arith))

  -- a tick leads on
  nearer_tick : (x : Stage) → Fits s x → to_go s (settled s true true (ticked s x)) ≤ pred (to_go s x)
  unfolding ticked settled
  nearer_tick (free n) f = by_cond (λ y. to_go s y ≤ pred (to_go s (free n))) (eqb (pred n) 0)
      (λ _. last (n + bit (eqb n 0) 1) (needed s) (some n))
      (λ q. let d : pred n ≡ 0 → ⊥ = eqb-false _ _ q in rw q (wait n (bit (eqb n 0) 1) (needed s) (omega arith)))
  nearer_tick (warns n) f = by_cond (λ y. to_go s (settled s true true y) ≤ pred (to_go s (warns n))) (eqb n 1)
      (λ _. by_cond (λ y. to_go s (settled s true true y) ≤ pred (to_go s (warns n))) (eqb s.kind 4) (λ k. rw k (last n s.gap f.0)) (λ _. omega arith))
      (λ _. less n _ f.0)
  nearer_tick (lowers n) f = by_cond (λ y. to_go s (settled s true true y) ≤ pred n) (eqb n 1) (λ _. omega arith) (λ _. omega arith)
  nearer_tick shut f = omega arith
  nearer_tick rises f = by_cond (λ y. to_go s y ≤ pred (to_go s rises)) (eqb s.pause 0) (λ _. omega arith) (λ q. rw q (omega arith))

  -- after settling M + F + G ticks are enough
  at_most : (x : Stage) → Fits s x → to_go s (settled s true true x) ≤ soonest s
  unfolding settled
  at_most (free n) f = by_cond (λ y. to_go s y ≤ soonest s) (eqb n 0) (λ _. omega (arith, gap)) (λ q. rw q (omega (arith, gap)))
  at_most (warns n) f = omega (arith, gap)
  at_most (lowers n) f = omega arith
  at_most shut f = omega arith
  at_most rises f = by_cond (λ y. to_go s y ≤ soonest s) (eqb s.pause 0) (λ _. omega (arith, gap)) (λ q. rw q (omega (arith, gap)))

  -- none to go: all booms are ordered down
  none_to_go : (x : Stage) → Fits s x → to_go s x ≤ 0 → x ≡ shut
  none_to_go (free n) f z = absurd (omega (arith, some n))
  none_to_go (warns n) f z = absurd (omega arith)
  none_to_go (lowers n) f z = absurd (omega arith)
  none_to_go shut f z = refl
  none_to_go rises f z = absurd (omega arith)

-- settling, where a reason stands and every boom is up ------------------------------------------------------------------------------
module _ (s : Entry) (add : ℕ) (k : State) where
  same_reason : stands (rested s add k) ≡ stands k
  unfolding rested stands
  same_reason = refl

  ready_settles : stands (rested s add k) ≡ true → all_up s.kind (rested s add k).boom ≡ true → (rested s add k).stage ≡ settled s true true k.stage
  unfolding rested
  ready_settles r u = rw (sym same_reason ∙ r, u)

by_one : (a b : ℕ) → a ≤ pred b → a ≤ b - (1 + 0)
by_one a b l = omega arith

by_none : (a b : ℕ) → a ≤ b → a ≤ b - 0
by_none a b l = omega arith

-- before any event no reason stands
none : stands start ≡ true → ⊥
unfolding stands
none q = false≢true q

module _ (s : Entry) (g : EntryIn s) where
  at_first : (h : List Event) → stands (state s h) ≡ true → all_up s.kind (state s h).boom ≡ true → to_go s (state s h).stage ≤ soonest s
  unfolding state
  at_first [] r u = absurd (none r)
  at_first (e ∷ h) r u = let w = worked s e (state s h) in rw (ready_settles s _ w r u) (at_most s g w.stage (fits_worked s g e (state s h) (fits s g h)))

  -- one more event
  one_more : (e : Event) (h : List Event) → stands (state s (e ∷ h)) ≡ true → all_up s.kind (state s (e ∷ h)).boom ≡ true
      → to_go s (state s (e ∷ h)).stage ≤ to_go s (state s h).stage - count 0 (e ∷ [])
  unfolding state worked count
  one_more e h r u = let x = (state s h).stage in rw (ready_settles s _ (worked s e (state s h)) r u) (by_test (is 0 e)
      (λ z. rw z (by_one _ (to_go s x) (nearer_tick s g x (fits s g h))))
      (λ z. rw z (by_none _ (to_go s x) (nearer s g x))))

module _ (p : Plant) (i : ℕ) (g : EntryIn (entry p i)) where
  abbrev s : Entry
  s = entry p i

  abbrev to_go_after : List Command → ℕ
  to_go_after es = to_go s (known p i es).stage

  abbrev ready : List Command → Bool
  ready es = stands_after p i es && up_after p i es

  one_command : (es : List Command) (x : Command) → ready (es ++ x ∷ []) ≡ true → to_go_after (es ++ x ∷ []) ≤ to_go_after es - count 0 (note (after p es) i x)
  unfolding note count
  one_command es x q = by_test (taken (after p es) x && is_of i x.event)
      (λ t.
      let longer : log p i (es ++ x ∷ []) ≡ x.event ∷ log p i es = log_snoc p i es x ∙ rw t in
      let r = and_both (stands_after p i (es ++ x ∷ [])) (up_after p i (es ++ x ∷ [])) q in
      rw (longer, t) (one_more s g x.event (log p i es) (rw longer at r.0) (rw longer at r.1)))
      (λ f. let same : log p i (es ++ x ∷ []) ≡ log p i es = log_snoc p i es x ∙ rw f in rw (same, f) (by_none _ _ (omega arith)))

  within : (older latest : List Command) → ((a b : List Command) → latest ≡ a ++ b → ready (older ++ a) ≡ true)
      → to_go_after (older ++ latest) ≤ soonest s - count 0 (log (after p older) i latest)
  unfolding log count
  within older = snoc_induction (λ latest. ((a b : List Command) → latest ≡ a ++ b → ready (older ++ a) ≡ true) → to_go_after (older ++ latest) ≤ soonest s - count 0 (log (after p older) i latest))
      (λ f.
      let r = and_both (stands_after p i older) (up_after p i older) (rw append-nil at (f [] [] refl)) in
      rw append-nil (by_none _ _ (at_first s g (log p i older) r.0 r.1)))
      (λ latest x ih f.
      let whole : older ++ (latest ++ x ∷ []) ≡ (older ++ latest) ++ x ∷ [] = sym (append_assoc older latest (x ∷ [])) in
      let before = ih (λ a b q. f a (b ++ x ∷ []) (ap (λ l. l ++ x ∷ []) q ∙ append_assoc a b (x ∷ []))) in
      let step = one_command (older ++ latest) x (rw whole at (f (latest ++ x ∷ []) [] (sym (append-nil _)))) in
      let same : after (after p older) latest ≡ after p (older ++ latest) = sym (after_append p older latest) in
      let grown = ap (count 0) (log_snoc (after p older) i latest x) ∙ count_append 0 (note (after (after p older) latest) i x) _ in
      rw whole (omega (arith, before, step, rw same at grown)))

  pub in_time : {k : ℕ} (es : List Command) → soonest s ≤ k → Ready p i k es → (known p i es).stage ≡ shut
  in_time es l u =
      let b = rw (← u.split) at (within u.older u.latest u.stood) in
      none_to_go s g (known p i es).stage (fits s g (log p i es)) (omega (arith, b, u.enough))
