-- What an event does to a crossing as stores into its arrays, with the code, the place and the value as parameters.
use mathlib.Core.Path.{◌≡◌, refl, ◌∙◌}
use mathlib.Core.Bool.{Bool, true, false, cond, not, ◌&&◌, and-true, and-false}
use mathlib.Core.List.{List}
use Prim.Native.Nat.{ℕ, ◌+◌, ◌-◌, pred}
use lib.Dec.{eqb}
use lib.ListN.{length, get_or, set}
use lib.Seq.{set-get_or}
use Rattle.machine.specs.declared.Entry.{Entry}
use Rattle.machine.specs.declared.Crossing.{Crossing}
use Rattle.machine.specs.declared.Event.{Event}
use Rattle.machine.specs.Common.{tab, bit}
use Rattle.machine.specs.Plant.{release_ticks, calling, waiting}
use Rattle.machine.specs.Events.{is}
use Rattle.machine.specs.Effects.{calls, sweeps, calling_after, waiting_after, unsure_after, cancels, act}
use Rattle.machine.proofs.Tools.{tab_same, tab_getD, tab_set}
use Rattle.form.specs.Forms.{Sized}

-- A table that changes at one place ------------------------------------------------------------------------------------------------
module _ {A : Type 0} (n : ℕ) (l : List A) (d : A) (i : ℕ) (len : length l ≡ n) where
  -- away from the place, what the test picks does not count
  elsewhere : (q : Bool) (x : A) {y z : A} → (q ≡ false → y ≡ z) → cond q x y ≡ cond q x z
  elsewhere true x h = refl
  elsewhere false x h = h refl

  -- v at place i where b holds, over what else the table does there
  layer : (b : Bool) (v g : ℕ → A) {m : List A} → ((t : ℕ) → eqb i t ≡ false → g t ≡ get_or l t d) → tab n g ≡ m → tab n (λ t. cond (b && eqb i t) (v t) (g t)) ≡ cond b (set l i (v i)) m
  layer true v g h k = tab_same n _ _ (λ t _. elsewhere (eqb i t) (v t) (h t)) ∙ tab_set n l d i v len
  layer false v g h k = k

  unchanged : tab n (λ t. get_or l t d) ≡ l
  unchanged = tab_getD n l d len

  stored : (b : Bool) (v : ℕ → A) → tab n (λ t. cond (b && eqb i t) (v t) (get_or l t d)) ≡ cond b (set l i (v i)) l
  stored b v = layer b v (λ t. get_or l t d) (λ t _. refl) unchanged

  stored_if : (b w : Bool) (v : ℕ → A) → tab n (λ t. cond (b && eqb i t && w) (v t) (get_or l t d)) ≡ cond (b && w) (set l i (v i)) l
  stored_if true true v = simp and-true (tab_set n l d i v len)
  stored_if true false v = simp and-false unchanged
  stored_if false w v = unchanged

  -- where b holds the list stays
  left : (b : Bool) (g : ℕ → A) {m : List A} → tab n g ≡ m → tab n (λ t. cond b (get_or l t d) (g t)) ≡ cond b l m
  left true g k = unchanged
  left false g k = k

  -- a strike-in on a full track, a strike-in, a passage, a route set
  queue : (b0 b1 b2 b5 w : Bool) (v1 v2 v5 : ℕ → A) →
      tab n (λ t. cond b0 (get_or l t d) (cond (b1 && eqb i t) (v1 t) (cond (b2 && eqb i t) (v2 t) (cond (b5 && eqb i t && w) (v5 t) (get_or l t d)))))
      ≡ cond b0 l (cond b1 (set l i (v1 i)) (cond b2 (set l i (v2 i)) (cond (b5 && w) (set l i (v5 i)) l)))
  queue b0 b1 b2 b5 w v1 v2 v5 =
      left b0 _
      (layer b1 v1 _ (λ t q. rw (q, and-false b2, and-false b5) refl)
      (layer b2 v2 _ (λ t q. rw (q, and-false b5) refl)
      (stored_if b5 w v5)))

-- a store of what stands there
set_kept : {A : Type 0} (l : List A) (i : ℕ) (d : A) {v : A} → get_or l i d ≡ v → set l i v ≡ l
set_kept l i d h = rw (← h) (set-get_or l i d)

-- A crossing of its size ------------------------------------------------------------------------------------------------------------
module _ (s : Entry) (c : Crossing) (e : Event) where
  abbrev at : ℕ
  at = e.place

  abbrev on : Bool
  on = eqb e.value 1

  -- the crossing after an event, in stores
  abbrev pub stores : Crossing
  stores = record {
    calling =
        cond (sweeps c e) c.calling
        (cond (is 1 e) (set c.calling at (calling c at + bit (calls s c at) 1))
        (cond (is 2 e) (set c.calling at (pred (calling c at)))
        (cond (is 5 e && on) (set c.calling at (calling c at + waiting c at))
        c.calling)));
    waiting =
        cond (sweeps c e) c.waiting
        (cond (is 1 e) (set c.waiting at (waiting c at + bit (not (calls s c at)) 1))
        (cond (is 2 e) (set c.waiting at (waiting c at - bit (eqb (calling c at) 0) 1))
        (cond (is 5 e && on) (set c.waiting at 0)
        c.waiting)));
    route = cond (is 5 e) (set c.route at e.value) c.route;
    occupied = cond (is 6 e) (set c.occupied at e.value) c.occupied;
    unsure = cond (sweeps c e) (set c.unsure at 1) c.unsure;
    booms = cond (is 8 e) (set c.booms at e.value) c.booms;
    lamps = cond (is 9 e) (set c.lamps at e.value) c.lamps;
    kiosk = cond (is 3 e) e.value c.kiosk;
    operator = cond (is 4 e) e.value c.operator;
    countdown = cond (is 7 e) release_ticks (cond (cancels e) 0 c.countdown);
    phase = c.phase;
    timer = c.timer;
    left = c.left;
    out = c.out;
  }

  pub act_sized : Sized c → act s c e ≡ stores
  unfolding act calling_after waiting_after unsure_after
  act_sized z = simp (
    queue 4 c.calling 0 at z.calling (sweeps c e) (is 1 e) (is 2 e) (is 5 e) on (λ t. calling c t + bit (calls s c t) 1) (λ t. pred (calling c t)) (λ t. calling c t + waiting c t),
    queue 4 c.waiting 0 at z.waiting (sweeps c e) (is 1 e) (is 2 e) (is 5 e) on (λ t. waiting c t + bit (not (calls s c t)) 1) (λ t. waiting c t - bit (eqb (calling c t) 0) 1) (λ t. 0),
    stored 4 c.route 0 at z.route (is 5 e) (λ t. e.value),
    stored 4 c.occupied 0 at z.occupied (is 6 e) (λ t. e.value),
    stored 4 c.unsure 0 at z.unsure (sweeps c e) (λ t. 1),
    stored 4 c.booms 0 at z.booms (is 8 e) (λ t. e.value),
    stored 7 c.lamps 0 at z.lamps (is 9 e) (λ t. e.value),
  )

  -- a passage where no train is calling
  abbrev waited : Crossing
  waited = record {
    calling = c.calling;
    waiting = set c.waiting at (waiting c at - 1);
    route = c.route;
    occupied = c.occupied;
    unsure = c.unsure;
    booms = c.booms;
    lamps = c.lamps;
    kiosk = c.kiosk;
    operator = c.operator;
    countdown = c.countdown;
    phase = c.phase;
    timer = c.timer;
    left = c.left;
    out = c.out;
  }

  pub passage_sized : Sized c → e.code ≡ 2 → calling c at ≡ 0 → act s c e ≡ waited
  unfolding cancels
  passage_sized z k none = simp (act_sized z, k, none, set_kept c.calling at 0 none)

  -- a route set
  abbrev routed : Crossing
  routed = record {
    calling = set c.calling at (calling c at + waiting c at);
    waiting = set c.waiting at 0;
    route = set c.route at e.value;
    occupied = c.occupied;
    unsure = c.unsure;
    booms = c.booms;
    lamps = c.lamps;
    kiosk = c.kiosk;
    operator = c.operator;
    countdown = 0;
    phase = c.phase;
    timer = c.timer;
    left = c.left;
    out = c.out;
  }

  pub route_sized : Sized c → e.code ≡ 5 → on ≡ true → act s c e ≡ routed
  unfolding cancels
  route_sized z k v = simp (act_sized z, k, v)
