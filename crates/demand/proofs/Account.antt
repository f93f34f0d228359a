-- The train account of a crossing, over a tick and over an event of its own.
use mathlib.Core.Path.{◌≡◌, refl, sym, ap}
use mathlib.Core.Bool.{Bool, true, false, cond, ◌&&◌}
use mathlib.Core.List.{List, ◌∷◌}
use Prim.Native.Nat.{ℕ, ◌+◌, ◌<◌}
use native.Mathlib.Omega.{arith}
use lib.Dec.{eqb, lit<}
use Rattle.machine.specs.Common.{bit, sum4}
use Rattle.machine.specs.declared.Entry.{Entry}
use Rattle.machine.specs.declared.Crossing.{Crossing}
use Rattle.machine.specs.declared.Event.{Event}
use Rattle.machine.specs.Plant.{calling, waiting, trains, is_full, total}
use Rattle.machine.specs.Events.{is, is_at, on_track}
use Rattle.machine.specs.Effects.{sweeps, calling_after, waiting_after, act, releases, tick}
use Rattle.machine.proofs.Tools.{and_both, below4}
use Rattle.machine.proofs.Trains.{trains_after}
use Rattle.demand.specs.Ledger.{count, State, trains as all_trains, worked}
use Rattle.demand.proofs.Agree.{Agree, same_sweep, same_release}

-- a mark at one place of four
one_hot : (b : Bool) (place : ℕ) → (b ≡ true → place < 4) → sum4 (λ t. bit (b && eqb place t) 1) ≡ bit b 1
one_hot true place f = below4 (λ x. sum4 (λ t. bit (eqb x t) 1) ≡ 1) refl refl refl refl place (f refl)
one_hot false place f = refl

-- strike-ins taken = passages taken + trains written off + trains there
abbrev pub Even : Crossing → State → List Event → Type 0
Even c k h = count 1 h ≡ count 2 h + k.written + total c

module _ (s : Entry) {c : Crossing} {k : State} (a : Agree s c k) (e : Event) where
  -- an event of this crossing: at a track where its code asks for one, and a passage of a train that is there
  module _ (not_tick : is 0 e ≡ false) (placed : (k : ℕ) → on_track k ≡ true → is k e ≡ true → e.place < 4) (there : is 2 e ≡ true → 0 < trains c e.place) where
    -- what the ledger writes off for it is what the machine does: 1 where it sweeps
    pub own_written : (worked s e k).written ≡ k.written + bit (sweeps c e) 1
    unfolding worked
    own_written = rw (not_tick, ← same_sweep s a e (placed 1 refl)) (omega arith)

    own_total : total (act s c e) + bit (is 2 e) 1 + bit (sweeps c e) 1 ≡ total c + bit (is 1 e) 1
    unfolding act
    own_total = omega (
      arith,
      at 0,
      at 1,
      at 2,
      at 3,
      one_hot (is 1 e) e.place (placed 1 refl),
      one_hot (is 2 e) e.place (placed 2 refl),
      one_hot (sweeps c e) e.place (λ q. placed 1 refl (and_both (is 1 e) (is_full c e.place) q).0),
    )
      where
        at : (t : ℕ) → calling_after s c e t + waiting_after s c e t + bit (is_at 2 t e) 1 + bit (sweeps c e && eqb e.place t) 1 ≡ trains c t + bit (is_at 1 t e) 1
        at t = trains_after s c e t there

    pub own_even : (h : List Event) → Even c k h → Even (act s c e) (worked s e k) (e ∷ h)
    unfolding count
    own_even h v = omega (arith, own_written, own_total)

  -- a tick
  module _ (z : e.code ≡ 0) where
    -- what the ledger writes off is what the machine does: every train where a release completes
    pub tick_written : (worked s e k).written ≡ k.written + bit (releases s c) (total c)
    unfolding worked
    tick_written = rw (z, same, ← same_release s a e) (omega arith)
      where
        at : (t : ℕ) → t < 4 → (k.queue t).calling + (k.queue t).waiting ≡ trains c t
        at t b = sym (ap (λ q. q.calling + q.waiting) (a.queue t b))

        same : all_trains k ≡ total c
        same = omega (arith, at 0 (lit< tt), at 1 (lit< tt), at 2 (lit< tt), at 3 (lit< tt))

    tick_total : total (tick s c) + bit (releases s c) (total c) ≡ total c
    unfolding tick
    tick_total = both (releases s c)
      where
        both : (r : Bool) → sum4 (λ t. cond r 0 (calling c t) + cond r 0 (waiting c t)) + bit r (total c) ≡ total c
        both true = omega arith
        both false = omega arith

    pub tick_even : (h : List Event) → Even c k h → Even (tick s c) (worked s e k) (e ∷ h)
    unfolding count
    tick_even h v =
        let no_strike_in : is 1 e ≡ false = rw z in
        let no_passage : is 2 e ≡ false = rw z in
        rw (no_strike_in, no_passage) (omega (arith, tick_total, tick_written))
