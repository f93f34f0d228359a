-- The preview (T-03, T-04), for readers: what it gives for a spoilt plant, for an unknown sender, for a wrong frame and, with a right one,
-- beside the event call.
use mathlib.Core.Path.{◌≡◌, sym, ◌∙◌, ap}
use mathlib.Core.Bool.{true, false, cond}
use mathlib.Core.List.{List}
use Prim.Native.Nat.{ℕ, ◌*◌}
use lib.Dec.{eqb}
use lib.ListN.{length}
use borrow.Author.Tests.{eqb-true, eqb-false, eq-eqb, ne_eqb}
use Rattle.machine.specs.Plant.{Plant}
use Rattle.machine.specs.Range.{in_range}
use Rattle.machine.specs.Rights.{known_sender}
use Rattle.machine.specs.Events.{Event, Command, sent, is_known, number}
use Rattle.machine.specs.Step.{step}
use Rattle.machine.specs.Panel.{view, draw_number, drawn}
use Rattle.machine.specs.Preview.{preview_number, preview_written, preview_panel}
use Rattle.machine.proofs.Tools.{by_test}
use Rattle.machine.proofs.Taken.{taken_answer, refused_answer, step_site, taken_tests}
use Rattle.machine.proofs.Stays.{stays_in_range}

-- number, count and bytes of a preview, as its promises have them
abbrev pub Previews : Plant → ℕ → Event → List ℕ → ℕ → ℕ → List ℕ → Type 0
Previews p k e lent number count bytes = (number ≡ preview_number p k e lent) × ((count ≡ preview_written p k e lent) × (bytes ≡ preview_panel p k e lent))

-- a drawing for a known sender with a right frame
drawing : (p : Plant) (k : ℕ) (lent : List ℕ) → in_range p ≡ true → known_sender k ≡ true → length lent ≡ 16 * p.site.n → (draw_number p k lent ≡ 0) × (drawn p k lent ≡ view k p)
unfolding draw_number drawn
drawing p k lent r s f = (rw (r, s, eq-eqb _ _ f), rw (r, s, eq-eqb _ _ f))

module _ (p : Plant) (k : ℕ) (e : Event) (lent : List ℕ) where
  abbrev x : Command
  x = sent k e

  -- a spoilt plant: 15, whatever the sender, the frame and the event
  pub spoilt_preview : in_range p ≡ false → Previews p k e lent 15 0 lent
  unfolding preview_number preview_written preview_panel draw_number
  spoilt_preview r = (rw r, (rw r, rw r))

  -- an unknown sender: 16, whatever the frame and the event
  pub unknown_preview : in_range p ≡ true → known_sender k ≡ false → Previews p k e lent 16 0 lent
  unfolding preview_number preview_written preview_panel draw_number
  unknown_preview r s = (rw (r, s), (rw (r, s), rw (r, s)))

  -- a wrong frame: 14, whatever the event
  pub wrong_frame : in_range p ≡ true → known_sender k ≡ true → (length lent ≡ 16 * p.site.n → ⊥) → Previews p k e lent 14 0 lent
  unfolding preview_number preview_written preview_panel draw_number
  wrong_frame r s f = let w = ne_eqb _ _ f in (rw (r, s, w), (rw (r, s, w), rw (r, s, w)))

  module _ (f : length lent ≡ 16 * p.site.n) where
    own_number : preview_number p k e lent ≡ number p x
    unfolding preview_number draw_number number is_known
    own_number = by_test (in_range p) (λ r. by_test (known_sender k) (λ s. rw (r, s, eq-eqb _ _ f)) (λ s. rw (r, s))) (λ r. rw r)

    -- after a taken event the drawing is not refused
    pub then_drawn : number p x ≡ 0 → (draw_number (step p x).plant k lent ≡ 0) × (drawn (step p x).plant k lent ≡ view k (step p x).plant)
    unfolding is_known
    then_drawn q =
        let t = taken_tests p x q in
        drawing (step p x).plant k lent (stays_in_range p x t.range) t.known (f ∙ sym (ap (λ s. 16 * s.n) (step_site p x)))

    -- a right frame: number and count are the event call's; the bytes are those that a drawing after a taken event gives its sender; after a
    -- refused one the output holds what it held
    pub foretold : Previews p k e lent (step p x).number (step p x).written (cond (eqb (step p x).number 0) (drawn (step p x).plant k lent) lent)
    unfolding preview_written preview_panel
    foretold = by_test (eqb (number p x) 0)
        (λ t.
        let q = eqb-true _ _ t in
        let d = rw (taken_answer p x q) at (then_drawn q).1 in
        rw (taken_answer p x q) (sym (own_number ∙ q), (rw (own_number, q), rw (own_number, q) d)))
        (λ t. rw (refused_answer p x (eqb-false _ _ t)) (sym own_number, (rw (own_number, t), rw (own_number, t))))
