-- What a preview returns, by what its checks and the event call give.
use mathlib.Core.Path.{◌≡◌, sym, ◌∙◌, ap}
use mathlib.Core.List.{List}
use Prim.Native.Nat.{ℕ, ◌*◌}
use lib.ListN.{length}
use borrow.Author.Tests.{ne_eqb}
use Rattle.std.specs.Prelude.{Result, Ok, Err, IsErrAnd}
use Rattle.machine.specs.declared.Plant.{Plant}
use Rattle.machine.specs.declared.Event.{Event}
use Rattle.machine.specs.Events.{Command, sent}
use Rattle.machine.specs.Step.{step}
use Rattle.machine.specs.Panel.{view}
use Rattle.machine.proofs.Foretold.{Previews, then_drawn, foretold}
use Rattle.machine.proofs.Taken.{answer_number}
use Rattle.refusal.specs.declared.Refusal.{Refusal}
use Rattle.refusal.specs.Numbers.{hut_number, number_of}
use Rattle.refusal.proofs.Numbers.{never_0}
use Rattle.event.specs.declared.Taken.{Taken}
use Rattle.event.specs.Answers.{taken_answer, answer_of}
use Rattle.preview.specs.Counts.{count_of}

module _ (p : Plant) (k : ℕ) (e : Event) (lent : List ℕ) where
  abbrev x : Command
  x = sent k e

  -- a refusal that is passed on
  pub passed_on : (result : Result ℕ Refusal) (refusal : Refusal) → IsErrAnd result (λ r. r ≡ refusal) → Previews p k e lent (hut_number refusal) 0 lent
      → Previews p k e lent (number_of result) (count_of result) lent
  passed_on (Ok n) refusal q h = absurd q
  passed_on (Err r) refusal q h = rw q h

  module _ (f : length lent ≡ 16 * p.site.n) where
    pub by_taken : (t : Taken) → taken_answer t ≡ step p x → Previews p k e lent 0 t.written (view k t.plant)
    by_taken t q =
        let d = then_drawn p k e lent f (sym (answer_number p x) ∙ sym (ap (λ a. a.number) q)) in
        let h = rw (← q) at (foretold p k e lent f) in
        (h.0, (h.1.0, sym (rw (← q) at d.1) ∙ h.1.1))

    pub by_refused : (r : Refusal) → answer_of p (Err r) ≡ step p x → Previews p k e lent (hut_number r) 0 lent
    by_refused r q = rw (ne_eqb _ _ (never_0 r)) at (rw (← q) at (foretold p k e lent f))
