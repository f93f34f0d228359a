-- What holds after every list of commands, by induction over the list.
use mathlib.Core.Path.{◌≡◌, refl, ◌∙◌, ap}
use mathlib.Core.Bool.{true, false}
use mathlib.Core.List.{List, [], ◌∷◌, ◌++◌}
use Prim.Native.Nat.{ℕ, zero, suc, ◌+◌, ◌≤◌, ◌<◌}
use native.Mathlib.Omega.{arith}
use native.Mathlib.Nat.{add-zero}
use lib.Dec.{eqb}
use lib.ListN.{get_or}
use Rattle.machine.specs.Common.{sum_below}
use Rattle.machine.specs.declared.Plant.{Plant}
use Rattle.machine.specs.declared.Event.{Event}
use Rattle.machine.specs.Plant.{entry, crossing, no_entry}
use Rattle.machine.specs.Events.{Command}
use Rattle.machine.specs.Range.{in_range}
use Rattle.machine.specs.Effects.{written_at}
use Rattle.machine.specs.Step.{step, after, carried}
use Rattle.machine.proofs.Tools.{by_test, sum_add, sum_same, sum_past}
use Rattle.machine.proofs.Taken.{Accepted, step_site, taken_accepted}
use Rattle.machine.proofs.Ranges.{plant_reads, entry_of}
use Rattle.machine.proofs.Laws.{fresh_of}
use Rattle.machine.proofs.Stays.{stays_in_range}
use Rattle.demand.specs.Words.{sum_over}
use Rattle.demand.specs.Ledger.{taken, note, log, state}
use Rattle.demand.specs.Demand.{known}
use Rattle.demand.proofs.Lists.{snoc_induction, after_append, carried_append, log_snoc}
use Rattle.demand.proofs.Each.{Holds, fresh_holds, skipped, touched, written_touched}
use Rattle.demand.proofs.Answers.{zero_number, crossing_after, taken_written, refused_step}

-- the claim's own sum is the machine's
pub same_sum : (n : ℕ) (f : ℕ → ℕ) → sum_over n f ≡ sum_below n f
unfolding sum_over
same_sum zero f = refl
same_sum (suc n) f = rw (same_sum n f)

pub record Sound (p : Plant) (es : List Command) : Type 0 where
  pub site : (after p es).site ≡ p.site
  pub range : in_range (after p es) ≡ true
  pub each : (i : ℕ) → i < p.site.n → Holds p es i (crossing (after p es) i)
  pub sum : sum_below p.site.n (λ i. (known p i es).written) ≡ carried p es

module _ (p : Plant) where
  none : in_range p ≡ true → ((i : ℕ) → i < p.site.n → crossing p i ≡ fresh_of (entry p i)) → Sound p []
  unfolding after carried log state
  none g fresh = record { site = refl; range = g; each = λ i l. rw (fresh i l) (fresh_holds p i); sum = sum_past (λ i. (known p i []).written) p.site.n 0 (omega arith) (λ i a b. refl) }

  module _ (es : List Command) (x : Command) (k : Sound p es) where
    abbrev e : Event
    e = x.event

    abbrev q : Plant
    q = after p es

    now : after p (es ++ x ∷ []) ≡ (step q x).plant
    unfolding after
    now = after_append p es (x ∷ [])

    carries : carried p (es ++ x ∷ []) ≡ carried p es + (step q x).written
    unfolding carried
    carries = carried_append p es (x ∷ []) ∙ (rw add-zero)

    same_entry : (i : ℕ) → entry q i ≡ entry p i
    same_entry i = ap (λ y. get_or y.entries i no_entry) k.site

    still_in : in_range (after p (es ++ x ∷ [])) ≡ true
    still_in = rw now (stays_in_range q x k.range)

    refused_more : taken q x ≡ false → Sound p (es ++ x ∷ [])
    unfolding note
    refused_more f =
        let same : (step q x).plant ≡ q = ap (λ a. a.plant) (refused_step q x f) in
        let l : (i : ℕ) → log p i (es ++ x ∷ []) ≡ log p i es = (λ i. log_snoc p i es x ∙ (rw f)) in
        record {
          site = rw (now, same) k.site;
          range = still_in;
          each = λ i b. rw (now, same) (skipped p es x i (crossing q i) (k.each i b) (rw f));
          sum = sum_same p.site.n _ _ (λ i b. rw (l i)) ∙ k.sum ∙ rw (carries, refused_step q x f, add-zero);
        }

    taken_more : taken q x ≡ true → Sound p (es ++ x ∷ [])
    taken_more t =
        let g = plant_reads q k.range in
        let n : q.site.n ≡ p.site.n = ap (λ y. y.n) k.site in
        let few : (i : ℕ) → i < q.site.n → (entry p i).tracks ≤ 4 = (λ i l. rw (same_entry i) at (entry_of g i l).tracks) in
        let own : (i : ℕ) → eqb e.crossing i ≡ true → Accepted q.site.n (entry p i) (crossing q i) e = (λ i o. rw (same_entry i) at (taken_accepted q x (zero_number q x t) i o)) in
        record {
          site = rw now (step_site q x ∙ k.site);
          range = still_in;
          each = λ i b.
              let l : i < q.site.n = rw n b in
              let same = same_entry i in
              let c = crossing_after q x t i (omega (arith, g.count)) in
              rw (now, c, same) (touched p es x i (crossing q i) (k.each i b) t (few i l) (own i));
          sum = sum_same p.site.n _ (λ i. (known p i es).written + written_at (entry p i) i (crossing q i) e) (λ i b. written_touched p es x i (crossing q i) (k.each i b) t (few i (rw n b)) (own i))
              ∙ sum_add p.site.n (λ i. (known p i es).written) (λ i. written_at (entry p i) i (crossing q i) e)
              ∙ omega (arith, carries, taken_written q x t g, ap (λ y. sum_below y.n (λ i. written_at (get_or y.entries i no_entry) i (crossing q i) e)) k.site, k.sum);
        }

  pub sound : in_range p ≡ true → ((i : ℕ) → i < p.site.n → crossing p i ≡ fresh_of (entry p i)) → (es : List Command) → Sound p es
  sound g fresh = snoc_induction (Sound p) (none g fresh) (λ es x k. by_test (taken (after p es) x) (taken_more es x k) (refused_more es x k))
