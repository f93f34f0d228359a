-- The number of a report, case by case, and what is then reported.
use mathlib.Core.Path.{◌≡◌, refl, sym, ◌∙◌, ap}
use mathlib.Core.Bool.{not}
use mathlib.Core.List.{List, ◌++◌}
use Prim.Native.Nat.{ℕ, zero, suc, ◌*◌, ◌≤◌, min}
use lib.Dec.{eqb, ltb}
use native.Mathlib.Omega.{arith}
use lib.ListN.{length, take, drop, length-take, take-append-drop}
use borrow.Author.Tests.{eq-eqb, ne_eqb, eqb-true, ltb-true, ltb-false}
use Rattle.std.specs.Prelude.{Result, Ok, Err, IsErrAnd}
use Rattle.std.proofs.lemmas.Result.{err_from_is_err_and}
use Rattle.machine.specs.declared.Plant.{Plant}
use Rattle.machine.specs.declared.Event.{Event}
use Rattle.machine.specs.Common.{refuse}
use Rattle.machine.specs.Panel.{panel}
use Rattle.machine.specs.SiteBook.{read, read_number}
use Rattle.machine.specs.Sheet.{sheet_size, sheet_event, sheet_number, run_number, ran, counted, run, run_panel}
use Rattle.machine.proofs.Tools.{by_test, passed}
use Rattle.machine.proofs.Laws.{reading_number, fresh_in_range}
use Rattle.refusal.specs.declared.Refusal.{Refusal}
use Rattle.refusal.specs.Numbers.{hut_number}
use Rattle.refusal.proofs.Numbers.{never_0}
use Rattle.sheet.specs.declared.Ran.{Ran}
use Rattle.sheet.specs.Runs.{taken_run, run_of}
use Rattle.report.specs.declared.Outcome.{Outcome}
use Rattle.report.specs.Report.{size, run_of as whole_run, report_number, outcome_of, report, report_panel}

ran_number : (p : Plant) (f : ℕ → Event) (k : ℕ) → (ran p f k).number ≡ 0
unfolding ran counted
ran_number p f zero = refl
ran_number p f (suc k) = refl

-- a run has its number
told : (p : Plant) (s lent : List ℕ) → (run p s lent).number ≡ run_number p s lent
unfolding run
told p s lent = by_test (eqb (run_number p s lent) 0)
    (λ t. rw t (ran_number p (sheet_event s) (sheet_size s) ∙ sym (eqb-true _ _ t)))
    (λ t. rw t)

module _ (site sheet lent : List ℕ) where
  number_read : read_number site ≡ 0 → report_number site sheet lent ≡ sheet_number sheet (refuse (ltb (length lent) (16 * size site)) 14 0)
  unfolding report_number
  number_read q = rw (eq-eqb _ _ q)

  module _ (result : Result Outcome Refusal) (r : Refusal) (e : IsErrAnd result (λ x. x ≡ r)) where
    refused_by : report_number site sheet lent ≡ hut_number r → (outcome_of result ≡ report site sheet lent) × (lent ≡ report_panel site sheet lent)
    unfolding report report_panel
    refused_by n =
        let o = err_from_is_err_and result e in
        let z = ne_eqb _ _ (never_0 r) in
        (rw (o.1, o.2, n, z), rw (n, z))

    -- the site is refused
    pub site_refused : hut_number r ≡ (read site).number → (outcome_of result ≡ report site sheet lent) × (lent ≡ report_panel site sheet lent)
    unfolding report_number
    site_refused n =
        let m : hut_number r ≡ read_number site = n ∙ reading_number site in
        refused_by (rw (← m, ne_eqb _ _ (never_0 r)))

  -- the site is taken; the run gets the first bytes, as many as the panel has, or all where they are too few
  module _ (q : (read site).number ≡ 0) (p : Plant) (e : p ≡ (read site).plant) (k : ℕ) (m : k ≡ min (length lent) (16 * p.site.n)) where
    read_taken : read_number site ≡ 0
    read_taken = sym (reading_number site) ∙ q

    room : k ≡ min (length lent) (16 * size site)
    room = rw e at m

    same_test : not (eqb (length (take k lent)) (16 * size site)) ≡ ltb (length lent) (16 * size site)
    same_test = by_test (ltb (length lent) (16 * size site))
        (λ t. let l = ltb-true _ _ t in let r = room in rw (t, length-take k lent, ne_eqb (min k (length lent)) (16 * size site) (λ z. omega arith)))
        (λ t. let l = ltb-false _ _ t in let r = room in rw (t, length-take k lent, eq-eqb (min k (length lent)) (16 * size site) (omega arith)))

    same_number : run_number p sheet (take k lent) ≡ report_number site sheet lent
    unfolding run_number
    same_number = rw (e, fresh_in_range site read_taken) (ap (λ b. sheet_number sheet (refuse b 14 0)) same_test ∙ sym (number_read read_taken))

    -- the run is refused
    pub run_refused : (result : Result Outcome Refusal) (r : Refusal) (last : List ℕ) → IsErrAnd result (λ x. x ≡ r) → run_of p (Err r) ≡ run p sheet (take k lent) → last ≡ run_panel p sheet (take k lent)
        → (outcome_of result ≡ report site sheet lent) × (last ++ drop k lent ≡ report_panel site sheet lent)
    unfolding run_panel
    run_refused result r last x a b =
        let n : run_number p sheet (take k lent) ≡ hut_number r = sym (told p sheet (take k lent)) ∙ sym (ap (λ v. v.number) a) in
        let t = refused_by result r x (sym same_number ∙ n) in
        let back : last ≡ take k lent = rw (n, ne_eqb _ _ (never_0 r)) at b in
        (t.0, rw back (take-append-drop k lent ∙ t.1))

    -- the run is taken
    module _ (r : Ran) (last : List ℕ) (a : run_of p (Ok r) ≡ run p sheet (take k lent)) (b : last ≡ run_panel p sheet (take k lent)) where
      zero_run : run_number p sheet (take k lent) ≡ 0
      zero_run = sym (told p sheet (take k lent)) ∙ sym (ap (λ v. v.number) a)

      zero_report : report_number site sheet lent ≡ 0
      zero_report = sym same_number ∙ zero_run

      -- the panel has room
      fits : 16 * size site ≤ length lent
      fits =
          let n = sym (number_read read_taken) ∙ zero_report in
          let x = passed _ 3 _ n in
          let y = passed _ 1 _ x.1 in
          let z = passed _ 3 _ y.1 in
          ltb-false _ _ (passed (ltb (length lent) (16 * size site)) 13 _ z.1).0

      same_run : taken_run r ≡ whole_run site sheet
      unfolding run
      same_run = rw (zero_run, e) at a

      same_panel : last ≡ panel (whole_run site sheet).plant
      unfolding run run_panel
      same_panel = rw (zero_run, e) at b

      pub run_taken : (outcome_of (Ok (record { n = p.site.n; taken = r.taken; refused = r.refused; written = r.written })) ≡ report site sheet lent) × (last ++ drop k lent ≡ report_panel site sheet lent)
      unfolding report report_panel
      run_taken =
          let m : k ≡ 16 * size site = let f = fits in let g = room in omega arith in
          (rw (zero_report, ← same_run, e), rw (zero_report, same_panel, m))
