-- What the call returns, case by case.
use mathlib.Core.Path.{◌≡◌, refl, sym, ◌∙◌}
use mathlib.Core.Bool.{cond, ◌||◌}
use mathlib.Core.List.{List}
use Prim.Native.Nat.{ℕ, ◌≤◌, ◌<◌}
use lib.Dec.{ltb}
use borrow.Author.Tests.{eq-eqb, ne_eqb, le-ltb, lt-ltb}
use Rattle.std.specs.Prelude.{Option, Result, IsErrAnd}
use Rattle.std.proofs.lemmas.Result.{err_from_is_err_and}
use Rattle.machine.specs.Common.{refuse}
use Rattle.machine.specs.Sheet.{sheet_size, sheet_number}
use Rattle.machine.specs.Shift.{agree_number, agree, agreed, first_failing, shift_limit}
use Rattle.refusal.specs.declared.Refusal.{Refusal}
use Rattle.refusal.specs.declared.Refusal.TheVariants.{ShiftTooLong}
use Rattle.refusal.specs.Numbers.{hut_number}
use Rattle.refusal.proofs.Numbers.{never_0}
use Rattle.reader.proofs.Numbers.{sheet_passes, sheet_refuses}
use Rattle.agree.specs.Keyed.{agreement_of}

module _ (a b : List ℕ) where
  module _ (result : Result (Option ℕ) Refusal) (r : Refusal) (e : IsErrAnd result (λ x. x ≡ r)) where
    refused : agree_number a b ≡ hut_number r → agreement_of result ≡ agree a b
    unfolding agree
    refused n = let p = err_from_is_err_and result e in rw (p.1, p.2, n, ne_eqb _ _ (never_0 r))

    pub hut_refused : hut_number r ≡ sheet_number a 0 → agreement_of result ≡ agree a b
    unfolding agree_number
    hut_refused n = refused (sheet_refuses a _ (λ z. never_0 r (n ∙ z)) ∙ sym n)

    pub cabin_refused : sheet_number a 0 ≡ 0 → hut_number r ≡ sheet_number b 0 → agreement_of result ≡ agree a b
    unfolding agree_number
    cabin_refused p n = refused (sheet_passes a _ p ∙ sheet_refuses b _ (λ z. never_0 r (n ∙ z)) ∙ sym n)

  module _ (p : sheet_number a 0 ≡ 0) (q : sheet_number b 0 ≡ 0) where
    number_whole : agree_number a b ≡ refuse (ltb shift_limit (sheet_size a) || ltb shift_limit (sheet_size b)) 18 0
    unfolding agree_number
    number_whole = sheet_passes a _ p ∙ sheet_passes b _ q

    module _ (result : Result (Option ℕ) Refusal) (e : IsErrAnd result (λ x. x ≡ ShiftTooLong)) where
      pub hut_long : 256 < sheet_size a → agreement_of result ≡ agree a b
      hut_long l = refused result ShiftTooLong e (number_whole ∙ rw (lt-ltb 256 (sheet_size a) l) refl)

      pub cabin_long : sheet_size a ≤ 256 → 256 < sheet_size b → agreement_of result ≡ agree a b
      cabin_long l m = refused result ShiftTooLong e (number_whole ∙ rw (le-ltb 256 (sheet_size a) l, lt-ltb 256 (sheet_size b) m) refl)

    module _ (l : sheet_size a ≤ 256) (m : sheet_size b ≤ 256) where
      number_taken : agree_number a b ≡ 0
      number_taken = number_whole ∙ rw (le-ltb 256 (sheet_size a) l, le-ltb 256 (sheet_size b) m) refl

      pub answer_compared : record { number = 0; agreed = agreed a b; stretch = cond (agreed a b) 0 (first_failing a b) } ≡ agree a b
      unfolding agree
      answer_compared = rw (eq-eqb _ _ number_taken)
