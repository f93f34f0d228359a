-- What the number of a call tells: 0 where it is taken, and of a test that refuses.
use Rattle.std.proofs.Common.{◌≡◌, Bool, true, false, Result, Ok, Err}
use Rattle.std.specs.Prelude.{OnOk, IfErr, IsErrAnd}
use Rattle.machine.specs.Common.{refuse}
use Rattle.refusal.specs.declared.Refusal.{Refusal}
use Rattle.refusal.specs.declared.Refusal.TheVariants.{BadBookLength, BadCount, BadSetting, BadSheetLength, UnknownCode, UnknownCrossing, UnknownPlace, UnknownValue, TrackFull, NoTrain, TrainCalling, NotClear, NotDependent, BadOutputLength, OutOfRange, UnknownSender, NoRight, ShiftTooLong, BadSpeed, BadRetardation, BadGradient}
use Rattle.refusal.specs.Numbers.{hut_number, number_of}
use native.Mathlib.Omega.{arith}

-- no refusal has the number of a taken call
pub never_0 : (r : Refusal) → hut_number r ≡ 0 → ⊥
never_0 BadBookLength p = omega arith
never_0 BadCount p = omega arith
never_0 BadSetting p = omega arith
never_0 BadSheetLength p = omega arith
never_0 UnknownCode p = omega arith
never_0 UnknownCrossing p = omega arith
never_0 UnknownPlace p = omega arith
never_0 UnknownValue p = omega arith
never_0 TrackFull p = omega arith
never_0 NoTrain p = omega arith
never_0 TrainCalling p = omega arith
never_0 NotClear p = omega arith
never_0 NotDependent p = omega arith
never_0 BadOutputLength p = omega arith
never_0 OutOfRange p = omega arith
never_0 UnknownSender p = omega arith
never_0 NoRight p = omega arith
never_0 ShiftTooLong p = omega arith
never_0 BadSpeed p = omega arith
never_0 BadRetardation p = omega arith
never_0 BadGradient p = omega arith

-- the number of a test that refuses
pub by_refusal : {A : Type 0} (result : Result A Refusal) (test : Bool) (refusal : Refusal) → OnOk result (test ≡ false) → IfErr result (λ r. (test ≡ true) × (r ≡ refusal)) → number_of result ≡ refuse test (hut_number refusal) 0
by_refusal (Ok x) test refusal p q = rw p
by_refusal (Err r) test refusal p q = rw (q.0, q.1)

-- the number of a refusal that is passed on
pub passed_on : {A : Type 0} (result : Result A Refusal) (refusal : Refusal) → IsErrAnd result (λ r. r ≡ refusal) → number_of result ≡ hut_number refusal
passed_on (Ok x) refusal p = absurd p
passed_on (Err r) refusal p = rw p
