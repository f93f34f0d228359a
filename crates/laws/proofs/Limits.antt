-- The limits 255, 900, 1,080 (T-09) and 3 (the last boom report, T-02) to the unit, in plain numbers.
use mathlib.Core.Path.{◌≡◌, refl}
use mathlib.Core.Bool.{true, false, cond, and-true}
use Prim.Native.Nat.{ℕ, zero, suc, ◌≤◌, ◌<◌}
use native.Mathlib.Omega.{arith}
use lib.Dec.{ltb, leb}
use borrow.Author.Tests.{ltb-true, ltb-false, leb-true, leb-false, lt-ltb, lt-leb, eq-eqb}
use Rattle.machine.specs.Common.{bit, refuse}
use Rattle.machine.specs.declared.Entry.{Entry}
use Rattle.machine.specs.declared.Crossing.{Crossing}
use Rattle.machine.specs.declared.Plant.{Plant}
use Rattle.machine.specs.declared.Event.{Event}
use Rattle.machine.specs.Plant.{overdue_ticks, most_ticks, boom_count, unsure_flag, trains, entry}
use Rattle.machine.specs.Range.{in_range}
use Rattle.machine.specs.Events.{listed, is_known, entitled, place_limit, value_limit, refusal, number}
use Rattle.machine.specs.Effects.{unsure_after, written_at}
use Rattle.machine.specs.Settling.{out_settled}
use Rattle.machine.proofs.Tools.{by_test}

-- A strike-in (T-01) ----------------------------------------------------------------------------------------------------------------
abbrev strike_in : ℕ → ℕ → Event
strike_in i t = record { code = 1; crossing = i; place = t; value = 0 }

-- at a track of the plant it is taken, full or not
pub strike_in_number : (p : Plant) (i t : ℕ) → in_range p ≡ true → i < p.site.n → t < (entry p i).tracks → number p (listed (strike_in i t)) ≡ 0
unfolding is_known entitled number refusal place_limit value_limit
strike_in_number p i t h a b = rw (h, lt-leb _ _ a, lt-leb _ _ b)

module _ (i t : ℕ) (c : Crossing) where
  -- it writes off 1 where its track has 255 trains, otherwise none
  pub strike_in_written : (s : Entry) → written_at s i c (strike_in i t) ≡ bit (leb 255 (trains c t)) 1
  unfolding written_at
  strike_in_written s = rw (eq-eqb i i refl, and-true)

  -- it puts on the flag of its track where that has 255 trains, and otherwise leaves it
  pub strike_in_unsure : unsure_after c (strike_in i t) t ≡ cond (leb 255 (trains c t)) 1 (unsure_flag c t)
  unfolding unsure_after
  strike_in_unsure = rw (eq-eqb t t refl, and-true)

-- A boom report (T-02) --------------------------------------------------------------------------------------------------------------
abbrev boom_report : ℕ → ℕ → ℕ → Event
boom_report i b v = record { code = 8; crossing = i; place = b; value = v }

-- at a boom of the plant 0 to 3 are taken, and from 4 on it is number 8
pub boom_report_number : (p : Plant) (i b v : ℕ) → in_range p ≡ true → i < p.site.n → b < boom_count (entry p i).kind → number p (listed (boom_report i b v)) ≡ refuse (leb 4 v) 8 0
unfolding is_known entitled number refusal place_limit value_limit
boom_report_number p i b v h a l = rw (h, lt-leb _ _ a, lt-leb _ _ l)

-- Ticks out of normal ----------------------------------------------------------------------------------------------------------------
-- ticks out of normal after n ticks without a break
unfoldable pub out_after : ℕ → ℕ
out_after zero = 0
out_after (suc n) = out_settled false 1 (out_after n)

before : (n : ℕ) → n ≤ 1080 → out_after n ≡ n
unfolding out_settled out_after
before zero l = refl
before (suc n) l = rw (before n (omega arith), lt-ltb n most_ticks (omega arith)) (omega arith)

-- they run to 1,080 (T-09)
pub most : (n : ℕ) → 1080 ≤ n → out_after n ≡ 1080
unfolding out_settled out_after
most zero l = absurd (omega arith)
most (suc n) l = by_test (ltb n 1080)
    (λ q. let m : n < 1080 = ltb-true _ _ q in rw (before n (omega arith), q) (omega arith))
    (λ q. rw (most n (ltb-false _ _ q)))

-- 900 ticks leave the panel's bit clear, 901 set it
pub overdue : (n : ℕ) → ltb overdue_ticks (out_after n) ≡ ltb 900 n
overdue n = by_test (leb n 1080)
    (λ q. rw (before n (leb-true _ _ q)))
    (λ q. let l : 1080 < n = leb-false _ _ q in rw (most n (omega arith), lt-ltb 900 n (omega arith)))
