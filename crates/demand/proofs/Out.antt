-- Ticks out of normal (T-09): the plant holds them up to 1,080, the ledger counts them all.
use mathlib.Core.Path.{◌≡◌, refl, sym, ◌∙◌, ap}
use mathlib.Core.Bool.{Bool, true, false, cond}
use Prim.Native.Nat.{ℕ, ◌+◌, ◌≤◌, ◌<◌}
use native.Mathlib.Omega.{arith}
use lib.Dec.{ltb, leb}
use borrow.Author.Tests.{ltb-true, ltb-false, le-ltb, le-leb}
use Rattle.machine.specs.Settling.{out_settled}
use Rattle.machine.proofs.Tools.{by_test}

-- up to 1,080
abbrev pub capped : ℕ → ℕ
capped n = cond (ltb n 1080) n 1080

-- whether there are 1,079 of them is seen in both
seen : (n : ℕ) → leb 1079 (capped n) ≡ leb 1079 n
seen n = by_test (ltb n 1080)
    (λ q. rw q)
    (λ q. let l : 1080 ≤ n = ltb-false _ _ q in rw (q, le-leb 1079 n (omega arith)))

pub same_overlong : (x y : ℕ) → capped x ≡ capped y → leb 1079 x ≡ leb 1079 y
same_overlong x y q = sym (seen x) ∙ ap (leb 1079) q ∙ seen y

-- so are those of one more event
grows : (add x y : ℕ) → capped x ≡ capped y → capped (cond (ltb x 1080) (x + add) 1080) ≡ capped (y + add)
grows add x y q = by_test (ltb x 1080)
    (λ a. let l : x < 1080 = ltb-true _ _ a in by_test (ltb y 1080)
    (λ b. let e : x ≡ y = rw (a, b) at q in rw (a, e))
    (λ b. let e : x ≡ 1080 = rw (a, b) at q in absurd (omega arith)))
    (λ a. let l : 1080 ≤ x = ltb-false _ _ a in by_test (ltb y 1080)
    (λ b. let m : y < 1080 = ltb-true _ _ b in let e : 1080 ≡ y = rw (a, b) at q in absurd (omega arith))
    (λ b. let m : 1080 ≤ y = ltb-false _ _ b in rw (a, le-ltb (y + add) 1080 (omega arith))))

-- and after settling
pub same_out : (add : ℕ) {n n' : Bool} (x y : ℕ) → n ≡ n' → capped x ≡ capped y → capped (out_settled n add x) ≡ capped (cond n' 0 (y + add))
unfolding out_settled
same_out add {n} {n'} x y p q = rw p (go n')
  where
    go : (b : Bool) → capped (cond b 0 (cond (ltb x 1080) (x + add) 1080)) ≡ capped (cond b 0 (y + add))
    go true = refl
    go false = grows add x y q
