-- Two stretches are alike exactly when every event stands in both as often, and that exactly when the one is a rearrangement of the other.
use mathlib.Core.Path.{◌≡◌, refl, sym, ap, ◌∙◌, subst}
use mathlib.Core.Bool.{Bool, true, false, cond}
use mathlib.Core.Logic.{∥∥₁_elim}
use mathlib.Core.List.Permᴰ
use mathlib.Core.List.{List, [], ◌∷◌, ◌++◌, Perm, Permᴰ}
use Prim.Native.Nat.{ℕ, suc, ◌+◌, ◌<◌}
use native.Mathlib.Nat.{ℕ_set}
use native.Mathlib.Omega.{arith}
use lib.Dec.{eqb}
use borrow.Author.Tests.{eqb-true, eqb-false, eq-eqb}
use Rattle.machine.specs.Common.{bit}
use Rattle.machine.specs.declared.Event.{Event}
use Rattle.machine.specs.Shift.{all_of, same_event, often, alike}
use Rattle.machine.proofs.Tools.{by_test, and_both, and_intro}
use Rattle.machine.proofs.Shifts.{same_is, is_same}
use Rattle.cabin.specs.Cabin.{times, Same}

-- As often -----------------------------------------------------------------------------------------------------------------------------
abbrev pub AsOften : List Event → List Event → Type 0
AsOften x y = (e : Event) → often e x ≡ often e y

-- the claim's count is the machine's
pub times_often : (e : Event) (l : List Event) → times e l ≡ often e l
unfolding times often same_event
times_often e [] = refl
times_often e (x ∷ l) = rw (times_often e l) (added (same_event e x) (often e l))
  where
    added : (b : Bool) (n : ℕ) → cond b (suc n) n ≡ bit b 1 + n
    added true n = omega arith
    added false n = omega arith

pub same_often : (x y : List Event) → Same x y → AsOften x y
same_often x y h e = sym (times_often e x) ∙ h e ∙ times_often e y

pub often_same : (x y : List Event) → AsOften x y → Same x y
often_same x y h e = times_often e x ∙ h e ∙ sym (times_often e y)

pub often_append : (e : Event) (x y : List Event) → often e (x ++ y) ≡ often e x + often e y
unfolding often
often_append e [] y = omega arith
often_append e (f ∷ x) y = let h = often_append e x y in omega arith

-- what passes at every event of a list passes at one that stands in it
passes : (t : Event → Bool) (l : List Event) → all_of t l ≡ true → (e : Event) → 0 < often e l → t e ≡ true
unfolding often
passes t [] q e h = absurd (omega arith)
passes t (x ∷ l) q e h =
    let both = and_both (t x) (all_of t l) q in
    by_test (same_event e x)
    (λ s. ap t (same_is e x s) ∙ both.0)
    (λ s. passes t l both.1 e (let g : 0 < bit false 1 + often e l = rw s at h in omega arith))

all_pass : (t : Event → Bool) (l : List Event) → ((e : Event) → t e ≡ true) → all_of t l ≡ true
all_pass t [] h = refl
all_pass t (x ∷ l) h = and_intro (h x) (all_pass t l h)

pub alike_often : (x y : List Event) → alike x y ≡ true → AsOften x y
unfolding alike
alike_often x y q e = by_test (eqb (often e (x ++ y)) 0)
    (λ z. let n : often e (x ++ y) ≡ 0 = eqb-true _ _ z in let a = often_append e x y in omega arith)
    (λ z. let n : often e (x ++ y) ≡ 0 → ⊥ = eqb-false _ _ z in
    eqb-true _ _ (passes (λ e. eqb (often e x) (often e y)) (x ++ y) q e (omega arith)))

pub often_alike : (x y : List Event) → AsOften x y → alike x y ≡ true
unfolding alike
often_alike x y h = all_pass _ (x ++ y) (λ e. eq-eqb _ _ (h e))

-- two tests of which each holds where the other does
same_test : (p q : Bool) → (p ≡ true → q ≡ true) → (q ≡ true → p ≡ true) → p ≡ q
same_test true q f g = sym (f refl)
same_test false true f g = g refl
same_test false false f g = refl

-- `alike` sees nothing but how often
pub by_often : (x x' y y' : List Event) → AsOften x y → AsOften x' y' → alike x x' ≡ alike y y'
by_often x x' y y' p q = same_test (alike x x') (alike y y')
    (λ t. often_alike y y' (λ e. sym (p e) ∙ alike_often x x' t e ∙ q e))
    (λ t. often_alike x x' (λ e. p e ∙ alike_often y y' t e ∙ sym (q e)))

pub alike_comm : (x y : List Event) → alike x y ≡ alike y x
alike_comm x y = same_test (alike x y) (alike y x)
    (λ t. often_alike y x (λ e. sym (alike_often x y t e)))
    (λ t. often_alike x y (λ e. sym (alike_often y x t e)))

-- Rearrangements -----------------------------------------------------------------------------------------------------------------------
moved : (x y : List Event) → Permᴰ x y → AsOften x y
unfolding often
moved x y Permᴰ.nil e = refl
moved x y (Permᴰ.cons {l₁ = l} {l₂ = m} p d) e = let h = moved l m d e in rw p (omega arith)
moved x y (Permᴰ.swap p q) e = rw (p, q) (omega arith)
moved x y (Permᴰ.trans {l₂ = m} d f) e = moved x m d e ∙ moved m y f e

-- an event that stands in a list, and what stands beside it
record Found (e : Event) (y : List Event) : Type 0 where
  before : List Event
  after : List Event
  is : y ≡ before ++ e ∷ after

found : (e : Event) (y : List Event) → 0 < often e y → Found e y
unfolding often
found e [] h = absurd (omega arith)
found e (f ∷ y) h = by_test (same_event e f)
    (λ s. record { before = []; after = y; is = ap (λ g. g ∷ y) (sym (same_is e f s)) })
    (λ s. let w = found e y (let g : 0 < bit false 1 + often e y = rw s at h in omega arith) in
    record { before = f ∷ w.before; after = w.after; is = ap (λ l. f ∷ l) w.is })

rearranged : (x y : List Event) → AsOften x y → Permᴰ x y
unfolding often
rearranged [] [] h = Permᴰ.nil
rearranged [] (e ∷ y) h = absurd (let z = h e in let s : 0 ≡ bit true 1 + often e y = rw (is_same e) at z in omega arith)
rearranged (e ∷ x) y h =
    let here : bit true 1 + often e x ≡ often e y = rw (is_same e) at (h e) in
    let w = found e y (omega arith) in
    let rest : AsOften x (w.before ++ w.after) = λ g.
    let a = often_append g w.before w.after in
    let b = often_append g w.before (e ∷ w.after) in
    let c = h g ∙ ap (λ l. often g l) w.is in
    omega arith in
    subst (λ l. Permᴰ (e ∷ x) l) (sym w.is)
    (Permᴰ.trans (Permᴰ.cons refl (rearranged x (w.before ++ w.after) rest)) (Permᴰ.symm (Permᴰ.middle e w.before w.after)))

pub often_perm : (x y : List Event) → AsOften x y → Perm x y
often_perm x y h = ∣ rearranged x y h ∣₁

pub perm_often : (x y : List Event) → Perm x y → AsOften x y
perm_often x y p e = ∥∥₁_elim p (ℕ_set (often e x) (often e y)) (λ d. moved x y d e)
