-- The stretches of the machine are those of the claim, one by one; two neighbours exchanged leave each with the same events as often.
use mathlib.Core.Path.{◌≡◌, refl, sym, ap, ◌∙◌}
use mathlib.Core.Bool.{false}
use mathlib.Core.List.{List, [], ◌∷◌, ◌++◌, append-nil, append_assoc}
use Prim.Native.Nat.{ℕ, zero, suc, ◌+◌}
use native.Mathlib.Omega.{arith}
use lib.Dec.{eqb}
use lib.ListN.{get_or, length}
use borrow.Author.Tests.{eqb-true, eqb-false}
use Rattle.machine.specs.declared.Event.{Event}
use Rattle.machine.specs.Shift.{parted, same_event, four_zeros, often}
use Rattle.machine.proofs.Tools.{by_test}
use Rattle.machine.proofs.Shifts.{same_is}
use Rattle.machine.proofs.Lifted.{Lifted, none, more, by_conds, lifted_refl}
use Rattle.cabin.specs.Cabin.{is_tick, ticks, stretch}
use Rattle.cabin.proofs.Counts.{AsOften, often_append}

-- four numbers add up to 0 exactly when each is 0
pub same_tick : (e : Event) → four_zeros e ≡ is_tick e
unfolding four_zeros same_event is_tick
same_tick e = by_test (eqb (e.code + e.crossing + e.place + e.value) 0)
    (λ t. let z : e.code + e.crossing + e.place + e.value ≡ 0 = eqb-true _ _ t in
    let c : e.code ≡ 0 = omega arith in
    let x : e.crossing ≡ 0 = omega arith in
    let p : e.place ≡ 0 = omega arith in
    let v : e.value ≡ 0 = omega arith in
    rw (c, x, p, v) refl)
    (λ t. let n : e.code + e.crossing + e.place + e.value ≡ 0 → ⊥ = eqb-false _ _ t in
    by_test (four_zeros e)
    (λ s. absurd (n (ap (λ x. x.code + x.crossing + x.place + x.value) (same_is e (record { code = 0; crossing = 0; place = 0; value = 0 }) s))))
    (λ s. s ∙ sym t))

abbrev pub parts : List Event → List Event → List (List Event)
parts s l = parted four_zeros s l

-- The k-th part ------------------------------------------------------------------------------------------------------------------------
pub part_0 : (s l : List Event) → get_or (parts s l) 0 [] ≡ s ++ stretch 0 l
unfolding stretch
part_0 s [] = sym (append-nil s)
part_0 s (e ∷ l) = rw (← same_tick e) (by_conds {A = List (List Event)} {B = List Event} (λ p m. get_or p 0 [] ≡ s ++ m) (four_zeros e)
    (sym (append-nil s))
    (part_0 (s ++ (e ∷ [])) l ∙ append_assoc s (e ∷ []) (stretch 0 l)))

pub part_suc : (s l : List Event) (k : ℕ) → get_or (parts s l) (suc k) [] ≡ stretch (suc k) l
unfolding stretch
part_suc s [] k = refl
part_suc s (e ∷ l) zero = rw (← same_tick e) (by_conds {A = List (List Event)} {B = List Event} (λ p m. get_or p 1 [] ≡ m) (four_zeros e) (part_0 [] l) (part_suc (s ++ (e ∷ [])) l 0))
part_suc s (e ∷ l) (suc k) = rw (← same_tick e) (by_conds {A = List (List Event)} {B = List Event} (λ p m. get_or p (suc (suc k)) [] ≡ m) (four_zeros e) (part_suc [] l k) (part_suc (s ++ (e ∷ [])) l (suc k)))

pub part : (l : List Event) (k : ℕ) → get_or (parts [] l) k [] ≡ stretch k l
part l zero = part_0 [] l
part l (suc k) = part_suc [] l k

-- one more than there are ticks
pub part_count : (s l : List Event) → length (parts s l) ≡ suc (ticks l)
unfolding ticks
part_count s [] = refl
part_count s (e ∷ l) = rw (← same_tick e) (by_conds {A = List (List Event)} (λ p n. length p ≡ suc n) (four_zeros e) (ap suc (part_count [] l)) (part_count (s ++ (e ∷ [])) l))

-- Neighbours exchanged -----------------------------------------------------------------------------------------------------------------
longer : (s t m : List Event) → AsOften s t → AsOften (s ++ m) (t ++ m)
longer s t m h e = let a = often_append e s m in let b = often_append e t m in let c = h e in omega arith

as_often_parts : (s t l : List Event) → AsOften s t → Lifted AsOften (parts s l) (parts t l)
as_often_parts s t [] h = more h none
as_often_parts s t (e ∷ l) h = by_conds (Lifted AsOften) (four_zeros e)
    (more h (lifted_refl AsOften (λ x f. refl) (parts [] l)))
    (as_often_parts (s ++ (e ∷ [])) (t ++ (e ∷ [])) l (longer s t (e ∷ []) h))

module _ (x y : Event) (p : four_zeros x ≡ false) (q : four_zeros y ≡ false) (after : List Event) where
  turned : (s : List Event) → AsOften ((s ++ (x ∷ [])) ++ (y ∷ [])) ((s ++ (y ∷ [])) ++ (x ∷ []))
  turned s e =
      let a = often_append e (s ++ (x ∷ [])) (y ∷ []) in
      let b = often_append e s (x ∷ []) in
      let c = often_append e (s ++ (y ∷ [])) (x ∷ []) in
      let d = often_append e s (y ∷ []) in
      omega arith

  pub exchanged_parts : (s before : List Event) → Lifted AsOften (parts s (before ++ x ∷ y ∷ after)) (parts s (before ++ y ∷ x ∷ after))
  exchanged_parts s [] = rw (p, q) (as_often_parts ((s ++ (x ∷ [])) ++ (y ∷ [])) ((s ++ (y ∷ [])) ++ (x ∷ [])) after (turned s))
  exchanged_parts s (e ∷ before) = by_conds (Lifted AsOften) (four_zeros e)
      (more (λ f. refl) (exchanged_parts [] before))
      (exchanged_parts (s ++ (e ∷ [])) before)
