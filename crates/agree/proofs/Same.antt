-- Keys say the same as events: what is compared of two arrays is what the machine compares of the two sheets.
use mathlib.Core.Path.{◌≡◌, refl, sym, ap, ◌∙◌}
use mathlib.Core.Bool.{Bool, cond}
use mathlib.Core.List.{List, [], ◌∷◌, ◌++◌}
use Prim.Native.Nat.{ℕ, ◌+◌, ◌*◌, ◌≤◌, ◌<◌}
use native.Mathlib.Omega.{arith}
use lib.Dec.{eqb}
use lib.ListN.{length, take}
use borrow.Author.Tests.{eqb-true, eqb-false, eq-eqb}
use Rattle.std.specs.Prelude.{Ok}
use Rattle.std.specs.List.{slice_split, onto_first}
use Rattle.std.proofs.Common.{append_assoc, append-nil}
use Rattle.std.proofs.lemmas.List.Splits.{length-slice_split}
use Rattle.machine.specs.declared.Event.{Event}
use Rattle.machine.specs.Sheet.{sheet_size, sheet_event}
use Rattle.machine.specs.Shift as shift
use Rattle.machine.specs.Shift.{same_event, four_zeros, often, alike, parted, pairwise, agreed, first_failing}
use Rattle.machine.proofs.Tools.{by_test}
use Rattle.machine.proofs.Shifts.{same_is}
use Rattle.machine.proofs.Lifted.{Lifted, none, lifted_append, lifted_take, same_many, same_all, same_parts, same_pairs}
use Rattle.stretch.specs.Keys as keys
use Rattle.agree.specs.Keyed.{key, HasKey, Keyed, stretches, compared, agreement_of}

-- four bytes are those of one number alone
four_bytes : (a b c d a' b' c' d' : ℕ) → a < 256 → b < 256 → c < 256 → d < 256 → a' < 256 → b' < 256 → c' < 256 → d' < 256
    → a + 256 * b + 65536 * c + 16777216 * d ≡ a' + 256 * b' + 65536 * c' + 16777216 * d' → (a ≡ a') × (b ≡ b') × (c ≡ c') × (d ≡ d')
four_bytes a b c d a' b' c' d' h1 h2 h3 h4 h5 h6 h7 h8 e = (omega arith, omega arith, omega arith, omega arith)

-- two events are the same exactly when their keys are
same_key : (x y : Event) (k j : ℕ) → HasKey x k → HasKey y j → same_event x y ≡ eqb k j
unfolding same_event
same_key x y k j h g = by_test (eqb k j)
    (λ t. let e = four_bytes x.code x.crossing x.place x.value y.code y.crossing y.place y.value h.1 h.2 h.3 h.4 g.1 g.2 g.3 g.4 (sym h.0 ∙ eqb-true k j t ∙ g.0) in
    rw (eq-eqb _ _ e.0, eq-eqb _ _ e.1, eq-eqb _ _ e.2, eq-eqb _ _ e.3) (sym t))
    (λ t. by_test (same_event x y)
    (λ s. absurd (eqb-false k j t (h.0 ∙ ap key (same_is x y s) ∙ sym g.0)))
    (λ s. s ∙ sym t))

-- a tick has key 0, and no other event
zero_key : (x : Event) (k : ℕ) → HasKey x k → four_zeros x ≡ eqb k 0
unfolding four_zeros
zero_key x k h = same_key x (record { code = 0; crossing = 0; place = 0; value = 0 }) k 0 h (refl, omega arith, omega arith, omega arith, omega arith)

-- stretches of events and of their keys
alike_keys : (x x' : List Event) (y y' : List ℕ) → Lifted HasKey x y → Lifted HasKey x' y' → alike x x' ≡ keys.alike y y'
unfolding alike often keys.alike
alike_keys x x' y y' h g = same_all HasKey _ (keys.as_often y y')
    (λ e k w. rw (same_many HasKey (same_event e) (eqb k) (λ f j v. same_key e f k j w v) h, same_many HasKey (same_event e) (eqb k) (λ f j v. same_key e f k j w v) g))
    (lifted_append HasKey h g)

-- parted from what came before, or cut from the front: the same
abbrev onto : List ℕ → List (List ℕ) → List (List ℕ)
onto s [] = s ∷ []
onto s (x ∷ r) = (s ++ x) ∷ r

onto_none : (r : List (List ℕ)) → 0 < length r → onto [] r ≡ r
onto_none [] l = absurd (omega arith)
onto_none (x ∷ r) l = refl

onto_one : (s : List ℕ) (x : ℕ) (r : List (List ℕ)) → onto (s ++ (x ∷ [])) r ≡ onto s (onto_first x r)
onto_one s x [] = refl
onto_one s x (y ∷ r) = ap (λ v. v ∷ r) (append_assoc s (x ∷ []) y)

module _ (f : ℕ → Bool) where
  parted_onto : (s l : List ℕ) → parted f s l ≡ onto s (slice_split f l)
  parted_onto s [] = ap (λ v. v ∷ []) (sym (append-nil s))
  parted_onto s (x ∷ l) = by_test (f x)
      (λ t. rw (t, append-nil s, parted_onto [] l, onto_none (slice_split f l) (omega (arith, length-slice_split f l))))
      (λ t. rw t (parted_onto (s ++ (x ∷ [])) l ∙ onto_one s x (slice_split f l)))

  parted_split : (l : List ℕ) → parted f [] l ≡ slice_split f l
  parted_split l = parted_onto [] l ∙ onto_none (slice_split f l) (omega (arith, length-slice_split f l))

-- the stretches of a sheet and those of its keys
stretches_keys : (a s : List ℕ) (m : ℕ) → m ≡ sheet_size s → m ≤ length a → Keyed a s m → Lifted (Lifted HasKey) (shift.stretches s) (stretches (take m a))
unfolding shift.stretches
stretches_keys a s m e b h =
    rw (← parted_split keys.is_zero (take m a), ← e) (same_parts HasKey four_zeros keys.is_zero zero_key none (lifted_take HasKey m (sheet_event s) a 0 b h))

module _ (a s : List ℕ) (m : ℕ) (e : m ≡ sheet_size s) (u : m ≤ length a) (h : Keyed a s m) (b t : List ℕ) (n : ℕ) (f : n ≡ sheet_size t) (v : n ≤ length b) (g : Keyed b t n) where
  pub compared_keys : agreement_of (Ok (compared (take m a) (take n b))) ≡ record { number = 0; agreed = agreed s t; stretch = cond (agreed s t) 0 (first_failing s t) }
  unfolding compared agreed first_failing
  compared_keys =
      let w = same_pairs (Lifted HasKey) alike keys.alike alike_keys (stretches_keys a s m e u h) (stretches_keys b t n f v g) in
      by_test (pairwise alike (shift.stretches s) (shift.stretches t)) (λ q. rw (← w.0, q)) (λ q. rw (← w.0, ← w.1, q))
