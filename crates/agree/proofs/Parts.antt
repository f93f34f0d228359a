-- What an iterator over the parts of a shift has left, and what a call of `next` takes of it.
use mathlib.Core.Path.{◌≡◌, refl, ap, ◌∙◌}
use mathlib.Core.Bool.{Bool, true, false, cond}
use mathlib.Core.List.{List, [], ◌∷◌, ◌++◌}
use Prim.Native.Nat.{ℕ}
use native.Mathlib.Omega.{arith}
use lib.ListN.{length}
use denote.Ref.{Bor}
use denote.Param.Members.{Mut}
use Rattle.std.specs.declared.slice.Split.{Split}
use Rattle.std.specs.Prelude.{Some}
use Rattle.std.specs.Bool.{MatchBool}
use Rattle.std.specs.Fn.{ComputesKey, CalledAt}
use Rattle.std.specs.List.{All, slice_split, IsFirstMatchOrLen}
use Rattle.std.specs.Slice.Iter.{split_steps, split_rest, split_done, split_callee}
use Rattle.std.proofs.lemmas.Fn.{always_returns_same}
use Rattle.std.proofs.lemmas.Grind.{common_steps}
use Rattle.std.proofs.lemmas.List.Splits.{slice_split_none, slice_split_at}
use Rattle.stretch.specs.Keys.{is_zero}

module _ {F : Type 0} where
  -- the parts that are left, none once the last has come
  abbrev pub left : Split ℕ F → List (List ℕ)
  left s = cond (split_done s) [] (slice_split is_zero (split_rest s))

  pub none_left : (s : Split ℕ F) → split_done s ≡ true → left s ≡ []
  none_left s e = ap (λ b. cond b [] (slice_split is_zero (split_rest s))) e

first_part : (xs x rest : List ℕ) (done : Bool) → MatchBool done (xs ≡ x) ((y : ℕ) × (xs ≡ x ++ (y ∷ rest))) → IsFirstMatchOrLen is_zero xs (length x)
    → slice_split is_zero xs ≡ x ∷ cond done [] (slice_split is_zero rest)
first_part xs x rest true e h =
    let front : All (λ z. is_zero z ≡ false) x = λ k d l. let a = h.0 k d (omega arith) l in grind (arith, common_steps) in
    ap (slice_split is_zero) e ∙ slice_split_none is_zero x front
first_part xs x rest false e h =
    let front : All (λ z. is_zero z ≡ false) x = λ k d l. let a = h.0 k d (omega arith) l in let b = e.1 in grind (arith, common_steps) in
    let hit : is_zero e.0 ≡ true = let b = e.1 in let a = h.1 (grind (arith, common_steps)) e.0 in grind (arith, common_steps) in
    ap (slice_split is_zero) e.1 ∙ slice_split_at is_zero x e.0 rest front hit

-- the closure tells the keys of ticks, whenever it is called
module _ {F : Type 0} (g : Mut F (Bor ℕ × Unit {0}) Bool) (s t : Split ℕ F) where
  pub part_comes : (x : Bor (List ℕ)) → ((y : ℕ) (b : Bool) (q : F) → CalledAt g (split_callee s) y b q → (b ≡ is_zero y) × (q ≡ split_callee s)) → split_steps g s (Some x) t → left s ≡ x.now ∷ left t
  part_comes x tests k =
      let computes : ComputesKey g is_zero (split_callee s) =
      always_returns_same g (λ a r. r ≡ is_zero a.0.now) (split_callee s) (λ a r q e. tests a.0.now r q (record { shown = a.0; shows = refl; called = e })) in
      ap (λ b. cond b [] (slice_split is_zero (split_rest s))) k.0 ∙ first_part _ x.now _ (split_done t) k.1 (k.2 is_zero computes).1
