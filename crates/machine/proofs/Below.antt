-- `all` over the numbers below n is `all_below`.
use Rattle.std.proofs.Common.{◌≡◌, ℕ, zero, suc, Bool, true, false, List, [], ◌∷◌, ◌++◌, Option, map, refl, arith, ◌∙◌, ap, sym, add-one}
use Rattle.std.specs.List.{list_all, range_with_len, FoldsTo}
use Rattle.std.specs.Iterator.{YieldsThen}
use Rattle.std.specs.Fn.{Called}
use Rattle.std.specs.Option.{MatchOption}
use Rattle.std.proofs.iter.Yields.{nat_range_steps}
use Rattle.std.proofs.lemmas.Iterator.{YieldsList-from_range}
use Rattle.std.proofs.lemmas.Iterator.Search.{all_from_yields_List}
use Rattle.std.proofs.lemmas.List.FromFn.{map-range_with_len_more}
use Rattle.std.proofs.lemmas.List.Folds.{list_all-append, list_all-map}
use Rattle.std.specs.declared.ops.Range.{Range}
use mathlib.Core.Bool.{and-true}
use denote.Param.Members.{Mut}
use Rattle.machine.specs.Common.{all_below}

all_in : (f : ℕ → Bool) (n : ℕ) → list_all f (range_with_len 0 n) ≡ all_below n f
all_in f zero = refl
all_in f (suc n) =
    let r = range_with_len 0 n in
    let more : map f (range_with_len 0 (suc n)) ≡ map f r ++ f n ∷ [] = rw add-one at (map-range_with_len_more f 0 n n (omega arith)) in
    sym (list_all-map (λ b. b) f (range_with_len 0 (suc n)))
    ∙ ap (list_all (λ b. b)) more
    ∙ list_all-append (λ b. b) (map f r) (f n ∷ [])
    ∙ rw (list_all-map, all_in f n, and-true)

-- the answer of `(0..n).all(..)`, where the closure answers a test
pub all_range : {F : Type 0} {g : Mut F (ℕ × Unit {0}) Bool} {s u : Range ℕ} {f : F} {r : Bool} (n : ℕ) (test : ℕ → Bool) → s ≡ record { start = 0; end = n } → (xs : List ℕ) × (o : Option ℕ) × (j : F) × YieldsThen nat_range_steps s xs o u × FoldsTo (λ p x q. Called g p (x, tt) true q) f xs j × MatchOption o (r ≡ true) (λ x. (r ≡ false) × ((h : F) × Called g j (x, tt) false h)) → ((x : ℕ) (b : Bool) (q : F) → Called g f (x, tt) b q → (q ≡ f) × (b ≡ test x)) → r ≡ all_below n test
all_range n test e ran h = all_from_yields_List test _ _ _ ran (YieldsList-from_range 0 n n e (omega arith)) h ∙ all_in test n
