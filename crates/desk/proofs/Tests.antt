-- Two tests that agree, as a test: so that a table of them is computed at once.
use mathlib.Core.Path.{◌≡◌, refl}
use mathlib.Core.Bool.{Bool, true, false, cond, not, false≢true}

abbrev pub agree : Bool → Bool → Bool
agree a b = cond a b (not b)

pub agrees : (a b : Bool) → agree a b ≡ true → a ≡ b
agrees true true q = refl
agrees true false q = absurd (false≢true q)
agrees false true q = absurd (false≢true q)
agrees false false q = refl
