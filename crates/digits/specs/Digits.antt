-- Numbers by their digits: several small numbers held as one.
use Rattle.std.specs.Prelude.{List, [], ◌∷◌, ℕ, zero, suc, ◌+◌, ◌*◌, ◌/◌, ◌%◌}
use Rattle.machine.specs.Common.{tab}

-- digit t of w in base b, the lowest first
abbrev pub digit : ℕ → ℕ → ℕ → ℕ
digit b w zero = w % b
digit b w (suc t) = digit b (w / b) t

-- the first n digits
abbrev pub digits : ℕ → ℕ → ℕ → List ℕ
digits b n w = tab n (digit b w)

-- the number whose digits are these
abbrev pub joined : ℕ → List ℕ → ℕ
joined b [] = 0
joined b (x ∷ l) = x + b * joined b l
