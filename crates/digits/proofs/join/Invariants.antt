use mathlib.Core.Path.{◌≡◌}
use Prim.Native.Nat.{◌-◌, ◌<◌, ◌^◌}
use lib.ListN.{drop}
use Rattle.digits.specs.Digits.{joined}
use Rattle.digits.proofs.join.Given as goal

abbrev pub invariant-loop-i : goal.invariant-loop-i
invariant-loop-i g l = (l.word ≡ joined l.base (drop (g.row.N - l.i) l.a)) × (l.word < 256 ^ l.i)
