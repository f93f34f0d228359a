use mathlib.Core.Path.{◌≡◌}
use lib.ListN.{length}
use Rattle.agree.specs.Keyed.{Keyed}
use Rattle.agree.proofs.keys.Given as goal

abbrev pub invariant-loop-k : goal.invariant-loop-k
invariant-loop-k l = (length l.keys ≡ 256) × Keyed l.keys l.sheet.sheet.now l.k
