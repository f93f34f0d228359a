use Rattle.std.proofs.Common.{rules}
use Rattle.machine.specs.Range.{lamp_in}
use Rattle.machine.proofs.Below.{all_range}
use Rattle.held.proofs.lamps_in.Goals as goal

pub returns : goal.returns
returns c = all_range 7 (lamp_in c.args.s c.args.c) (cc) c.all.ensures.ran (λ x b q k. search rules)
