use mathlib.Core.Path.{◌≡◌, sym, ◌∙◌, ap}
use native.Mathlib.Omega.{arith}
use lib.ListN.{length, get_or}
use Rattle.std.proofs.Common.{rules, sum}
use Rattle.std.proofs.iter.runs.Sources.{sums}
use Rattle.machine.specs.Common.{tab, sum4}
use Rattle.machine.proofs.Tools.{tab_getD}
use Rattle.panel_bytes.proofs.sum.Goals as goal

pub sum-requires-clause-fits : goal.sum-requires-clause-fits
sum-requires-clause-fits c = search (rules, sums)

pub returns : goal.returns
returns c =
    let l = c.args.count in
    let size : length l ≡ 4 = search rules in
    let all : c.sum.result ≡ sum l = search (rules, sums) in
    let four : sum (tab 4 (λ t. get_or l t 0)) ≡ sum4 (λ t. get_or l t 0) = omega arith in
    all ∙ ap sum (sym (tab_getD 4 l 0 size)) ∙ four
