use mathlib.Core.Path.{◌≡◌}
use native.Mathlib.Omega.{arith}
use lib.ListN.{length}
use Rattle.slots.proofs.Sweeps.{begun_eight, small_read}
use borrow.Author.Rules.{rules}
use Rattle.slots.proofs.begin.Goals as goal

pub first-requires-2 : goal.first-requires-2
first-requires-2 c =
    let l : length c.args.crossings ≡ 8 = search (c.well_formed, rules) in small_read c.args.crossings l c.requires 1 (omega arith)

pub first-requires-3 : goal.first-requires-3
first-requires-3 c =
    let l : length c.args.crossings ≡ 8 = search (c.well_formed, rules) in small_read c.args.crossings l c.requires 2 (omega arith)

pub first-requires-4 : goal.first-requires-4
first-requires-4 c =
    let l : length c.args.crossings ≡ 8 = search (c.well_formed, rules) in small_read c.args.crossings l c.requires 3 (omega arith)

pub first-requires-5 : goal.first-requires-5
first-requires-5 c =
    let l : length c.args.crossings ≡ 8 = search (c.well_formed, rules) in small_read c.args.crossings l c.requires 4 (omega arith)

pub first-requires-6 : goal.first-requires-6
first-requires-6 c =
    let l : length c.args.crossings ≡ 8 = search (c.well_formed, rules) in small_read c.args.crossings l c.requires 5 (omega arith)

pub first-requires-7 : goal.first-requires-7
first-requires-7 c =
    let l : length c.args.crossings ≡ 8 = search (c.well_formed, rules) in small_read c.args.crossings l c.requires 6 (omega arith)

pub first-requires-8 : goal.first-requires-8
first-requires-8 c =
    let l : length c.args.crossings ≡ 8 = search (c.well_formed, rules) in small_read c.args.crossings l c.requires 7 (omega arith)

pub returns : goal.returns
returns c =
    let l : length c.args.crossings ≡ 8 = search (c.well_formed, rules) in begun_eight c.args.crossings l _ _ _ _ _ _ _ _ c.first.ensures c.first-2.ensures c.first-3.ensures c.first-4.ensures c.first-5.ensures c.first-6.ensures c.first-7.ensures c.first-8.ensures
