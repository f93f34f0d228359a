use mathlib.Core.Path.{◌≡◌}
use lib.ListN.{length}
use Rattle.digits.proofs.Laws.{digits_joined}
use Rattle.lane.specs.Lanes.{crossing_of}
use borrow.Author.Rules.{rules}
use Rattle.lane.proofs.pack.Goals as goal

pub returns : goal.returns
unfolding crossing_of
returns c =
    let p = c.args.c in
    let l0 : length p.calling ≡ 4 = search (c.well_formed.0, rules) in
    let l1 : length p.waiting ≡ 4 = search (c.well_formed.0, rules) in
    let l2 : length p.route ≡ 4 = search (c.well_formed.0, rules) in
    let l3 : length p.occupied ≡ 4 = search (c.well_formed.0, rules) in
    let l4 : length p.unsure ≡ 4 = search (c.well_formed.0, rules) in
    let l5 : length p.booms ≡ 4 = search (c.well_formed.0, rules) in
    let l6 : length p.lamps ≡ 7 = search (c.well_formed.0, rules) in
    simp (c.join.ensures, digits_joined 256 4 p.calling l0 c.requires.calling, c.join-2.ensures, digits_joined 256 4 p.waiting l1 c.requires.waiting, c.join-3.ensures, digits_joined 2 4 p.route l2 c.requires.route, c.join-4.ensures, digits_joined 2 4 p.occupied l3 c.requires.occupied, c.join-5.ensures, digits_joined 2 4 p.unsure l4 c.requires.unsure, c.join-6.ensures, digits_joined 4 4 p.booms l5 c.requires.booms, c.join-7.ensures, digits_joined 2 7 p.lamps l6 c.requires.lamps, c.from.ensures, c.from-2.ensures, c.from-3.ensures, c.from-4.ensures, c.from-5.ensures, c.from-6.ensures, c.from-7.ensures)
