use Rattle.event.proofs.Steps.{own_below, own_room, own_step}
use Rattle.machine.specs.Events.{listed}
use Rattle.plant.proofs.Laws.{eight_crossings, crossing_read}
use Rattle.train.proofs.Taken.{bytes_take}
use borrow.Author.Rules.{rules}
use borrow.Author.Tests.{ne_eqb}
use lib.ListN.{length}
use native.Mathlib.Omega.{arith}
use Prim.Native.Nat.{◌<◌}
use mathlib.Core.Path.{sym}
use Rattle.event.proofs.take_own.Goals as goal

pub bounds-site-k : goal.bounds-site-k
bounds-site-k c = let a = c in rw c.from-k.ensures (own_below _ _ a.requires.0 (ne_eqb _ _ a.requires.1))

pub bounds-p-k : goal.bounds-p-k
bounds-p-k c = let a = c in rw c.from-k.ensures (own_below _ _ a.requires.0 (ne_eqb _ _ a.requires.1))

pub apply-d-requires : goal.apply-d-requires
apply-d-requires c =
    let a = c in
    let p = a.args.p in
    let e = a.args.e in
    let z = ne_eqb e.code 0 a.requires.1 in
    let len = eight_crossings p _ a.well_formed.0 in
    let l : e.crossing < length p.crossings = omega (arith, own_below p (listed e) a.requires.0 z) in
    bytes_take (rw (c.from-k.ensures, crossing_read p.crossings e.crossing l) (own_room p (listed e) a.requires.0 z)) (search rules)

pub bounds-q-k : goal.bounds-q-k
bounds-q-k c = let a = c in rw c.from-k.ensures (own_below _ _ a.requires.0 (ne_eqb _ _ a.requires.1))

pub returns : goal.returns
returns c =
    let a = c in
    let p = a.args.p in
    let e = a.args.e in
    let z = ne_eqb e.code 0 a.requires.1 in
    let len = eight_crossings p _ a.well_formed.0 in
    let l : e.crossing < length p.crossings = omega (arith, own_below p (listed e) a.requires.0 z) in
    simp (c.apply-d.ensures, c.written_off-off.ensures.value, c.from-k.ensures, crossing_read p.crossings e.crossing l) (sym (own_step p (listed e) len a.requires.0 z))
