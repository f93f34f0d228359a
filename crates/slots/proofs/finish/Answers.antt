use Prim.Native.Nat.{ℕ}
use native.Mathlib.Omega.{arith}
use native.Mathlib.Nat.{le_refl}
use mathlib.Core.Path.{◌≡◌, ◌∙◌}
use lib.ListN.{length}
use Rattle.machine.specs.declared.Crossing.{Crossing}
use Rattle.machine.specs.Plant.{no_crossing}
use Rattle.machine.proofs.First.{first_tab}
use Rattle.slot.specs.Slots.{current}
use Rattle.slots.specs.Eight.{slot_at, entry_at, shown}
use borrow.Author.Rules.{rules}
use Rattle.slots.proofs.finish.Goals as goal

pub returns : goal.returns
unfolding shown
returns c =
    let l = c.args.crossings in
    let f : ℕ → Crossing = (λ j. current (entry_at c.args.site j) c.args.now (slot_at c.args.slots j)) in
    let w = c.loop-i.invariant in
    let end : c.loop-i.i ≡ 8 = omega arith in
    let eight : length l ≡ 8 = search (c.well_formed, rules) in
    rw end at w ∙ first_tab f l no_crossing 8 8 eight (le_refl 8) (λ i b k. absurd (omega arith))
