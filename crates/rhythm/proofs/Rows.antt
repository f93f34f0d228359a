-- Reading the table of rhythms (T-05): its places one by one, and the beats above 3. The table theorem, `each_row`, is about the code's own
-- table: row_of/Answers.antt.
use mathlib.Core.Path.{◌≡◌, refl}
use mathlib.Core.Bool.{false}
use Prim.Native.Nat.{ℕ, ◌≤◌, ◌<◌}
use native.Mathlib.Omega.{arith}
use lib.Dec.{eqb, ltb}
use borrow.Author.Tests.{ltb-true, ltb-false, ne_eqb}
use Rattle.machine.specs.declared.Rhythm.{Rhythm}
use Rattle.machine.specs.declared.Rhythm.TheVariants.{Slow, Fast, Steady}
use Rattle.machine.specs.Panel.{lit_at}
use Rattle.machine.proofs.Tools.{by_test, by_cond, below4}
use Rattle.rhythm.specs.Rows.{beat_read, place}

-- The places ---------------------------------------------------------------------------------------------------------------------------
pub within_4 : (beat : ℕ) → beat_read beat < 4
within_4 beat = by_cond (λ b. b < 4) (ltb beat 3) (λ q. let l : beat < 3 = ltb-true beat 3 q in omega arith) (λ _. omega arith)

pub within_12 : (rhythm : Rhythm) (beat : ℕ) → place rhythm beat < 12
within_12 Slow beat = let l = within_4 beat in omega arith
within_12 Fast beat = let l = within_4 beat in omega arith
within_12 Steady beat = let l = within_4 beat in omega arith

pub by_rhythm : {A : Type 0} (rhythm : Rhythm) → (rhythm ≡ Slow → A) → (rhythm ≡ Fast → A) → (rhythm ≡ Steady → A) → A
by_rhythm Slow f g h = f refl
by_rhythm Fast f g h = g refl
by_rhythm Steady f g h = h refl

pub by_beat : {A : Type 0} (beat : ℕ) → (beat_read beat ≡ 0 → A) → (beat_read beat ≡ 1 → A) → (beat_read beat ≡ 2 → A) → (beat_read beat ≡ 3 → A) → A
by_beat {A} beat f g h k = below4 (λ b. beat_read beat ≡ b → A) f g h k (beat_read beat) (within_4 beat) refl

-- The beats above 3 ----------------------------------------------------------------------------------------------------------------------
-- a rule that looks for beats 0 to 2 alone gives in any other what it gives at 3
elsewhere : (rhythm : Rhythm) (beat : ℕ) → eqb beat 0 ≡ false → eqb beat 1 ≡ false → eqb beat 2 ≡ false → lit_at rhythm 3 ≡ lit_at rhythm beat
unfolding lit_at
elsewhere Slow beat a b d = cc
elsewhere Fast beat a b d = cc
elsewhere Steady beat a b d = cc

-- so the beat that is read serves for the beat that was asked for
pub as_asked : (rhythm : Rhythm) (beat : ℕ) → lit_at rhythm (beat_read beat) ≡ lit_at rhythm beat
as_asked rhythm beat = by_test (ltb beat 3)
    (λ q. rw q refl)
    (λ q.
    let l : 3 ≤ beat = ltb-false beat 3 q in
    rw q (elsewhere rhythm beat (ne_eqb beat 0 (omega arith)) (ne_eqb beat 1 (omega arith)) (ne_eqb beat 2 (omega arith))))
