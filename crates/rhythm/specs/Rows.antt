-- The table of rhythms (T-05): which row is read, and what it must hold.
use Rattle.std.specs.Prelude.{cond, ℕ, ◌+◌, ltb}
use Rattle.machine.specs.declared.Rhythm.{Rhythm}
use Rattle.machine.specs.declared.Rhythm.TheVariants.{Slow, Fast, Steady}
use Rattle.machine.specs.Panel.{lit_at}
use Rattle.rhythm.specs.declared.Row.{Row}

-- a beat above 3, which no plant in range has, reads the row of beat 3
abbrev pub beat_read : ℕ → ℕ
beat_read beat = cond (ltb beat 3) beat 3

-- the place of a row: four rows for each rhythm
abbrev pub place : Rhythm → ℕ → ℕ
place Slow beat = beat_read beat
place Fast beat = 4 + beat_read beat
place Steady beat = 8 + beat_read beat

-- the row of a rhythm and a beat: lit where document 01 says so, above 3 too
abbrev pub row_of : Rhythm → ℕ → Row
row_of rhythm beat = record { 0 = rhythm; 1 = beat_read beat; 2 = lit_at rhythm beat }
