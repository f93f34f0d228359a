-- The version of the calls, 10,000 a + 100 b + c: a is 1, the machine of document 01; b counts the requests of document 02 that are built, c what
-- else has changed for a caller since.
use Rattle.std.specs.Prelude.{ℕ}

-- 1.9.0
abbrev pub version : ℕ
version = 10900
