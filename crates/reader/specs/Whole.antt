-- A whole sheet: what its reader asks of the slice and the size beside it.
use Rattle.std.specs.Prelude.{◌≡◌, List, ℕ, ◌+◌, ◌*◌, ◌≤◌, length}
use Rattle.machine.specs.Sheet.{sheet_size, sheet_limit}

-- m is the size that the sheet states, at most 4,096, and the sheet has its length
abbrev pub Whole : List ℕ → ℕ → Type 0
Whole s m = (m ≡ sheet_size s) × (m ≤ sheet_limit) × (length s ≡ 2 + 4 * m)
