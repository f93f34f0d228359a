-- A cell of the printed table, in the machine's words.
use Rattle.std.specs.Prelude.{Option, Some, None, pos}
use Rattle.machine.specs.declared.BoardCell.{BoardCell}

-- all zero where there is none
abbrev pub cell_of : Option BoardCell → BoardCell
cell_of (Some cell) = cell
cell_of None = record { speed = 0; retardation = 0; gradient = pos 0; distance = 0 }
