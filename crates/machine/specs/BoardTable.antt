-- The printed table of source document 000, section 3.4.3 (document 02, T-08), for 870 mm/s2: five speeds by seven gradients. The formula
-- decides (Board); the table is carried beside it.
use Rattle.std.specs.Prelude.{cond, ◌&&◌, List, [], ◌∷◌, ℕ, ltb, get_or, ℤ, pos, negsuc}
pub use Rattle.machine.specs.declared.BoardCell.{BoardCell}

-- its heads: speeds down, km/h
abbrev pub table_speeds : List ℕ
table_speeds = 45 ∷ 60 ∷ 75 ∷ 100 ∷ 120 ∷ []

-- gradients across, per mille; negsuc 4 is -5
abbrev pub table_gradients : List ℤ
table_gradients = pos 15 ∷ pos 10 ∷ pos 5 ∷ pos 0 ∷ negsuc 4 ∷ negsuc 9 ∷ negsuc 14 ∷ []

-- its retardation, mm/s2
abbrev pub table_retardation : ℕ
table_retardation = 870

-- its distances, m
abbrev pub table_distances : List (List ℕ)
table_distances =
    (120 ∷ 120 ∷ 130 ∷ 130 ∷ 140 ∷ 140 ∷ 150 ∷ [])
    ∷ (190 ∷ 200 ∷ 200 ∷ 210 ∷ 220 ∷ 230 ∷ 250 ∷ [])
    ∷ (280 ∷ 290 ∷ 300 ∷ 320 ∷ 330 ∷ 350 ∷ 370 ∷ [])
    ∷ (470 ∷ 490 ∷ 510 ∷ 530 ∷ 560 ∷ 590 ∷ 620 ∷ [])
    ∷ (650 ∷ 680 ∷ 710 ∷ 740 ∷ 780 ∷ 820 ∷ 870 ∷ [])
    ∷ []

-- the cell of a row and a column, with its heads and the table's retardation; all zero outside the table
unfoldable pub printed : ℕ → ℕ → BoardCell
printed i j =
    cond (ltb i 5 && ltb j 7)
    (record {
      speed = get_or table_speeds i 0;
      retardation = table_retardation;
      gradient = get_or table_gradients j (pos 0);
      distance = get_or (get_or table_distances i []) j 0;
    })
    (record { speed = 0; retardation = 0; gradient = pos 0; distance = 0 })
