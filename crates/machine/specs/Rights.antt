-- Rights (document 02, T-04): who may send what, and who sees which bytes of the panel.
use Rattle.std.specs.Prelude.{Bool, ◌&&◌, ◌||◌, ℕ, eqb, leb}
use Rattle.machine.specs.Senders.{detection, kiosk, local_operator, remote_centre}

-- the four senders
abbrev pub known_sender : ℕ → Bool
known_sender k = leb k remote_centre

-- by sender, code and value: detection 0, 1, 2, 5, 6, 8, 9; the kiosk 3; the operator 4 and 7; the centre 7, and 4 with value 1
unfoldable pub may_send : ℕ → ℕ → ℕ → Bool
may_send k code value =
    (eqb k detection && (eqb code 0 || eqb code 1 || eqb code 2 || eqb code 5 || eqb code 6 || eqb code 8 || eqb code 9))
    || (eqb k kiosk && eqb code 3)
    || (eqb k local_operator && (eqb code 4 || eqb code 7))
    || (eqb k remote_centre && (eqb code 7 || (eqb code 4 && eqb value 1)))

-- by sender and byte of a crossing: detection and kiosk all sixteen; operator and centre 0 and 6 to 11
unfoldable pub sees : ℕ → ℕ → Bool
sees k j = eqb k detection || eqb k kiosk || eqb j 0 || (leb 6 j && leb j 11)
