-- Panel: sixteen bytes per crossing.
use Rattle.std.specs.Prelude.{Bool, true, cond, not, ◌&&◌, ◌||◌, List, [], ◌∷◌, ℕ, ◌+◌, ◌*◌, eqb, ltb, length}
pub use Rattle.machine.specs.declared.Rhythm.{Rhythm}
use Rattle.machine.specs.declared.Rhythm.TheVariants.{Slow, Fast, Steady}
use Rattle.machine.specs.Common.{tab, concat_below, sum4, bit, refuse, byte, low, high}
use Rattle.machine.specs.Numbers.{bad_output_length, out_of_range, unknown_sender}
use Rattle.machine.specs.Plant.{Entry, Crossing, Plant, overdue_ticks, calling, waiting, route, boom, lamp, kiosk, operator, entry, crossing, dependent, lights_only, four_booms, old_sheet, booms_up, booms_down, normal, secured}
use Rattle.machine.specs.Range.{in_range}
use Rattle.machine.specs.Rights.{known_sender, sees}

-- there are booms
abbrev pub has_booms : Entry → Bool
has_booms s = not (lights_only s.kind)

-- amber, a train signal of the 1959 sheet (T-09)
abbrev pub amber : ℕ
amber = 3

-- byte 0, road: 1 white in normal position, dark under the 1959 sheet (T-09), else 2 red; 0 dark if that lamp is dead
unfoldable pub road : Entry → Crossing → ℕ
road s c = cond (normal s c) (bit (lamp c 0 && not (old_sheet s.kind)) 1) (bit (lamp c 1) 2)

-- byte 3, boom lamps: 1 out of normal, under the 1959 sheet while a boom was not last reported up (T-09), kinds with booms
unfoldable pub boom_lamps : Entry → Crossing → ℕ
boom_lamps s c = bit (not (cond (old_sheet s.kind) (booms_up s.kind (boom c)) (normal s c)) && has_booms s) 1

-- the white of the 1959 sheet (T-09): lamp 3 whole, and with booms secured, with lights only phases 1 and 3 and the road red
unfoldable pub shows_white : Entry → Crossing → Bool
shows_white s c = lamp c 3 && cond (lights_only s.kind) ((eqb c.phase 1 || eqb c.phase 3) && eqb (road s c) 2) (secured s c)

-- byte 6, train signal: 2 passable when secured, else 1 stop; 0 if that lamp is dead. Under the 1959 sheet (T-09) 2 white, otherwise with booms
-- 3 amber on lamp 2, 0 if that is dead
unfoldable pub signal : Entry → Crossing → ℕ
signal s c =
    cond (old_sheet s.kind) (cond (shows_white s c) 2 (bit (lamp c 2 && has_booms s) amber))
    (cond (secured s c) (bit (lamp c 3) 2) (bit (lamp c 2) 1))

-- byte 7, distant: 2 white when byte 6 is 2, else 1 violet; under the 1959 sheet it equals byte 6 (T-09)
unfoldable pub distant : Entry → Crossing → ℕ
distant s c = cond (old_sheet s.kind) (signal s c) (cond (eqb (signal s c) 2) 2 1)

-- lit in a beat: slow rhythm, at beat 0; fast, at beats 0 and 2; steady, at every beat (T-05)
unfoldable pub lit_at : Rhythm → ℕ → Bool
lit_at Slow beat = eqb beat 0
lit_at Fast beat = eqb beat 0 || eqb beat 2
lit_at Steady beat = true

-- Which rhythm a signal has: slow, road white, stop and violet in normal position; fast, all else; steady, the flasher dead (T-05), and by
-- themselves amber and boom lamps of the 1959 sheet (T-09)
-- flasher dead: steady
abbrev pub flashing : Bool → Rhythm → Rhythm
flashing flasher rhythm = cond flasher rhythm Steady

-- slow in normal position, else fast
abbrev pub by_position : Bool → Bool → Rhythm
by_position flasher still = flashing flasher (cond still Slow Fast)

-- road: slow when white
unfoldable pub road_rhythm : Entry → Crossing → Rhythm
road_rhythm s c = flashing (lamp c 4) (cond (eqb (road s c) 1) Slow Fast)

-- boom lamps: fast; steady under the 1959 sheet (T-09)
unfoldable pub boom_rhythm : Entry → Crossing → Rhythm
boom_rhythm s c = cond (old_sheet s.kind) Steady (flashing (lamp c 4) Fast)

-- train signal and distant, by what it shows: slow in normal position; amber steady (T-09)
unfoldable pub train_rhythm : Entry → Crossing → ℕ → Rhythm
train_rhythm s c shown = cond (eqb shown amber) Steady (by_position (lamp c 4) (normal s c))

-- a signal is lit in this beat; a dark one is not
unfoldable pub is_lit : ℕ → Rhythm → ℕ → Bool
is_lit beat rhythm shown = ltb 0 shown && lit_at rhythm beat

-- byte 1, lit in this beat: bits 1 road, 2 boom lamps, 4 train signal, 8 distant
unfoldable pub lit : ℕ → Entry → Crossing → ℕ
lit beat s c =
    bit (is_lit beat (road_rhythm s c) (road s c)) 1
    + bit (is_lit beat (boom_rhythm s c) (boom_lamps s c)) 2
    + bit (is_lit beat (train_rhythm s c (signal s c)) (signal s c)) 4
    + bit (is_lit beat (train_rhythm s c (distant s c)) (distant s c)) 8

-- byte 2, bell: 1 out of normal, unless there are booms and all are reported down
unfoldable pub bell : Entry → Crossing → ℕ
bell s c = bit (not (normal s c) && not (has_booms s && booms_down s.kind (boom c))) 1

-- byte 4, order down, right: phases 2 and 3; 0 for lights only
unfoldable pub right_down : Entry → Crossing → ℕ
right_down s c = bit (has_booms s && (eqb c.phase 2 || eqb c.phase 3)) 1

-- byte 5, order down, left: phase 3, kind 4
unfoldable pub left_down : Entry → Crossing → ℕ
left_down s c = bit (four_booms s.kind && eqb c.phase 3) 1

-- the main signal of track t is released: t is dependent, its route set, secured
unfoldable pub released : Entry → Crossing → ℕ → Bool
released s c t = dependent s t && route c t && secured s c

-- byte 8, main signals released: bit t for track t
unfoldable pub releases_shown : Entry → Crossing → ℕ
releases_shown s c = bit (released s c 0) 1 + bit (released s c 1) 2 + bit (released s c 2) 4 + bit (released s c 3) 8

-- byte 9: bits 1 normal, 2 secured, 4 out of normal more than 900 ticks
unfoldable pub status : Entry → Crossing → ℕ
status s c = bit (normal s c) 1 + bit (secured s c) 2 + bit (ltb overdue_ticks c.out) 4

-- byte 11, holds: 1 kiosk + 2 operator
unfoldable pub holds : Crossing → ℕ
holds c = bit (kiosk c) 1 + bit (operator c) 2

-- the sixteen bytes; the last four are calling and waiting, summed over tracks, low byte first
unfoldable pub row : ℕ → Entry → Crossing → List ℕ
row beat s c =
    road s c
    ∷ lit beat s c
    ∷ bell s c
    ∷ boom_lamps s c
    ∷ right_down s c
    ∷ left_down s c
    ∷ signal s c
    ∷ distant s c
    ∷ releases_shown s c
    ∷ status s c
    ∷ c.phase
    ∷ holds c
    ∷ low (sum4 (calling c))
    ∷ high (sum4 (calling c))
    ∷ low (sum4 (waiting c))
    ∷ high (sum4 (waiting c))
    ∷ []

-- length 16n
unfoldable pub panel : Plant → List ℕ
panel p = concat_below p.site.n (λ i. row p.beat (entry p i) (crossing p i))

-- Views (T-04) -------------------------------------------------------------------------------------------------------------------
-- the bytes of a crossing as sender k sees them, the others 0
abbrev pub seen : ℕ → List ℕ → List ℕ
seen k bytes = tab 16 (λ j. bit (sees k j) (byte bytes j))

-- the panel as sender k sees it
unfoldable pub view : ℕ → Plant → List ℕ
view k p = concat_below p.site.n (λ i. seen k (row p.beat (entry p i) (crossing p i)))

-- A panel drawn for sender k: 15, 16, 14. `lent` is what the output held
unfoldable pub draw_number : Plant → ℕ → List ℕ → ℕ
draw_number p k lent =
    refuse (not (in_range p)) out_of_range
    (refuse (not (known_sender k)) unknown_sender
    (refuse (not (eqb (length lent) (16 * p.site.n))) bad_output_length
    0))

-- the bytes of the output after the call: what the sender sees or, refused, what it held
unfoldable pub drawn : Plant → ℕ → List ℕ → List ℕ
drawn p k lent = cond (eqb (draw_number p k lent) 0) (view k p) lent
