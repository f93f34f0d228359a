-- Ranges: number 15, a held number outside its range, and the ranges of the settings (number 3).
use Rattle.std.specs.Prelude.{Bool, cond, not, ◌&&◌, ◌||◌, ℕ, ◌^◌, eqb, ltb, leb}
use Rattle.machine.specs.Common.{all_below, bit}
use Rattle.machine.specs.Reports.{lost}
use Rattle.machine.specs.Plant.{Entry, Crossing, Plant, release_ticks, most_ticks, full, calling, waiting, route_flag, occupied_flag, unsure_flag, boom, lamp_flag, trains, entry, crossing, dependent, lights_only, four_booms, old_booms, boom_count, lamp_count}

-- F: 1 to 180; 15, which are 5 seconds, for kind 6 (T-09)
abbrev pub pre_in : ℕ → ℕ → Bool
pre_in kind pre = cond (old_booms kind) (eqb pre 15) (leb 1 pre && leb pre 180)

-- G: 1 to 90 for kind 4, otherwise 0
abbrev pub gap_in : ℕ → ℕ → Bool
gap_in kind gap = cond (four_booms kind) (leb 1 gap && leb gap 90) (eqb gap 0)

-- Kind 1 to 6 (T-09); tracks 1 to 4; no mask bit at or above the track count; F; G; M 0 to 540 (T-06)
unfoldable pub entry_in : Entry → Bool
entry_in s =
    leb 1 s.kind && leb s.kind 6
    && (leb 1 s.tracks && leb s.tracks 4)
    && ltb s.mask (2 ^ s.tracks)
    && pre_in s.kind s.pre
    && gap_in s.kind s.gap
    && leb s.pause 540

-- an entry past n is all zero
unfoldable pub entry_zero : Entry → Bool
entry_zero s = eqb s.kind 0 && eqb s.tracks 0 && eqb s.mask 0 && eqb s.pre 0 && eqb s.gap 0 && eqb s.pause 0

-- a flag is 0 or 1
abbrev pub flag_in : ℕ → Bool
flag_in flag = leb flag 1

-- nothing on a track, and it is not unsure (T-01)
abbrev pub track_zero : Crossing → ℕ → Bool
track_zero c t = eqb (calling c t) 0 && eqb (waiting c t) 0 && eqb (route_flag c t) 0 && eqb (occupied_flag c t) 0 && eqb (unsure_flag c t) 0

-- trains together at most 255; route, occupation and unsure (T-01) are flags; a plain track has no train waiting and no route; a track
-- that the crossing lacks is all zero
unfoldable pub track_in : Entry → Crossing → ℕ → Bool
track_in s c t =
    leb (trains c t) full
    && (flag_in (route_flag c t) && flag_in (occupied_flag c t) && flag_in (unsure_flag c t))
    && (dependent s t || (eqb (waiting c t) 0 && eqb (route_flag c t) 0))
    && (ltb t s.tracks || track_zero c t)

-- a report is at most lost (T-02); that of a boom which the crossing lacks is 0
abbrev pub report_limit : Bool → ℕ
report_limit present = cond present lost 0

-- the last report of boom b
abbrev pub boom_in : Entry → Crossing → ℕ → Bool
boom_in s c b = leb (boom c b) (report_limit (ltb b (boom_count s.kind)))

-- the last report of lamp l is a flag; that of a lamp which the crossing lacks is 0 (T-09)
abbrev pub lamp_in : Entry → Crossing → ℕ → Bool
lamp_in s c l = leb (lamp_flag c l) (bit (ltb l (lamp_count s.kind)) 1)

-- timer 1 to F in phase 1, 1 to G in phase 2 (kind 4 only), 0 in phases 0, 3 and 4 (kinds with booms)
unfoldable pub phase_in : Entry → ℕ → ℕ → Bool
phase_in s phase timer =
    cond (eqb phase 1) (leb 1 timer && leb timer s.pre)
    (cond (eqb phase 2) (four_booms s.kind && (leb 1 timer && leb timer s.gap))
    (eqb timer 0 && (eqb phase 0 || eqb phase 3 || (eqb phase 4 && not (lights_only s.kind)))))

-- ticks left to motorists (T-06) are at most M, 0 outside phase 0
abbrev pub left_limit : Entry → ℕ → ℕ
left_limit s phase = bit (eqb phase 0) s.pause

-- the numbers of a crossing
unfoldable pub crossing_in : Entry → Crossing → Bool
crossing_in s c =
    all_below 4 (track_in s c)
    && all_below 4 (boom_in s c)
    && all_below 7 (lamp_in s c)
    && (flag_in c.kiosk && flag_in c.operator)
    && leb c.countdown release_ticks
    && phase_in s c.phase c.timer
    && leb c.left (left_limit s c.phase)
    && leb c.out most_ticks

-- a record past n is all zero
unfoldable pub crossing_zero : Crossing → Bool
crossing_zero c =
    all_below 4 (track_zero c)
    && all_below 4 (λ b. eqb (boom c b) 0)
    && all_below 7 (λ l. eqb (lamp_flag c l) 0)
    && eqb c.kiosk 0 && eqb c.operator 0
    && eqb c.countdown 0 && eqb c.phase 0 && eqb c.timer 0 && eqb c.left 0 && eqb c.out 0

-- the entry and the record at place i of n
unfoldable pub place_in : ℕ → ℕ → Entry → Crossing → Bool
place_in n i s c = cond (ltb i n) (entry_in s && crossing_in s c) (entry_zero s && crossing_zero c)

-- n is 1 to 8
abbrev pub count_in : ℕ → Bool
count_in n = leb 1 n && leb n 8

-- every held number, settings included, is in its range
unfoldable pub in_range : Plant → Bool
in_range p =
    count_in p.site.n
    && leb p.beat 3
    && all_below 8 (λ i. place_in p.site.n i (entry p i) (crossing p i))
