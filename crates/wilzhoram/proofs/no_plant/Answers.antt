-- each default is zero, field by field and place by place
use mathlib.Core.Path.{◌≡◌, refl}
use mathlib.Core.List.{List, map}
use Prim.Native.Nat.{ℕ}
use Rattle.std.specs.Array.{AllOfLen}
use Rattle.std.specs.List.{range_with_len}
use Rattle.std.proofs.lemmas.List.FromFn.{fill_by_all}
use Rattle.machine.specs.declared.Entry.{Entry}
use Rattle.machine.specs.declared.Site.{Site}
use Rattle.machine.specs.declared.Crossing.{Crossing}
use Rattle.machine.specs.Plant.{no_entry, fresh_crossing, fresh_plant}
use Rattle.machine.specs.SiteBook.{no_site}
use Rattle.wilzhoram.proofs.no_plant.Goals as goal

zeros : (n : ℕ) (l : List ℕ) → AllOfLen (λ x. x ≡ 0) l n → l ≡ map (λ _. 0) (range_with_len 0 n)
zeros n l a = fill_by_all (λ _. 0) l n 0 a.long (λ k b. a.at k 0 b)

-- what the derive says of an entry
abbrev IsZero : Entry → Type 0
IsZero e = (e.kind ≡ 0) × ((e.tracks ≡ 0) × ((e.mask ≡ 0) × ((e.pre ≡ 0) × ((e.gap ≡ 0) × (e.pause ≡ 0)))))

one : (e : Entry) → IsZero e → e ≡ no_entry
one e h =
    let r : ◌≡◌ {A = Entry} (record { kind = e.kind; tracks = e.tracks; mask = e.mask; pre = e.pre; gap = e.gap; pause = e.pause }) no_entry = simp (h.0, h.1.0, h.1.1.0, h.1.1.1.0, h.1.1.1.1.0, h.1.1.1.1.1) in
    r

entries : (l : List Entry) → AllOfLen IsZero l 8 → l ≡ map (λ _. no_entry) (range_with_len 0 8)
entries l a = fill_by_all (λ _. no_entry) l 8 no_entry a.long (λ k b. one _ (a.at k no_entry b))

pub returns : goal.returns
unfolding fresh_plant
returns c =
    let s = c.default.result in
    let ds = c.default.ensures in
    let site : ◌≡◌ {A = Site} (record { n = s.n; entries = s.entries }) no_site = simp (ds.0, entries _ ds.1) in
    let x = c.default-2.result in
    let dx = c.default-2.ensures in
    let flags : (l : List ℕ) → AllOfLen (λ y. y ≡ 0) l 4 → l ≡ map (λ _. 0) (range_with_len 0 4) = zeros 4 in
    let crossing : ◌≡◌ {A = Crossing} (record {
      calling = x.calling;
      waiting = x.waiting;
      route = x.route;
      occupied = x.occupied;
      unsure = x.unsure;
      booms = x.booms;
      lamps = x.lamps;
      kiosk = x.kiosk;
      operator = x.operator;
      countdown = x.countdown;
      phase = x.phase;
      timer = x.timer;
      left = x.left;
      out = x.out;
    }) (fresh_crossing 0) = simp (flags _ dx.0, flags _ dx.1.0, flags _ dx.1.1.0, flags _ dx.1.1.1.0, flags _ dx.1.1.1.1.0, flags _ dx.1.1.1.1.1.0, zeros 7 _ dx.1.1.1.1.1.1.0, dx.1.1.1.1.1.1.1.0, dx.1.1.1.1.1.1.1.1.0, dx.1.1.1.1.1.1.1.1.1.0, dx.1.1.1.1.1.1.1.1.1.1.0, dx.1.1.1.1.1.1.1.1.1.1.1.0, dx.1.1.1.1.1.1.1.1.1.1.1.1.0, dx.1.1.1.1.1.1.1.1.1.1.1.1.1) in
    let site_is : s ≡ no_site = site in
    let crossing_is : x ≡ fresh_crossing 0 = crossing in
    rw (site_is, crossing_is)
