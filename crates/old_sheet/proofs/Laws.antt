-- The laws of the 1959 sheet, computed at kind 5 and at kind 6. They cite no law of the machine's, so that ci/edits tries wrong machines without those.
use mathlib.Core.Path.{◌≡◌, refl, sym, ◌∙◌, ap}
use mathlib.Core.Bool.{Bool, true, false, cond, not, ◌&&◌, ◌||◌, and-false}
use Prim.Native.Nat.{ℕ, zero, suc, pred, ◌<◌}
use native.Mathlib.Omega.{arith}
use lib.Dec.{eqb}
use lib.ListN.{get_or}
use borrow.Author.Tests.{eqb-true}
use Rattle.machine.specs.Common.{tab, any_below, bit}
use Rattle.machine.specs.Reports.{up, moving, down}
use Rattle.machine.specs.declared.Entry.{Entry}
use Rattle.machine.specs.declared.Crossing.{Crossing}
use Rattle.machine.specs.Plant.{calling, waiting, unsure_flag, boom, lamp, total, old_sheet, boom_count, booms_up, booms_closed, normal, secured}
use Rattle.machine.specs.Effects.{overlong, releases, tick, written_at}
use Rattle.machine.specs.Settling.{settle}
use Rattle.machine.specs.Step.{touch}
use Rattle.machine.specs.Panel.{road, boom_lamps, shows_white, signal, distant, released, releases_shown, status, row}
use Rattle.old_sheet.specs.Laws.{shown, is_secured, is_white, PanelLaw, too_long, completes, TickLaw, Laws}

-- Tests ------------------------------------------------------------------------------------------------------------------------------
either : (b : Bool) {A : Type 0} → (b ≡ true → A) → (b ≡ false → A) → A
either true f g = f refl
either false f g = g refl

-- a kind under the sheet is 5 or 6
by_kind : (kind : ℕ) → old_sheet kind ≡ true → {A : Type 0} → (kind ≡ 5 → A) → (kind ≡ 6 → A) → A
by_kind kind q f g = either (eqb kind 5) (λ e. f (eqb-true kind 5 e)) (λ e. g (eqb-true kind 6 (rw e at q)))

any_same : (n : ℕ) (f g : ℕ → Bool) → ((b : ℕ) → b < n → f b ≡ g b) → any_below n f ≡ any_below n g
any_same zero f g h = refl
any_same (suc n) f g h = rw (h n (omega arith), any_same n f g (λ b l. h b (omega arith)))

not_both : (a b : Bool) → bit (not (((a && b) && true) && true) && true) 1 ≡ bit (not a || not b) 1
not_both true true = refl
not_both true false = refl
not_both false b = refl

twice : (a : Bool) → ((a && true) && true) ≡ (a && true)
twice true = refl
twice false = refl

regroup : (a x y l m : Bool) → ((a && (((x && y) && true) && true)) && (l && m)) ≡ (a && ((x && l) && (y && m)))
regroup false x y l m = refl
regroup true false y l m = refl
regroup true true false l m = sym (and-false l)
regroup true true true l m = refl

no_white : (white old : Bool) → old ≡ true → (white && not old) ≡ false
no_white white old q = rw (q, and-false)

two : (b : Bool) → eqb (bit b 2) 2 ≡ b
two true = refl
two false = refl

-- in phases 1 and 3 the road is red exactly where that lamp is whole
red_is : (phase still : ℕ) (raised red : Bool) → ((eqb phase 1 || eqb phase 3) && eqb (cond (eqb phase 0 && raised) still (bit red 2)) 2) ≡ ((eqb phase 1 || eqb phase 3) && red)
red_is phase still raised red = either (eqb phase 1)
    (λ one. rw (eqb-true phase 1 one) (two red))
    (λ a. either (eqb phase 3) (λ three. rw (eqb-true phase 3 three) (two red)) (λ b. rw (a, b)))

-- The panel --------------------------------------------------------------------------------------------------------------------------
module _ (s : Entry) (q : old_sheet s.kind ≡ true) where
  booms_shown : (beat : ℕ) (c : Crossing) → shown beat s c 3 ≡ bit (any_below (boom_count s.kind) (λ b. not (eqb (boom c b) up))) 1
  unfolding row boom_lamps booms_up
  booms_shown beat c = by_kind s.kind q (λ k. simp (k, and-false)) (λ k. rw k (not_both (eqb (boom c 0) up) (eqb (boom c 1) up)))

  module _ (c : Crossing) where
    secured_is : secured s c ≡ is_secured s c
    unfolding secured is_secured booms_closed
    secured_is =
        let red = eqb c.phase 3 && lamp c 1 in
        let closed : ℕ → Bool = (λ b. eqb (boom c b) moving || eqb (boom c b) down) in
        by_kind s.kind q (λ k. rw k (twice red)) (λ k. rw k (regroup red (closed 0) (closed 1) (lamp c 5) (lamp c 6)))

    white_is : shows_white s c ≡ is_white s c
    unfolding shows_white is_white road normal
    white_is = by_kind s.kind q (λ k. rw k (ap (λ x. lamp c 3 && x) (red_is c.phase _ _ (lamp c 1)))) (λ k. rw (secured_is, k))

    panel : (beat : ℕ) → PanelLaw beat s c
    unfolding row road signal distant released releases_shown status
    panel beat = record {
      road = ap (λ x. cond (normal s c) (bit x 1) (bit (lamp c 1) 2)) (no_white (lamp c 0) (old_sheet s.kind) q);
      boom_lamps = booms_shown beat c;
      reports_alone = λ later d h. booms_shown later d ∙ ap (λ x. bit x 1) (any_same (boom_count s.kind) _ _ (λ b l. rw (h b l))) ∙ sym (booms_shown beat c);
      signal = by_kind s.kind q (λ k. rw (white_is, k)) (λ k. rw (white_is, k));
      distant = by_kind s.kind q (λ k. rw k) (λ k. rw k);
      released = rw secured_is;
      position = rw secured_is;
    }

-- The release ------------------------------------------------------------------------------------------------------------------------
-- what a table of four has at track t
at_track : (f : ℕ → ℕ) (t : ℕ) → t < 4 → get_or (tab 4 f) t 0 ≡ f t
at_track f zero l = refl
at_track f (suc zero) l = refl
at_track f (suc (suc zero)) l = refl
at_track f (suc (suc (suc zero))) l = refl
at_track f (suc (suc (suc (suc t)))) l = absurd (omega arith)

completes_is : (s : Entry) (c : Crossing) → old_sheet s.kind ≡ true → releases s c ≡ completes c
unfolding overlong too_long
completes_is s c q = by_kind s.kind q (λ k. rw k) (λ k. rw k)

tick_law : (s : Entry) (i : ℕ) (c : Crossing) → old_sheet s.kind ≡ true → TickLaw s i c
unfolding touch settle tick written_at
tick_law s i c q = record {
  written = ap (λ x. bit x (total c)) done;
  calls = cleared (calling c);
  waits = cleared (waiting c);
  marks = cleared (unsure_flag c);
  counts = ap (λ x. cond x 0 (pred c.countdown)) done;
}
  where
    done : releases s c ≡ completes c
    done = completes_is s c q

    cleared : (f : ℕ → ℕ) (t : ℕ) → t < 4 → get_or (tab 4 (λ u. cond (releases s c) 0 (f u))) t 0 ≡ cond (completes c) 0 (f t)
    cleared f t l = at_track (λ u. cond (releases s c) 0 (f u)) t l ∙ ap (λ x. cond x 0 (f t)) done

pub laws : Laws
laws = record { panel = λ beat s c q. panel s q c beat; tick = tick_law }
