-- Views (T-04), one claim in words of its own: what a sender sees of a plant, and that nothing else reaches it.
use Rattle.std.specs.Prelude.{◌≡◌, Bool, true, cond, ◌||◌, List, ℕ, ◌+◌, ◌*◌, ◌≤◌, ◌<◌, eqb, leb, get_or, length}
use Rattle.machine.specs.declared.Plant.{Plant}
use Rattle.machine.specs.Range.{in_range}
use Rattle.machine.specs.Panel.{panel, draw_number, drawn}

-- byte j of crossing i in a panel
abbrev pub at : List ℕ → ℕ → ℕ → ℕ
at bytes i j = get_or bytes (16 * i + j) 0

-- byte j is for sender k: for 0 and 1, detection and kiosk, every byte; for the others 0 and 6 to 11
unfoldable pub shown_to : ℕ → ℕ → Bool
shown_to k j = leb k 1 || (eqb j 0 || eqb j 6 || eqb j 7 || eqb j 8 || eqb j 9 || eqb j 10 || eqb j 11)

-- two plants in range, of one size, whose panels are alike in the bytes for sender k
pub record Alike (k : ℕ) (p q : Plant) : Type 0 where
  pub range : (in_range p ≡ true) × (in_range q ≡ true)
  pub size : p.site.n ≡ q.site.n
  pub bytes : (i j : ℕ) → i < p.site.n → j < 16 → shown_to k j ≡ true → at (panel p) i j ≡ at (panel q) i j

-- The claim: p, q any plants, k any sender, known or not, lent any output
pub record Views : Type 0 where
  -- plants alike for a sender draw the same for it: number and whole output, whatever its length and its old bytes
  pub same : (k : ℕ) (p q : Plant) → Alike k p q → (lent : List ℕ) → (draw_number p k lent ≡ draw_number q k lent) × (drawn p k lent ≡ drawn q k lent)
  -- and plants in range, of one size, draw the same in a right frame for one of the four senders only if alike for it
  pub only : (k : ℕ) (p q : Plant) → k ≤ 3 → in_range p ≡ true → in_range q ≡ true → p.site.n ≡ q.site.n
      → (lent : List ℕ) → length lent ≡ 16 * p.site.n → drawn p k lent ≡ drawn q k lent → Alike k p q
  -- a drawing has the panel's bytes where they are for the sender, and 0 elsewhere
  pub bytes : (k : ℕ) (p : Plant) (lent : List ℕ) → draw_number p k lent ≡ 0 → (i j : ℕ) → i < p.site.n → j < 16
      → at (drawn p k lent) i j ≡ cond (shown_to k j) (at (panel p) i j) 0
  -- an unknown sender is told so before its frame is looked at
  pub unknown : (k : ℕ) (p : Plant) (lent : List ℕ) → in_range p ≡ true → 3 < k → draw_number p k lent ≡ 16
