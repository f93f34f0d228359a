-- Laws of digits, in any base.
use mathlib.Core.Path.{◌≡◌, refl, sym, ◌∙◌, ap}
use mathlib.Core.Bool.{Bool, ◌&&◌, ◌||◌}
use mathlib.Core.List.{List, [], ◌∷◌}
use Prim.Native.Nat.{ℕ, zero, suc, ◌+◌, ◌-◌, ◌*◌, ◌/◌, ◌%◌, ◌^◌, ◌≤◌, ◌<◌}
use native.Mathlib.Numerals.{add-one}
use native.Mathlib.Omega.{arith}
use native.Mathlib.Nat.{pow-zero, pow-suc, pow-succ', one-le-pow, mod-lt, mod-eq_of_lt, mod-one, mod-add-div, div-one, div-eq_of_lt, add-mul-div_left, add-mul-mod_self_left, div-div-eq-div-mul, mul-zero, mul-suc, mul-le-mul_left, mul-le-mul_right, pow-le-pow_right}
use lib.Dec.{eqb, ltb}
use lib.Pow.{pow-add, pow-lt, pow_mono, pow_pos}
use lib.ListN.{length, get_or, set, length-set}
use lib.Seq.{get_or-set_same, get_or-set_other}
use borrow.Author.Tests.{eq-eqb, ne_eqb, lt-ltb, le-ltb}
use Rattle.machine.specs.Common.{any_below, all_below}
use Rattle.machine.proofs.Tools.{below_suc, tab_getD, tab_same}
use Rattle.digits.specs.Digits.{digit, digits, joined}

-- the rest of a division by b and p
mod_more : (b p w : ℕ) → 0 < b → 0 < p → w % (b * p) ≡ w % b + b * ((w / b) % p)
mod_more b p w pos l =
    let q = w / b in
    let r : w % b < b = mod-lt w pos in
    let m : q % p < p = mod-lt q l in
    let h = mod-add-div w b in
    let g = ap (λ x. b * x) (mod-add-div q p) in
    let k : b * suc (q % p) ≤ b * p = mul-le-mul_left b m in
    let e : w ≡ (w % b + b * (q % p)) + (b * p) * (q / p) = omega arith in
    let f : w % b + b * (q % p) < b * p = omega arith in
    ap (λ x. x % (b * p)) e ∙ add-mul-mod_self_left (w % b + b * (q % p)) (b * p) (q / p) ∙ mod-eq_of_lt f

-- a sum is 0 where both are
either_sum : (p a d : ℕ) → 0 < p → (ltb 0 a || ltb 0 d) ≡ ltb 0 (a + p * d)
either_sum p (suc a) d l = rw (lt-ltb 0 (suc a) (omega arith)) (sym (lt-ltb 0 (suc a + p * d) (omega arith)))
either_sum p zero (suc d) l = lt-ltb 0 (suc d) (omega arith) ∙ sym (lt-ltb 0 (0 + p * suc d) (omega arith))
either_sum p zero zero l = sym (le-ltb 0 (0 + p * 0) (omega arith))

both_sum : (p a d : ℕ) → 0 < p → (eqb a 0 && eqb d 0) ≡ eqb (a + p * d) 0
both_sum p (suc a) d l = rw (ne_eqb (suc a) 0 (λ z. omega arith)) (sym (ne_eqb (suc a + p * d) 0 (λ z. omega arith)))
both_sum p zero (suc d) l = ne_eqb (suc d) 0 (λ z. omega arith) ∙ sym (ne_eqb (0 + p * suc d) 0 (λ z. omega arith))
both_sum p zero zero l = sym (eq-eqb (0 + p * 0) 0 (omega arith))

module _ (b : ℕ) where
  low_mod : (x y : ℕ) → x < b → (x + b * y) % b ≡ x
  low_mod x y l = add-mul-mod_self_left x b y ∙ mod-eq_of_lt l

  low_div : (x y : ℕ) → x < b → (x + b * y) / b ≡ y
  low_div x y l = let z = div-eq_of_lt l in let e = add-mul-div_left x y {y = b} (omega arith) in omega arith

  -- digits of a list
  pub digits_joined : (n : ℕ) (l : List ℕ) → length l ≡ n → ((t : ℕ) → t < n → get_or l t 0 < b) → digits b n (joined b l) ≡ l
  digits_joined zero [] e h = refl
  digits_joined zero (x ∷ l) e h = absurd (omega arith)
  digits_joined (suc n) [] e h = absurd (omega arith)
  digits_joined (suc n) (x ∷ l) e h =
      let m : x < b = h 0 (omega arith) in
      let ih = digits_joined n l (omega arith) (λ t k. h (suc t) (omega arith)) in
      simp (low_mod x (joined b l) m, low_div x (joined b l) m, ih)

  -- w with v for digit t
  pub put : ℕ → ℕ → ℕ → ℕ
  put w zero v = v + b * (w / b)
  put w (suc t) v = w % b + b * put (w / b) t v

  pub put_digits : (n w t v : ℕ) → v < b → digits b n (put w t v) ≡ set (digits b n w) t v
  unfolding put
  put_digits zero w t v l = refl
  put_digits (suc n) w zero v l = simp (low_mod v (w / b) l, low_div v (w / b) l)
  put_digits (suc n) w (suc t) v l =
      let m : w % b < b = mod-lt w (omega arith) in
      simp (low_mod (w % b) (put (w / b) t v) m, low_div (w % b) (put (w / b) t v) m, put_digits n (w / b) t v l)

  -- what it adds and takes
  pub put_sum : (w t v : ℕ) → put w t v + digit b w t * b ^ t ≡ w + v * b ^ t
  unfolding put
  put_sum w zero v = let h = mod-add-div w b in rw (pow-zero b) (omega arith)
  put_sum w (suc t) v =
      let h = mod-add-div w b in
      let ih = ap (λ x. b * x) (put_sum (w / b) t v) in
      rw (pow-succ' b t) (omega arith)

  pub digit_at : (w t : ℕ) → digit b w t ≡ (w / b ^ t) % b
  digit_at w zero = rw (pow-zero b, div-one w)
  digit_at w (suc t) = digit_at (w / b) t ∙ rw (div-div-eq-div-mul w b (b ^ t), ← pow-succ' b t)

  module _ (pos : 0 < b) where
    pub digit_less : (w t : ℕ) → digit b w t < b
    digit_less w zero = mod-lt w pos
    digit_less w (suc t) = digit_less (w / b) t

    -- the first n digits are those of the rest
    pub digits_low : (n w : ℕ) → digits b n (w % b ^ n) ≡ digits b n w
    digits_low zero w = refl
    digits_low (suc n) w =
        let p : 0 < b ^ n = one-le-pow n b pos in
        let m : w % b < b = mod-lt w pos in
        rw (pow-succ' b n, mod_more b (b ^ n) w pos p) (simp (low_mod (w % b) ((w / b) % b ^ n) m, low_div (w % b) ((w / b) % b ^ n) m, digits_low n (w / b)))

    -- the rest by one digit more
    one_more : (n w : ℕ) → w % b ^ suc n ≡ w % b ^ n + b ^ n * digit b w n
    one_more n w = rw (pow-suc b n, digit_at w n) (mod_more (b ^ n) b w (one-le-pow n b pos) pos)

    -- some of them are not 0 where the rest is not
    pub any_on : (n w : ℕ) → any_below n (λ t. ltb 0 (digit b w t)) ≡ ltb 0 (w % b ^ n)
    any_on zero w = rw (pow-zero b, mod-one w)
    any_on (suc n) w = rw (any_on n w, one_more n w) (either_sum (b ^ n) (w % b ^ n) (digit b w n) (one-le-pow n b pos))

    -- all of them are 0 where the rest is
    pub none_on : (n w : ℕ) → all_below n (λ t. eqb (digit b w t) 0) ≡ eqb (w % b ^ n) 0
    none_on zero w = rw (pow-zero b, mod-one w)
    none_on (suc n) w = rw (none_on n w, one_more n w) (both_sum (b ^ n) (w % b ^ n) (digit b w n) (one-le-pow n b pos))

-- Flags, which are bits ----------------------------------------------------------------------------------------------------------
any_same : (n : ℕ) (f g : ℕ → Bool) → ((t : ℕ) → f t ≡ g t) → any_below n f ≡ any_below n g
any_same zero f g h = refl
any_same (suc n) f g h = rw (any_same n f g h, h n)

flag : (x : ℕ) → x < 2 → eqb x 1 ≡ ltb 0 x
flag zero l = refl
flag (suc zero) l = refl
flag (suc (suc x)) l = absurd (omega arith)

pub flags_on : (n w : ℕ) → any_below n (λ t. eqb (digit 2 w t) 1) ≡ ltb 0 (w % 2 ^ n)
flags_on n w = any_same n (λ t. eqb (digit 2 w t) 1) (λ t. ltb 0 (digit 2 w t)) (λ t. flag (digit 2 w t) (digit_less 2 (omega arith) w t)) ∙ any_on 2 (omega arith) n w

-- Shifts ------------------------------------------------------------------------------------------------------------------------
-- by t digits of k bits
pub shift : (k t : ℕ) → 2 ^ (k * t) ≡ (2 ^ k) ^ t
shift k zero = rw (mul-zero k, pow-zero 2, pow-zero (2 ^ k))
shift k (suc t) = rw (mul-suc k t, pow-add 2 (k * t) k, shift k t, pow-suc (2 ^ k) t)

-- 1 by k bits
pub one_shifted : (k : ℕ) → k < 64 → 1 * 2 ^ k % 18446744073709551616 ≡ 2 ^ k
one_shifted k l =
    let m : 2 ^ k < 18446744073709551616 = pow-lt l in
    let e : 1 * 2 ^ k ≡ 2 ^ k = omega arith in
    rw e (mod-eq_of_lt m)

-- A digit stored, as the code does it: what stood there, d, goes and v comes ----------------------------------------------------------
-- low: the first n digits; x and y: d and v at their place
pub record Stored (b n w t v low x y : ℕ) : Type 0 where
  pub less : x ≤ low
  pub room : low - x + y < 8589934592
  pub same : digits b n (low - x + y) ≡ set (digits b n w) t v

in_base : (b n w t v : ℕ) → 0 < b → t < n → v < b → b ^ n ≤ 4294967296
    → Stored b n w t v (w % b ^ n) (digit b (w % b ^ n) t * b ^ t % 18446744073709551616) (v * b ^ t % 18446744073709551616)
in_base b n w t v pos l h m =
    let low = w % b ^ n in
    let small : low < b ^ n = mod-lt w (one-le-pow n b pos) in
    let sum = put_sum b low t v in
    let none = put_sum b low t 0 in
    let most : b ^ suc t ≤ b ^ n = pow-le-pow_right pos l in
    let next = pow-succ' b t in
    let few : suc v * b ^ t ≤ b * b ^ t = mul-le-mul_right (b ^ t) h in
    let one : 1 ≤ b ^ t = one-le-pow t b pos in
    let a : digit b low t * b ^ t ≤ low = omega arith in
    let c : v * b ^ t < b ^ n = omega arith in
    let x : digit b low t * b ^ t % 18446744073709551616 ≡ digit b low t * b ^ t = mod-eq_of_lt (omega arith) in
    let y : v * b ^ t % 18446744073709551616 ≡ v * b ^ t = mod-eq_of_lt (omega arith) in
    let e : low - digit b low t * b ^ t + v * b ^ t ≡ put b low t v = omega arith in
    record {
      less = rw x a;
      room = rw (x, y) (omega arith);
      same = rw (x, y, e) (put_digits b n low t v h ∙ rw (digits_low b pos n w));
    }

pub stored : (k n w t v d : ℕ) → (k * n ≤ 32) × (t < n) × (v < 2 ^ k) → d ≡ digit (2 ^ k) (w % (1 * 2 ^ (k * n) % 18446744073709551616)) t
    → Stored (2 ^ k) n w t v (w % (1 * 2 ^ (k * n) % 18446744073709551616)) (d * 2 ^ (k * t) % 18446744073709551616) (v * 2 ^ (k * t) % 18446744073709551616)
stored k n w t v d h e =
    let m : 2 ^ (k * n) ≤ 4294967296 = pow_mono h.0 in
    rw (e, one_shifted (k * n) (omega (arith, h.0)), shift k n, shift k t)
    (in_base (2 ^ k) n w t v (pow_pos k) h.1 h.2 (rw (shift k n) at m))

-- digit t of n
pub reached : {k n t : ℕ} → k * n ≤ 32 → t < n → (k < 64) × (k * t < 64)
reached {k} {n} {t} h l =
    let m : k * suc t ≤ k * n = mul-le-mul_left k l in
    let e = mul-suc k t in
    (omega arith, omega arith)

-- Numbers joined, and read back --------------------------------------------------------------------------------------------------
-- a word of bytes, and one digit more, which fits where there are eight at most
pub bytes_more : (b i : ℕ) {w d : ℕ} → b ≤ 256 → w < 256 ^ i → d < 256 → d + b * w < 256 ^ (i + 1)
bytes_more b i {w} {d} l m k = let most : b * w ≤ 256 * w = mul-le-mul_right w l in rw (add-one i, pow-succ' 256 i) (omega arith)

pub eight_bytes : {i n : ℕ} → i < n → n ≤ 8 → 256 ^ (i + 1) ≤ 18446744073709551616
eight_bytes {i} l m = let most : i + 1 ≤ 8 = omega arith in pow-le-pow_right (omega arith) most

-- the next digit
pub next_digit : (b w i : ℕ) → (w / b ^ i) / b ≡ w / b ^ (i + 1)
next_digit b w i = rw (add-one i, pow-suc b i) (div-div-eq-div-mul w (b ^ i) b)

pub in_byte : (w : ℕ) {b : ℕ} → (1 ≤ b) × (b ≤ 256) → w % b < 256
in_byte w {b} h =
    let m : w % b < b = mod-lt w h.0 in
    let k = h.1 in
    omega arith

-- digits found one after the other
pub record Found (b n w : ℕ) (found : List ℕ) (rest i : ℕ) : Type 0 where
  pub size : length found ≡ n
  pub each : (k : ℕ) → k < i → get_or found k 0 ≡ digit b w k
  pub left : rest ≡ w / b ^ i

pub found_more : (b n w : ℕ) (l : List ℕ) (rest i : ℕ) → Found b n w l rest i → i < n → Found b n w (set l i (rest % b)) (rest / b) (i + 1)
found_more b n w l rest i h m = record {
  size = length-set l i (rest % b) ∙ h.size;
  each = rw (add-one i) (below_suc (λ k. get_or (set l i (rest % b)) k 0 ≡ digit b w k) i
      (λ k x. get_or-set_other l i k (rest % b) 0 (λ y. omega arith) ∙ h.each k x)
      (get_or-set_same l i (rest % b) 0 (let x = h.size in omega arith) ∙ rw h.left (sym (digit_at b w i))));
  left = rw h.left (next_digit b w i);
}

pub found_all : (b n w : ℕ) (l : List ℕ) (rest i : ℕ) → Found b n w l rest i → i ≡ n → l ≡ digits b n w
found_all b n w l rest i h e = sym (tab_getD n l 0 h.size) ∙ tab_same n (λ k. get_or l k 0) (digit b w) (λ k m. h.each k (omega arith))
