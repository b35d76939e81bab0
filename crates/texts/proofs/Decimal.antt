-- The decimal digits of a number below 1,000,000: one digit, or the digits of a tenth and then the last one. They are 1
-- to 6 digits of that value, and the first is 0 for the number 0 alone. Assumes nothing.
use Prim.Native.Nat.{ℕ, zero, suc, ◌+◌, ◌-◌, ◌*◌, ◌/◌, ◌%◌, ◌^◌, ◌≤◌, ◌<◌}
use mathlib.Core.Path.{◌≡◌, refl, sym, ap, subst, ◌∙◌}
use mathlib.Core.Logic.{⊎_elim}
use mathlib.Core.Bool.{Bool, true}
use mathlib.Core.List.{List, [], ◌∷◌, ◌++◌}
use mathlib.Mathlib.Data.Bool.Basic.{and_elim_left, and_elim_right, and_intro}
use native.Mathlib.Nat.{pow-suc, mod-eq_of_lt}
use native.Mathlib.Omega.{arith}
use lib.ListN.{length, length-append}
use Rattle.std.specs.Prelude.{Option, None, Some, IfNone, IfSome}
use Rattle.std.specs.Option.{unwrap_or}
use borrow.Author.Tests.{lt-ltb, le-ltb, le-leb}
use Rattle.planes.specs.Lists.{every, at}
use Rattle.planes.proofs.Tests.{less_or_not}
use Rattle.texts.specs.Ascii.{is_digit, value_after, value, Numeral, last_digits, decimal}

-- the digits of a number below ten, and of a larger one
small : (k x : ℕ) → x < 10 → last_digits (suc k) x ≡ (48 + x) ∷ []
small k x h = rw (lt-ltb x 10 h, mod-eq_of_lt h)

large : (k x : ℕ) → 10 ≤ x → last_digits (suc k) x ≡ last_digits k (x / 10) ++ ((48 + x % 10) ∷ [])
large k x h = rw (le-ltb x 10 h)

tenth : (k x : ℕ) → x < 10 ^ suc (suc k) → x / 10 < 10 ^ suc k
tenth k x h =
    let power : 10 ^ suc (suc k) ≡ 10 ^ suc k * 10 = pow-suc 10 (suc k) in
    omega arith

-- k digits are enough for a number below the k-th power of ten
enough : (k x : ℕ) → x < 10 ^ suc k → last_digits (suc k) x ≡ last_digits (suc (suc k)) x
enough zero x h = small 0 x h ∙ sym (small 1 x h)
enough (suc k) x h = ⊎_elim below (above (enough k (x / 10))) (less_or_not x 10)
  where
    below : x < 10 → last_digits (suc (suc k)) x ≡ last_digits (suc (suc (suc k))) x
    below l = small (suc k) x l ∙ sym (small (suc (suc k)) x l)

    above : (x / 10 < 10 ^ suc k → last_digits (suc k) (x / 10) ≡ last_digits (suc (suc k)) (x / 10)) → 10 ≤ x
        → last_digits (suc (suc k)) x ≡ last_digits (suc (suc (suc k))) x
    above rest l =
        let one_more = ap (λ (d : List ℕ). d ++ ((48 + x % 10) ∷ [])) (rest (tenth k x h)) in
        large (suc k) x l ∙ one_more ∙ sym (large (suc (suc k)) x l)

pub decimal_one : (x : ℕ) → x < 10 → decimal x ≡ (48 + x) ∷ []
unfolding decimal
decimal_one = small 5

pub decimal_more : (x : ℕ) → 10 ≤ x → x < 1000000 → decimal x ≡ decimal (x / 10) ++ ((48 + x % 10) ∷ [])
unfolding decimal
decimal_more x least most =
    large 5 x least ∙ ap (λ (l : List ℕ). l ++ ((48 + x % 10) ∷ [])) (enough 4 (x / 10) (omega arith))

-- one digit more at the end
value_more : (v : ℕ) (s : List ℕ) (d : ℕ) → value_after v (s ++ (d ∷ [])) ≡ 10 * value_after v s + (d - 48)
value_more v [] d = refl
value_more v (x ∷ s) d = value_more (10 * v + (x - 48)) s d

every_more : (f : ℕ → Bool) (s : List ℕ) (d : ℕ) → every f s ≡ true → f d ≡ true → every f (s ++ (d ∷ [])) ≡ true
every_more f [] d e h = and_intro h refl
every_more f (x ∷ s) d e h =
    let rest = every_more f s d (and_elim_right (f x) (every f s) e) h in
    and_intro (and_elim_left (f x) (every f s) e) rest

first_more : (s : List ℕ) (d : ℕ) → 1 ≤ length s → at (s ++ (d ∷ [])) 0 ≡ at s 0
first_more [] d h = absurd (omega arith)
first_more (x ∷ s) d h = refl

last_digit : (x : ℕ) → is_digit (48 + x % 10) ≡ true
unfolding is_digit
last_digit x = simp (le-leb 48 (48 + x % 10) (omega arith), le-leb (48 + x % 10) 57 (omega arith))

-- 1 to k digits of value x, of which the first is 0 for the number 0 alone
pub record Spelled (k x : ℕ) (s : List ℕ) : Type 0 where
  pub digits : every is_digit s ≡ true
  pub present : 1 ≤ length s
  pub few : length s ≤ k
  pub value_is : value s ≡ x
  pub leads : 1 ≤ x → at s 0 ≡ 48 → ⊥

spelled_one : (k x : ℕ) → x < 10 → Spelled (suc k) x (last_digits (suc k) x)
spelled_one k x h = subst (Spelled (suc k) x) (sym (small k x h)) one
  where
    digit : is_digit (48 + x) ≡ true
    digit = subst (λ (d : ℕ). is_digit (48 + d) ≡ true) (mod-eq_of_lt h) (last_digit x)

    one : Spelled (suc k) x ((48 + x) ∷ [])
    one = record {
      digits = and_intro digit refl;
      present = omega arith;
      few = omega arith;
      value_is = omega arith;
      leads = λ least e. omega arith;
    }

spelled : (k x : ℕ) → x < 10 ^ suc k → Spelled (suc k) x (last_digits (suc k) x)
spelled zero x h = spelled_one 0 x h
spelled (suc k) x h = ⊎_elim (spelled_one (suc k) x) (above (spelled k (x / 10))) (less_or_not x 10)
  where
    above : (x / 10 < 10 ^ suc k → Spelled (suc k) (x / 10) (last_digits (suc k) (x / 10))) → 10 ≤ x
        → Spelled (suc (suc k)) x (last_digits (suc (suc k)) x)
    above rest l =
        let r = rest (tenth k x h) in
        let s = last_digits (suc k) (x / 10) in
        let d = 48 + x % 10 in
        let longer : length (s ++ (d ∷ [])) ≡ length s + 1 = length-append s (d ∷ []) in
        let present = r.present in
        let few = r.few in
        let tenth-value : value s ≡ x / 10 = r.value_is in
        let more : Spelled (suc (suc k)) x (s ++ (d ∷ [])) =
        record {
          digits = every_more is_digit s d r.digits (last_digit x);
          present = omega arith;
          few = omega arith;
          value_is = value_more 0 s d ∙ omega arith;
          leads = λ least e. r.leads (omega arith) (sym (first_more s d present) ∙ e);
        } in
        subst (Spelled (suc (suc k)) x) (sym (large (suc k) x l)) more

pub decimal_spelled : (x : ℕ) → x < 1000000 → Spelled 6 x (decimal x)
unfolding decimal
decimal_spelled = spelled 5

pub decimal_numeral : (x : ℕ) → x < 1000000 → Numeral x (decimal x)
decimal_numeral x h =
    let s = decimal_spelled x h in
    record { digits = s.digits; present = s.present; few = s.few; value_is = s.value_is }

-- how many digits there are
pub decimal_few : (x : ℕ) → x < 1000000 → length (decimal x) ≤ 6
decimal_few x h = (decimal_spelled x h).few

pub length_one : (x : ℕ) → x < 10 → length (decimal x) ≡ 1
length_one x h = ap length (decimal_one x h)

pub length_more : (x : ℕ) → 10 ≤ x → x < 1000000 → length (decimal x) ≡ length (decimal (x / 10)) + 1
length_more x least most = ap length (decimal_more x least most) ∙ length-append (decimal (x / 10)) ((48 + x % 10) ∷ [])

-- by the whole part of the logarithm
length_by_log : (k x : ℕ) → 10 ^ k ≤ x → x < 10 * 10 ^ k → x < 1000000 → length (decimal x) ≡ k + 1
length_by_log zero x least below most = length_one x (omega arith)
length_by_log (suc k) x least below most =
    let power : 10 ^ suc k ≡ 10 ^ k * 10 = pow-suc 10 k in
    let rest = length_by_log k (x / 10) (omega arith) (omega arith) (omega arith) in
    omega (arith, length_more x (omega (arith, ten_le k)) most)
  where
    ten_le : (k : ℕ) → 1 ≤ 10 ^ k
    ten_le zero = omega arith
    ten_le (suc k) = omega (arith, ten_le k, pow-suc 10 k)

pub length_of_log : (log : Option ℕ) (x : ℕ) → IfNone log (x ≡ 0) → IfSome log (λ k. 10 ^ k ≤ x)
    → IfSome log (λ k. x < 10 * 10 ^ k) → x < 1000000 → unwrap_or log 0 + 1 ≡ length (decimal x)
length_of_log None x none least below most = sym (length_one x (omega (arith, none)))
length_of_log (Some k) x none least below most = sym (length_by_log k x least below most)
