-- The bytes of a heading: how many, and in which pieces they are put. Assumes nothing.
use Prim.Native.Nat.{ℕ, ◌+◌, ◌≤◌, ◌<◌}
use mathlib.Core.Path.{◌≡◌, refl, ap, ◌∙◌}
use mathlib.Core.List.{List, [], ◌∷◌, ◌++◌, append_assoc}
use native.Mathlib.Omega.{arith}
use lib.ListN.{length, length-append}
use Rattle.texts.specs.Ascii.{decimal}
use Rattle.texts.specs.Heading.{heading}
use Rattle.texts.specs.Placing.{Put}
use Rattle.texts.proofs.Decimal.{decimal_few}
use Rattle.texts.proofs.Placing.{put_more, put_length}

maxval_digits : decimal 255 ≡ 50 ∷ 53 ∷ 53 ∷ []
unfolding decimal
maxval_digits = refl

pub heading_length : (w h : ℕ) → length (heading w h) ≡ 9 + length (decimal w) + length (decimal h)
unfolding heading
heading_length w h = simp (length-append, ap length maxval_digits) (omega arith)

-- each side has at most six digits
pub heading_short : (w h : ℕ) → w < 1000000 → h < 1000000 → length (heading w h) ≤ 21
heading_short w h wide high =
    omega (arith, heading_length w h, decimal_few w wide, decimal_few h high)

-- what finds the length of a heading
pub ruleset lengths = (heading_length, decimal_few)

-- the last three of seven pieces as one
last_three : (a b c d e f g : List ℕ) → a ++ b ++ c ++ d ++ e ++ f ++ g ≡ a ++ b ++ c ++ d ++ (e ++ f ++ g)
last_three a b c d e f g = simp append_assoc

pub heading_is : (w h : ℕ) → heading w h
    ≡ (80 ∷ 54 ∷ 10 ∷ []) ++ decimal w ++ (32 ∷ []) ++ decimal h ++ (10 ∷ 50 ∷ 53 ∷ 53 ∷ 10 ∷ [])
unfolding heading
heading_is w h =
    let front = (80 ∷ 54 ∷ 10 ∷ []) ++ decimal w ++ (32 ∷ []) ++ decimal h in
    last_three (80 ∷ 54 ∷ 10 ∷ []) (decimal w) (32 ∷ []) (decimal h) (10 ∷ []) (decimal 255) (10 ∷ [])
    ∙ ap (λ (d : List ℕ). front ++ ((10 ∷ []) ++ d ++ (10 ∷ []))) maxval_digits

-- the pieces, put one after the other
pub put_pieces : (w h : ℕ) {r₁ r₂ r₃ r₄ r₅ : ℕ} {o o₁ o₂ o₃ o₄ o₅ : List ℕ} → length (heading w h) ≤ length o
    → Put o 0 (80 ∷ 54 ∷ 10 ∷ []) r₁ o₁ → Put o₁ r₁ (decimal w) r₂ o₂ → Put o₂ r₂ (32 ∷ []) r₃ o₃
    → Put o₃ r₃ (decimal h) r₄ o₄ → Put o₄ r₄ (10 ∷ 50 ∷ 53 ∷ 53 ∷ 10 ∷ []) r₅ o₅ → Put o 0 (heading w h) r₅ o₅
put_pieces w h room a b c d e =
    let size = heading_length w h in
    let to_w = put_more a b (omega arith) in
    let to_space = put_more to_w c (simp length-append (omega arith)) in
    let to_h = put_more to_space d (simp length-append (omega arith)) in
    rw (heading_is w h) (put_more to_h e (simp length-append (omega arith)))

-- what finds the room for each piece
pub ruleset room = (put_length, heading_length)
