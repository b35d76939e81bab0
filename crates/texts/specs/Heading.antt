-- The heading of a P6 frame: the header that is written. Definitions only.
--
--   heading w h   P6, LF, width, space, height, LF, 255, LF
use Rattle.std.specs.Prelude.{ℕ, List, [], ◌∷◌, ◌++◌}
use Rattle.texts.specs.Ascii.{decimal}

unfoldable pub heading : ℕ → ℕ → List ℕ
heading w h = (80 ∷ 54 ∷ 10 ∷ []) ++ decimal w ++ (32 ∷ []) ++ decimal h ++ (10 ∷ []) ++ decimal 255 ++ (10 ∷ [])
