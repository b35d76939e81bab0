-- A P6 header, part by part, with no parser: the form that reading is held against. Definitions only.
--
--   IsHeader   P6, gap, width, gap, height, gap, maxval, one whitespace byte, and then the raster; a gap is one or more
--              pieces, each a whitespace byte or a comment (gaps/specs/Gaps)
use Rattle.std.specs.Prelude.{ℕ, ◌≡◌, true, List, [], ◌∷◌, ◌++◌}
use Rattle.texts.specs.Ascii.{Numeral}
use Rattle.gaps.specs.Bytes.{is_white}
use Rattle.gaps.specs.Gaps.{Gap}

pub record IsHeader (bytes : List ℕ) (w h maxval : ℕ) (raster : List ℕ) : Type 0 where
  pub gap₁ : List ℕ
  pub w_digits : List ℕ
  pub gap₂ : List ℕ
  pub h_digits : List ℕ
  pub gap₃ : List ℕ
  pub maxval_digits : List ℕ
  pub separator : ℕ
  pub parts : bytes
      ≡ (80 ∷ 54 ∷ []) ++ gap₁ ++ w_digits ++ gap₂ ++ h_digits ++ gap₃ ++ maxval_digits
      ++ (separator ∷ []) ++ raster
  pub gap₁_is : Gap gap₁
  pub w_is : Numeral w w_digits
  pub gap₂_is : Gap gap₂
  pub h_is : Numeral h h_digits
  pub gap₃_is : Gap gap₃
  pub maxval_is : Numeral maxval maxval_digits
  pub separator_is : is_white separator ≡ true
