-- A plane that keeps the order of another's neighbours keeps its shapes, and so does the file of a grey frame that is
-- recoloured from such a plane. Assumes nothing.
--
--   fine_shapes   from the order of neighbours to all of `ShapePreserving`, for any symmetric relation
--   shapes_fine   and back
--   grey_file     the intensity of a grey frame, recoloured from a plane that keeps the order of its own intensity
use Prim.Native.Nat.{ℕ, ◌/◌, ◌≤◌, ◌<◌}
use mathlib.Core.Path.{◌≡◌, sym, ap, ◌∙◌}
use mathlib.Core.Logic.{inl, inr}
use mathlib.Core.Bool.{true}
use mathlib.Core.List.{List}
use native.Mathlib.Nat.{eq-or-lt_of_le}
use native.Mathlib.Omega.{arith}
use lib.ListN.{length}
use lib.Dec.{leb, ltb}
use borrow.Author.Tests.{leb-true, le-leb}
use Rattle.planes.specs.Lists.{at}
use Rattle.planes.specs.Neighbours.{Near}
use Rattle.planes.specs.Shapes.{Symmetric}
use Rattle.planes.specs.Extrema.{gtb}
use Rattle.planes.proofs.Order.{equal_stay, never_reversed}
use Rattle.planes.proofs.Extrema.{geb, leb_order, geb_order, contained}
use Rattle.planes.proofs.Fewer.{no_more_maxima, no_more_minima}
use Rattle.colours.specs.Frames.{red, intensity, recolour, Grey}
use Rattle.colours.proofs.Frames.{length_intensity, length_recolour}
use Rattle.colours.proofs.Grey.{grey_intensity, grey_recoloured, grey_mono}
use Rattle.model.proofs.Chains.{Fine}
use Rattle.claims.specs.Claims.{ShapePreserving}

-- a plane that keeps the order of another's neighbours keeps its shapes
pub fine_shapes : {near : Near} {p q : List ℕ} → Symmetric near → Fine near p q → ShapePreserving near p q
fine_shapes {near} {p} {q} symm F =
    let keeps = F.keeps in
    record {
      size = F.size;
      equal = equal_stay near symm (length p) p q keeps;
      ordered = never_reversed near symm (length p) p q keeps;
      tops = contained leb ltb leb_order near symm p q F.size (λ i j hi hj d l.
          le-leb _ _ (keeps.ordered i j hi hj d (leb-true (at p i) (at p j) l)));
      pits = contained geb gtb geb_order near symm p q F.size (λ i j hi hj d l.
          le-leb _ _ (keeps.ordered j i hj hi (symm j i ∙ d) (leb-true (at p j) (at p i) l)));
      fewer_tops = no_more_maxima near symm p q F.size keeps;
      fewer_pits = no_more_minima near symm p q F.size keeps;
    }

-- and back
pub shapes_fine : {near : Near} {p q : List ℕ} → ShapePreserving near p q → Fine near p q
shapes_fine {near} {p} {q} S = record {
  size = S.size;
  keeps = record {
    ordered = λ i j hi hj e h. elim (eq-or-lt_of_le h) [
      | inl d ↦ (let same = S.equal i j hi hj e d in omega (arith, same))
      | inr d ↦ S.ordered i j hi hj e d
    ];
  };
}

grey_fine : (near : Near) (frame last : List ℕ) → Grey frame → Fine near (intensity frame) last
    → Fine near (intensity frame) (intensity (recolour frame last))
grey_fine near frame last grey F = record {
  size = length_intensity (recolour frame last) ∙ ap (λ (n : ℕ). n / 3) (length_recolour frame last)
      ∙ sym (length_intensity frame);
  keeps = record { ordered = ordered };
}
  where
    pixel : (i : ℕ) → i < length (intensity frame) → i < length frame / 3
    pixel i h = omega (arith, length_intensity frame)

    ordered : (i j : ℕ) → i < length (intensity frame) → j < length (intensity frame) → near i j ≡ true
        → at (intensity frame) i ≤ at (intensity frame) j
        → at (intensity (recolour frame last)) i ≤ at (intensity (recolour frame last)) j
    ordered i j hi hj e h =
        let old : red frame i ≤ red frame j =
        rw (← grey_intensity frame grey i (pixel i hi), ← grey_intensity frame grey j (pixel j hj)) h in
        rw (grey_recoloured frame grey i (pixel i hi) last, grey_recoloured frame grey j (pixel j hj) last)
        (grey_mono (red frame i) (red frame j) (at last i) (at last j) old (F.keeps.ordered i j hi hj e h))

pub grey_file : (near : Near) → Symmetric near → (frame last : List ℕ) → Grey frame → Fine near (intensity frame) last
    → ShapePreserving near (intensity frame) (intensity (recolour frame last))
grey_file near symm frame last grey F = fine_shapes symm (grey_fine near frame last grey F)
