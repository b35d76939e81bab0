-- What stays of lent memory. Assumes nothing.
--
--   same_refl, same_trans   the same memory
--   same_length             its plane is as long
use Rattle.std.specs.Prelude.{length}
use Rattle.std.proofs.Common.{◌≡◌, refl, sym, ap, ◌∙◌}
use Rattle.planes.specs.Shapes.{pixels}
use Rattle.works.specs.declared.Work.{Work}
use Rattle.works.specs.Works.{Same}

pub same_refl : (s : Work) → Same s s
same_refl s = record { plane = refl; marks = refl; queue = refl; shape = refl }

pub same_trans : {s t u : Work} → Same s t → Same t u → Same s u
same_trans A B = record {
  plane = B.plane ∙ A.plane;
  marks = B.marks ∙ A.marks;
  queue = B.queue ∙ A.queue;
  shape = B.shape ∙ A.shape;
}

pub same_length : {s t : Work} → Same s t → length t.plane.now ≡ length s.plane.now
same_length {s} {t} A = t.lent.whole ∙ ap pixels A.shape ∙ sym s.lent.whole
