-- Both editions of a list are run alike, and the converter refuses what running refuses. Assumes nothing.
--
--   converted_alike    a list and what a conversion made of it, run with marks and queue of equal lengths, answer and
--                      leave the same
--   editions_alike     so do both editions of passes that version 1 can store, refused or not
--   convert_refuses    where the lent memory is sound, the converter refuses what `run_list` refuses, with the same
--                      number, then 20, then 14
use Prim.Native.Nat.{ℕ, ◌<◌}
use mathlib.Core.Path.{◌≡◌, sym, ap, ap₂, ◌∙◌}
use mathlib.Core.List.{List, [], ◌∷◌}
use lib.ListN.{length, take}
use Rattle.planes.specs.Refusals.{◌▷◌, output_refusal}
use Rattle.planes.specs.Shapes.{lent_refusal}
use Rattle.planes.specs.declared.Shape.{Shape}
use Rattle.planes.specs.Replies.{Reply, gives, replied, after}
use Rattle.planes.proofs.Refusals.{▷_right}
use Rattle.texts.proofs.Writing.{wrote_none, wrote_bytes}
use Rattle.model.specs.declared.Pass.{Pass}
use Rattle.model.specs.Neighbourhoods.{pass_neighbours}
use Rattle.model.specs.Effects.{Effect, counts, run_effect}
use Rattle.model.specs.Runs.{All}
use Rattle.listformat.specs.declared.Edition.TheVariants.{First, Second}
use Rattle.listformat.specs.Format.{other, edition_of, passes_of, encode, Bytes, Storable}
use Rattle.listformat.proofs.Format.{passes_encode}
use Rattle.listchecks.specs.Refusals.{list_refusal, places_refusal}
use Rattle.listchecks.proofs.Refusals.{encoded_refusal}
use Rattle.conversion.specs.Conversion.{converted, convert_refusal, ConvertOutcome}
use Rattle.conversion.proofs.Refusals.{convertible}
use Rattle.conversion.proofs.Editions.{stored, converted_passes, converted_sound}
use Rattle.passlists.specs.Outcomes.{slices_refusal, run_list_refusal, ListOutcome}

-- two runs of lists with one refusal and the same passes answer and leave the same
same_runs : (z : Shape) (list list' : List ℕ) → list_refusal list ≡ list_refusal list'
    → passes_of list ≡ passes_of list'
    → (plane : List ℕ) {marks queue marks' queue' : List ℕ}
    → length marks ≡ length marks' → length queue ≡ length queue'
    → {plane₁ marks₁ queue₁ plane₂ marks₂ queue₂ : List ℕ} {reply₁ reply₂ : Reply}
    → ListOutcome z list plane marks queue reply₁ plane₁ marks₁ queue₁
    → ListOutcome z list' plane marks' queue' reply₂ plane₂ marks₂ queue₂ → (reply₁ ≡ reply₂) × (plane₁ ≡ plane₂)
same_runs z list list' refusal passes plane {marks} {queue} {marks'} {queue'} m q O P =
    let number : run_list_refusal z list plane marks queue ≡ run_list_refusal z list' plane marks' queue' =
    ap₂ (λ (i j : ℕ). lent_refusal z (length plane) i j ▷ list_refusal list) m q
    ∙ ap (slices_refusal z plane marks' queue' ▷◌) refusal in
    let e = ap (λ (ss : List Pass). run_effect (pass_neighbours z) ss plane) passes in (
      O.answer ∙ ap₂ (λ (k : ℕ) (f : Effect). replied k (counts f)) number e ∙ sym P.answer,
      O.plane_is ∙ ap₂ (λ (k : ℕ) (f : Effect). after k plane f.plane) number e ∙ sym P.plane_is,
    )

pub converted_alike : (list : List ℕ) → Bytes list → {output output' : List ℕ} {size : ℕ}
    → ConvertOutcome list output (gives (size ∷ [])) output'
    → (z : Shape) (plane : List ℕ) {marks queue marks' queue' : List ℕ}
    → length marks ≡ length marks' → length queue ≡ length queue'
    → {plane₁ marks₁ queue₁ plane₂ marks₂ queue₂ : List ℕ} {reply₁ reply₂ : Reply}
    → ListOutcome z list plane marks queue reply₁ plane₁ marks₁ queue₁
    → ListOutcome z (take size output') plane marks' queue' reply₂ plane₂ marks₂ queue₂
    → (reply₁ ≡ reply₂) × (plane₁ ≡ plane₂)
converted_alike list b {output} {output'} {size} wrote z =
    let fine = convertible list (length output) (wrote_none wrote) in
    let read = wrote_bytes wrote in
    same_runs z list (take size output')
    (fine.sound ∙ sym (ap list_refusal read ∙ converted_sound list b fine))
    (sym (ap passes_of read ∙ converted_passes list b fine))

pub editions_alike : (ss : List Pass) → length ss < 65536 → All (Storable First) ss
    → (z : Shape) (plane : List ℕ) {marks queue marks' queue' : List ℕ}
    → length marks ≡ length marks' → length queue ≡ length queue'
    → {plane₁ marks₁ queue₁ plane₂ marks₂ queue₂ : List ℕ} {reply₁ reply₂ : Reply}
    → ListOutcome z (encode First ss) plane marks queue reply₁ plane₁ marks₁ queue₁
    → ListOutcome z (encode Second ss) plane marks' queue' reply₂ plane₂ marks₂ queue₂
    → (reply₁ ≡ reply₂) × (plane₁ ≡ plane₂)
editions_alike ss told fit z =
    let wide = stored Second ss fit in
    same_runs z (encode First ss) (encode Second ss)
    (encoded_refusal First ss told fit ∙ sym (encoded_refusal Second ss told wide))
    ((passes_encode First ss told fit).0 ∙ sym (passes_encode Second ss told wide).0)

pub convert_refuses : (z : Shape) (plane marks queue : List ℕ) → slices_refusal z plane marks queue ≡ 0
    → (bs : List ℕ) (output : ℕ) → convert_refusal bs output
    ≡ run_list_refusal z bs plane marks queue
    ▷ places_refusal (other (edition_of bs)) (passes_of bs) ▷ output_refusal output (length (converted bs))
unfolding convert_refusal
convert_refuses z plane marks queue lent bs output =
    ap (λ (k : ℕ). k
    ▷ places_refusal (other (edition_of bs)) (passes_of bs) ▷ output_refusal output (length (converted bs)))
    (sym (▷_right (slices_refusal z plane marks queue) (list_refusal bs) lent))
