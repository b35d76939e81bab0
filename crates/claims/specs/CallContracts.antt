-- The tie to the code: what the contract of each public call, as its own crate declares it, tells a caller is the
-- record that the claims speak of, and no call asks anything of its caller. `Learnt` and `Asked` are the plain readings
-- of a function's `ensures` and `requires` clauses, made from the source by the checker; `a` are the arguments in their
-- order, `s` the parameters at exit, and `now` is what a reference refers to. A contract that said less would give no
-- such record. Definitions only.
--
--   Contracts   the calls for Rattle, and the program's function. Passes in memory stand here as a slice and, through
--               `run_array`, as an array
--   CContracts  the functions for C
use Rattle.std.specs.Prelude.{◌≡◌, take}
use contract.Lifetimes.{Lfts}
use denote.Triple.Clauses.{AtExit}
use borrow.Fn.World.{ArgsD, ResD}
use Rattle.planes.specs.Refusals.{greatest_pixels}
use Rattle.colours.specs.Calls.{status_reply, IntensityOutcome, RecolourOutcome}
use Rattle.colours.specs.contracts.intensity as intensity
use Rattle.colours.proofs.intensity.Reads as intensity-reads
use Rattle.colours.specs.contracts.recolour as recolour
use Rattle.colours.proofs.recolour.Reads as recolour-reads
use Rattle.model.specs.Outcomes.{answer_reply}
use Rattle.passes.specs.Calls.{PassOutcome}
use Rattle.passes.specs.contracts.pass as pass
use Rattle.passes.proofs.pass.Reads as pass-reads
use Rattle.enhance.specs.Calls.{EnhanceOutcome}
use Rattle.enhance.specs.contracts.enhance as enhance
use Rattle.enhance.proofs.enhance.Reads as enhance-reads
use Rattle.passlists.specs.Outcomes.{ListOutcome, PassesOutcome}
use Rattle.passlists.specs.contracts.run_list as run-list
use Rattle.passlists.proofs.run_list.Reads as run-list-reads
use Rattle.conversion.specs.Conversion.{ConvertOutcome}
use Rattle.passlists.specs.contracts.convert as convert
use Rattle.passlists.proofs.convert.Reads as convert-reads
use Rattle.passlists.specs.contracts.run_passes as run-passes
use Rattle.passlists.proofs.run_passes.Reads as run-passes-reads
use Rattle.passarrays.specs.contracts.run_array as run-array
use Rattle.passarrays.proofs.run_array.Reads as run-array-reads
use Rattle.netpbm.specs.Reading.{header_reply, read_reply}
use Rattle.netpbm.specs.Writing.{WriteOutcome}
use Rattle.texts.specs.Writing.{written_reply}
use Rattle.netpbm.specs.contracts.read as read
use Rattle.netpbm.proofs.read.Reads as read-reads
use Rattle.netpbm.specs.contracts.read_within as read-within
use Rattle.netpbm.proofs.read_within.Reads as read-within-reads
use Rattle.netpbm.specs.contracts.write as write
use Rattle.netpbm.proofs.write.Reads as write-reads
use Rattle.printing.specs.Printing.{Emitted}
use Rattle.frames.specs.Program.{program_output}
use Rattle.frames.specs.contracts.program_output as program-output
use Rattle.frames.proofs.program_output.Reads as program-output-reads
use Rattle.cnumbers.specs.Numbers.{number_reply, done_reply}
use Rattle.capi.specs.Calls.{PassNumber, ListNumber, EnhanceNumber, ReadNumber}
use Rattle.capi.specs.contracts.mlhe_intensity as mlhe-intensity
use Rattle.capi.proofs.mlhe_intensity.Reads as mlhe-intensity-reads
use Rattle.capi.specs.contracts.mlhe_recolour as mlhe-recolour
use Rattle.capi.proofs.mlhe_recolour.Reads as mlhe-recolour-reads
use Rattle.capi.specs.contracts.mlhe_pass as mlhe-pass
use Rattle.capi.proofs.mlhe_pass.Reads as mlhe-pass-reads
use Rattle.capi.specs.contracts.mlhe_run_list as mlhe-run-list
use Rattle.capi.proofs.mlhe_run_list.Reads as mlhe-run-list-reads
use Rattle.capi.specs.contracts.mlhe_convert_list as mlhe-convert-list
use Rattle.capi.proofs.mlhe_convert_list.Reads as mlhe-convert-list-reads
use Rattle.capi.specs.contracts.mlhe_enhance as mlhe-enhance
use Rattle.capi.proofs.mlhe_enhance.Reads as mlhe-enhance-reads
use Rattle.capi.specs.contracts.mlhe_read as mlhe-read
use Rattle.capi.proofs.mlhe_read.Reads as mlhe-read-reads
use Rattle.capi.specs.contracts.mlhe_write as mlhe-write
use Rattle.capi.proofs.mlhe_write.Reads as mlhe-write-reads

pub record Contracts : Type 0 where
  -- intensity(frame, w, h, plane)
  pub of_intensity : (κs : Lfts 2) (a : ArgsD intensity.signature κs) (r : ResD intensity.signature κs)
      (s : AtExit intensity.ended κs) → intensity-reads.Learnt κs a r s
      → IntensityOutcome a.1.0 a.1.1.0 a.0.now a.1.1.1.0.now (status_reply r)
      s.1.1.1.0.now
  pub intensity_asks : (κs : Lfts 2) (a : ArgsD intensity.signature κs) → intensity-reads.Asked κs a
  -- recolour(frame, w, h, plane, output)
  pub of_recolour : (κs : Lfts 3) (a : ArgsD recolour.signature κs) (r : ResD recolour.signature κs)
      (s : AtExit recolour.ended κs) → recolour-reads.Learnt κs a r s
      → RecolourOutcome a.1.0 a.1.1.0 a.0.now a.1.1.1.0.now a.1.1.1.1.0.now
      (status_reply r) s.1.1.1.1.0.now
  pub recolour_asks : (κs : Lfts 3) (a : ArgsD recolour.signature κs) → recolour-reads.Asked κs a
  -- pass(plane, marks, queue, shape, pass)
  pub of_pass : (κs : Lfts 3) (a : ArgsD pass.signature κs) (r : ResD pass.signature κs) (s : AtExit pass.ended κs)
      → pass-reads.Learnt κs a r s
      → PassOutcome a.1.1.1.0 a.1.1.1.1.0
      a.0.now a.1.0.now a.1.1.0.now (answer_reply r)
      s.0.now s.1.0.now s.1.1.0.now
  pub pass_asks : (κs : Lfts 3) (a : ArgsD pass.signature κs) → pass-reads.Asked κs a
  -- enhance(frame, shape, settings, plane, marks, queue, output)
  pub of_enhance : (κs : Lfts 5) (a : ArgsD enhance.signature κs) (r : ResD enhance.signature κs)
      (s : AtExit enhance.ended κs) → enhance-reads.Learnt κs a r s
      → EnhanceOutcome a.1.0 a.1.1.0 a.0.now a.1.1.1.0.now
      a.1.1.1.1.0.now a.1.1.1.1.1.0.now a.1.1.1.1.1.1.0.now (answer_reply r)
      s.1.1.1.0.now s.1.1.1.1.0.now s.1.1.1.1.1.0.now s.1.1.1.1.1.1.0.now
  pub enhance_asks : (κs : Lfts 5) (a : ArgsD enhance.signature κs) → enhance-reads.Asked κs a
  -- run_list(list, plane, marks, queue, shape)
  pub of_list : (κs : Lfts 4) (a : ArgsD run-list.signature κs) (r : ResD run-list.signature κs)
      (s : AtExit run-list.ended κs) → run-list-reads.Learnt κs a r s
      → ListOutcome a.1.1.1.1.0 a.0.now
      a.1.0.now a.1.1.0.now a.1.1.1.0.now (answer_reply r)
      s.1.0.now s.1.1.0.now s.1.1.1.0.now
  pub list_asks : (κs : Lfts 4) (a : ArgsD run-list.signature κs) → run-list-reads.Asked κs a
  -- run_passes(passes, plane, marks, queue, shape)
  pub of_slice : (κs : Lfts 4) (a : ArgsD run-passes.signature κs) (r : ResD run-passes.signature κs)
      (s : AtExit run-passes.ended κs) → run-passes-reads.Learnt κs a r s
      → PassesOutcome a.1.1.1.1.0 a.0.now
      a.1.0.now a.1.1.0.now a.1.1.1.0.now (answer_reply r)
      s.1.0.now s.1.1.0.now s.1.1.1.0.now
  pub slice_asks : (κs : Lfts 4) (a : ArgsD run-passes.signature κs) → run-passes-reads.Asked κs a
  -- run_array(list, count, plane, marks, queue, shape)
  pub of_passes : (κs : Lfts 3) (a : ArgsD run-array.signature κs) (r : ResD run-array.signature κs)
      (s : AtExit run-array.ended κs) → run-array-reads.Learnt κs a r s
      → PassesOutcome a.1.1.1.1.1.0 (take a.1.0 a.0)
      a.1.1.0.now a.1.1.1.0.now a.1.1.1.1.0.now (answer_reply r)
      s.1.1.0.now s.1.1.1.0.now s.1.1.1.1.0.now
  pub passes_asks : (κs : Lfts 3) (a : ArgsD run-array.signature κs) → run-array-reads.Asked κs a
  -- convert(list, output)
  pub of_convert : (κs : Lfts 2) (a : ArgsD convert.signature κs) (r : ResD convert.signature κs)
      (s : AtExit convert.ended κs) → convert-reads.Learnt κs a r s
      → ConvertOutcome a.0.now a.1.0.now (written_reply r) s.1.0.now
  pub convert_asks : (κs : Lfts 2) (a : ArgsD convert.signature κs) → convert-reads.Asked κs a
  -- read(bytes), read_within(bytes, limit)
  pub of_read : (κs : Lfts 1) (a : ArgsD read.signature κs) (r : ResD read.signature κs) (s : AtExit read.ended κs)
      → read-reads.Learnt κs a r s → header_reply r ≡ read_reply a.0.now greatest_pixels
  pub read_asks : (κs : Lfts 1) (a : ArgsD read.signature κs) → read-reads.Asked κs a
  pub of_read_within : (κs : Lfts 1) (a : ArgsD read-within.signature κs) (r : ResD read-within.signature κs)
      (s : AtExit read-within.ended κs) → read-within-reads.Learnt κs a r s
      → header_reply r ≡ read_reply a.0.now a.1.0
  pub read_within_asks : (κs : Lfts 1) (a : ArgsD read-within.signature κs) → read-within-reads.Asked κs a
  -- write(raster, w, h, output)
  pub of_write : (κs : Lfts 2) (a : ArgsD write.signature κs) (r : ResD write.signature κs) (s : AtExit write.ended κs)
      → write-reads.Learnt κs a r s
      → WriteOutcome a.0.now a.1.0 a.1.1.0 a.1.1.1.0.now (written_reply r) s.1.1.1.0.now
  pub write_asks : (κs : Lfts 2) (a : ArgsD write.signature κs) → write-reads.Asked κs a
  -- program_output(input, output)
  pub of_program : (κs : Lfts 2) (a : ArgsD program-output.signature κs) (r : ResD program-output.signature κs)
      (s : AtExit program-output.ended κs) → program-output-reads.Learnt κs a r s
      → Emitted (program_output a.0.now) a.1.0.now r s.1.0.now
  pub program_asks : (κs : Lfts 2) (a : ArgsD program-output.signature κs) → program-output-reads.Asked κs a

pub record CContracts : Type 0 where
  -- mlhe_intensity(frame, w, h, plane)
  pub of_intensity : (κs : Lfts 2) (a : ArgsD mlhe-intensity.signature κs) (r : ResD mlhe-intensity.signature κs)
      (s : AtExit mlhe-intensity.ended κs) → mlhe-intensity-reads.Learnt κs a r s
      → IntensityOutcome a.1.0 a.1.1.0 a.0.now a.1.1.1.0.now (done_reply r)
      s.1.1.1.0.now
  pub intensity_asks : (κs : Lfts 2) (a : ArgsD mlhe-intensity.signature κs) → mlhe-intensity-reads.Asked κs a
  -- mlhe_recolour(frame, w, h, plane, output)
  pub of_recolour : (κs : Lfts 3) (a : ArgsD mlhe-recolour.signature κs) (r : ResD mlhe-recolour.signature κs)
      (s : AtExit mlhe-recolour.ended κs) → mlhe-recolour-reads.Learnt κs a r s
      → RecolourOutcome a.1.0 a.1.1.0 a.0.now a.1.1.1.0.now a.1.1.1.1.0.now
      (done_reply r) s.1.1.1.1.0.now
  pub recolour_asks : (κs : Lfts 3) (a : ArgsD mlhe-recolour.signature κs) → mlhe-recolour-reads.Asked κs a
  -- mlhe_pass(plane, marks, queue, w, h, a, b, area, rule, counts)
  pub of_pass : (κs : Lfts 5) (a : ArgsD mlhe-pass.signature κs) (r : ResD mlhe-pass.signature κs)
      (s : AtExit mlhe-pass.ended κs) → mlhe-pass-reads.Learnt κs a r s → (
      let numbers = a.1.1.1 in
      let lent = numbers.1.1.1.1.1 in
      let left = s.1.1.1.1.1.1.1.1.1 in
      PassNumber numbers.0 numbers.1.0 numbers.1.1.0 numbers.1.1.1.0 numbers.1.1.1.1.0
      lent.0.now a.0.now a.1.0.now a.1.1.0.now lent.1.0.now r
      s.0.now s.1.0.now s.1.1.0.now left.0.now)
  pub pass_asks : (κs : Lfts 5) (a : ArgsD mlhe-pass.signature κs) → mlhe-pass-reads.Asked κs a
  -- mlhe_run_list(list, plane, marks, queue, w, h, counts)
  pub of_list : (κs : Lfts 5) (a : ArgsD mlhe-run-list.signature κs) (r : ResD mlhe-run-list.signature κs)
      (s : AtExit mlhe-run-list.ended κs) → mlhe-run-list-reads.Learnt κs a r s
      → ListNumber a.1.1.1.1.0 a.1.1.1.1.1.0 a.0.now
      a.1.0.now a.1.1.0.now a.1.1.1.0.now a.1.1.1.1.1.1.0.now r
      s.1.0.now s.1.1.0.now s.1.1.1.0.now s.1.1.1.1.1.1.0.now
  pub list_asks : (κs : Lfts 5) (a : ArgsD mlhe-run-list.signature κs) → mlhe-run-list-reads.Asked κs a
  -- mlhe_convert_list(list, output)
  pub of_convert : (κs : Lfts 2) (a : ArgsD mlhe-convert-list.signature κs) (r : ResD mlhe-convert-list.signature κs)
      (s : AtExit mlhe-convert-list.ended κs) → mlhe-convert-list-reads.Learnt κs a r s
      → ConvertOutcome a.0.now a.1.0.now (number_reply r) s.1.0.now
  pub convert_asks : (κs : Lfts 2) (a : ArgsD mlhe-convert-list.signature κs) → mlhe-convert-list-reads.Asked κs a
  -- mlhe_enhance(frame, w, h, last, area, rule, plane, marks, queue, output, counts)
  pub of_enhance : (κs : Lfts 7) (a : ArgsD mlhe-enhance.signature κs) (r : ResD mlhe-enhance.signature κs)
      (s : AtExit mlhe-enhance.ended κs) → mlhe-enhance-reads.Learnt κs a r s → (
      let numbers = a.1 in
      let memory = a.1.1.1.1.1.1 in
      let left = s.1.1.1.1.1.1 in
      EnhanceNumber numbers.0 numbers.1.0 numbers.1.1.0 numbers.1.1.1.0
      numbers.1.1.1.1.0.now a.0.now
      memory.0.now memory.1.0.now memory.1.1.0.now memory.1.1.1.0.now
      memory.1.1.1.1.0.now r
      left.0.now left.1.0.now left.1.1.0.now left.1.1.1.0.now left.1.1.1.1.0.now)
  pub enhance_asks : (κs : Lfts 7) (a : ArgsD mlhe-enhance.signature κs) → mlhe-enhance-reads.Asked κs a
  -- mlhe_read(bytes, numbers)
  pub of_read : (κs : Lfts 2) (a : ArgsD mlhe-read.signature κs) (r : ResD mlhe-read.signature κs)
      (s : AtExit mlhe-read.ended κs) → mlhe-read-reads.Learnt κs a r s
      → ReadNumber a.0.now a.1.0.now r s.1.0.now
  pub read_asks : (κs : Lfts 2) (a : ArgsD mlhe-read.signature κs) → mlhe-read-reads.Asked κs a
  -- mlhe_write(raster, w, h, output)
  pub of_write : (κs : Lfts 2) (a : ArgsD mlhe-write.signature κs) (r : ResD mlhe-write.signature κs)
      (s : AtExit mlhe-write.ended κs) → mlhe-write-reads.Learnt κs a r s
      → WriteOutcome a.0.now a.1.0 a.1.1.0 a.1.1.1.0.now (number_reply r) s.1.1.1.0.now
  pub write_asks : (κs : Lfts 2) (a : ArgsD mlhe-write.signature κs) → mlhe-write-reads.Asked κs a
