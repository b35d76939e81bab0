-- `tones::tone_table` meets its contract, by that of each rule. Assumes nothing.
use Rattle.histograms.specs.Histograms.{values}
use Rattle.histograms.proofs.Histograms.{gathered_range, gathered_counted}
use Rattle.histograms.proofs.Tables.{tables_of}
use Rattle.tones.specs.Tones.{tone, kept}
use Rattle.tones.proofs.tone_table.Goals as goal

pub plain_tones-requires : goal.plain_tones-requires
plain_tones-requires c = gathered_counted c.requires

pub affine_tones-requires : goal.affine_tones-requires
affine_tones-requires c =
    let a = c.args in
    let g = c.requires in
    record {
      vs = values a.plane.now a.queue.now a.c.size;
      histogram = record { measured = g.measured; tally = g.tally };
      range = gathered_range g;
    }

pub returns-in-Plain : goal.returns-in-Plain
unfolding tone kept
returns-in-Plain c =
    let rule = c.in-Plain.is in
    let g = c.requires in
    let ruled = c.plain_tones.ensures in
    record { tones = λ vs s. rw rule (tables_of g ruled.0 vs s); confined = ruled.1 }

pub returns-in-Limited : goal.returns-in-Limited
unfolding tone kept
returns-in-Limited c =
    let rule = c.in-Limited.is in
    let limited = c.limited_tones.ensures in
    record { tones = λ vs s. rw rule (limited.tones vs s); confined = limited.confined }

pub returns-in-Affine : goal.returns-in-Affine
unfolding tone kept
returns-in-Affine c =
    let rule = c.in-Affine.is in
    let g = c.requires in
    let ruled = c.affine_tones.ensures in
    record { tones = λ vs s. rw rule (tables_of g ruled.0 vs s); confined = ruled.1 }
