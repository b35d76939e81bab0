use Rattle.listchecks.proofs.Records.{record_begins}
use Rattle.listchecks.proofs.record_refusal.Goals as goal

pub record_start-i-requires : goal.record_start-i-requires
record_start-i-requires c = record_begins _ c.requires.0 _ c.requires.1
