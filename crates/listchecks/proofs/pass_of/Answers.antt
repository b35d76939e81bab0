use Rattle.listchecks.proofs.Records.{record_begins}
use Rattle.listchecks.proofs.pass_of.Goals as goal

pub record_start-requires : goal.record_start-requires
record_start-requires c = record_begins _ c.requires.0 _ c.requires.1
