use Rattle.csv.specs.Records.{fields_of}
use Rattle.blobctl.proofs.Records.{one_taken}
use Rattle.blobctl.proofs.script.take_record.Goals as goal

pub returns-clause-more : goal.returns-clause-more
returns-clause-more c script before h e =
    one_taken c.args.reader.now c.read_byte_record.new.self (fields_of c.read_byte_record.new.row) script before h (rw e at c.in-Ok.ensures.reads h.untrimmed h.ready) (c.in-Ok.ensures.ready h.untrimmed)
