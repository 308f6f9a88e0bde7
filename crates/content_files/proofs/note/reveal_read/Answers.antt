use Rattle.content_files.proofs.Joined.{read_all}
use Rattle.content_files.proofs.note.reveal_read.Goals as goal

pub returns : goal.returns
returns c = read_all c.args.bytes.now (λ i. (c.type_inv.bytes i).fits)
