-- The answers to commands, by the answers of the model.
use Rattle.std.specs.Prelude.{ℕ}
use Rattle.spec_lib.specs.Texts.{Text}
use Rattle.store_model.specs.Runs as runs
use Rattle.store_api.specs.Answers.{Answer, Session, Received, Stored, Abandoned, Deleted, Manifest, Body, Bytes, mount_answer}
use Rattle.store_api.specs.Commands.{Command, Start, Close, Abandon, PutManifest, GetManifest}

-- the answer to a command whose answer in the model is a number
abbrev pub number_answer : Command → ℕ → Answer
number_answer (Start repo) n = Session n
number_answer (Close repo number digest range bytes) n = Stored n
number_answer (Abandon repo number) n = Abandoned
number_answer command n = Received n

-- the answer to a command whose answer in the model is bytes, such as the bytes of a leased blob
abbrev pub bytes_answer : Command → Text → Answer
bytes_answer (PutManifest repo body) bytes = Manifest bytes
bytes_answer (GetManifest repo digest) bytes = Body bytes
bytes_answer command bytes = Bytes bytes

-- the answer to a command, by its answer in the model
abbrev pub command_answer : Command → runs.Answer → Answer
command_answer command (runs.Number n) = number_answer command n
command_answer command (runs.Mounting mounted) = mount_answer mounted
command_answer command (runs.Bytes bytes) = bytes_answer command bytes
command_answer command runs.Done = Deleted
