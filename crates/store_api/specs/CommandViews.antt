-- Commands as contracts see them, without where their bytes are stored.
use Rattle.store_api.specs.Commands as commands
use Rattle.std.specs.Prelude.{Option, Result}
use Rattle.blob_digest.specs.declared.refusal.Refusal.{Refusal}
use Rattle.store_api.specs.declared.command.Command.{Command}
use Rattle.store_api.specs.declared.command.Fields.{Fields}
use Rattle.store_api.specs.declared.verb.Verb.{Verb}
use Rattle.store_api.specs.declared.command.Command.TheVariants.{Start, Status, Append, Close, Abandon, Mount, Delete, PutManifest, GetManifest, DeleteManifest, RemoveRepo}

-- the view of a command
abbrev pub command_view : Command → commands.Command
command_view (Start repo) = commands.Start repo
command_view (Status repo number) = commands.Status repo number
command_view (Append repo number range bytes) = commands.Append repo number range bytes.now
command_view (Close repo number digest range bytes) = commands.Close repo number digest range bytes.now
command_view (Abandon repo number) = commands.Abandon repo number
command_view (Mount repo digest from) = commands.Mount repo digest from
command_view (Delete repo digest) = commands.Delete repo digest
command_view (PutManifest repo bytes) = commands.PutManifest repo bytes.now
command_view (GetManifest repo digest) = commands.GetManifest repo digest
command_view (DeleteManifest repo digest) = commands.DeleteManifest repo digest
command_view (RemoveRepo repo) = commands.RemoveRepo repo

-- the command that a verb's fields spell, or the refusal of the first of them that is malformed
abbrev pub command_of_fields : Verb → Fields → Result (Option commands.Command) Refusal
command_of_fields verb fields = commands.command_from verb fields.repo.now fields.source.now fields.digest.now fields.range fields.number fields.body.now
