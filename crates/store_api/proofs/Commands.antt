-- The commands that lease no blob.
use Rattle.std.proofs.Common.{◌≡◌, false, refl}
use Rattle.store_api.specs.Commands.{is_lease}
use Rattle.store_api.specs.CommandViews.{command_view}
use Rattle.store_api.specs.declared.command.Command.{Command}
use Rattle.store_api.specs.declared.command.Command.TheVariants as command

-- a command with a reply does not lease a blob
pub no_lease : (c : Command) → is_lease (command_view c) ≡ false
no_lease (command.Start repo) = refl
no_lease (command.Status repo number) = refl
no_lease (command.Append repo number range bytes) = refl
no_lease (command.Close repo number digest range bytes) = refl
no_lease (command.Abandon repo number) = refl
no_lease (command.Mount repo digest from) = refl
no_lease (command.Delete repo digest) = refl
no_lease (command.PutManifest repo bytes) = refl
no_lease (command.GetManifest repo digest) = refl
no_lease (command.DeleteManifest repo digest) = refl
no_lease (command.RemoveRepo repo) = refl
