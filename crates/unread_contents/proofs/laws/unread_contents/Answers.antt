use Rattle.unread_contents.proofs.Contents.{read_contents_are_the_same}
use Rattle.unread_contents.proofs.Soundness.{read_catalogs_are_sound}
use Rattle.unread_contents.proofs.Theorems.{histories_are_read, tenants_are_isolated_on_disk, tenants_read_their_contents}
use Rattle.unread_contents.proofs.laws.unread_contents.Goals as goal

pub returns-clause-histories : goal.returns-clause-histories
returns-clause-histories c = histories_are_read

pub returns-clause-sound : goal.returns-clause-sound
returns-clause-sound c = read_catalogs_are_sound

pub returns-clause-alone : goal.returns-clause-alone
returns-clause-alone c = tenants_are_isolated_on_disk

pub returns-clause-read : goal.returns-clause-read
returns-clause-read c = tenants_read_their_contents

pub returns-clause-agreement : goal.returns-clause-agreement
returns-clause-agreement c = read_contents_are_the_same
