-- A guard of replies, and what a commit keeps.
use Rattle.store_api.specs.Answers.{Answer}
use Rattle.store_api.specs.Commands.{StoreRequest}

-- each step that led to the old state of the backend leads to the new one too
abbrev pub KeepsActs : {S : Type 0} → (S → StoreRequest → Answer → S → Type 0) → S → S → Type 0
KeepsActs {S} acts old new = (earlier : S) (request : StoreRequest) (answer : Answer) → acts earlier request answer old → acts earlier request answer new
