-- Answers: replies as contracts see them, without where their bytes are stored.
use Rattle.std.specs.Prelude.{ℕ, List, Result, Ok, Err, map}
use Rattle.std.specs.Arc.{arc_value}
use Rattle.spec_lib.specs.Texts.{Text}
use Rattle.blob_digest.specs.declared.refusal.Refusal.{Refusal}
use Rattle.store_model.specs.declared.swept.Swept.{Swept as SweptCounts}
use Rattle.store_model.specs.declared.mount.Mount.{Mount}
use Rattle.store_model.specs.declared.mount.Mount.TheVariants as mounting
use Rattle.store_api.specs.declared.reply.Reply.{Reply}
use Rattle.store_api.specs.declared.reply.Reply.TheVariants as reply

-- the answer to a request: a result, or a refusal
pub data Answer : Type 0 where
  Session : ℕ → Answer
  Received : ℕ → Answer
  Stored : ℕ → Answer
  Abandoned : Answer
  Mounted : Answer
  Deleted : Answer
  Manifest : Text → Answer
  Body : Text → Answer
  Leased : ℕ → Answer
  Bytes : Text → Answer
  Shared : Answer
  Verified : ℕ → Answer
  GivenBack : Answer
  Swept : SweptCounts → Answer
  NoLease : Answer
  NameTaken : Answer
  Refused : Refusal → Answer

-- the answer of a reply
abbrev pub answer_of : Reply → Answer
answer_of (reply.Session number) = Session number
answer_of (reply.Received length) = Received length
answer_of (reply.Stored size) = Stored size
answer_of reply.Abandoned = Abandoned
answer_of reply.Mounted = Mounted
answer_of reply.Deleted = Deleted
answer_of (reply.Manifest digest) = Manifest digest
answer_of (reply.Body manifest) = Body (arc_value manifest)
answer_of (reply.Leased size) = Leased size
answer_of (reply.Bytes piece) = Bytes piece
answer_of reply.Shared = Shared
answer_of (reply.Verified size) = Verified size
answer_of reply.GivenBack = GivenBack
answer_of (reply.Swept swept) = Swept swept
answer_of reply.NoLease = NoLease
answer_of reply.NameTaken = NameTaken
answer_of (reply.Refused refusal) = Refused refusal

-- the answers of replies
abbrev pub answers_of : List Reply → List Answer
answers_of replies = map answer_of replies

-- the answer to a mount
abbrev pub mount_answer : Mount → Answer
mount_answer mounting.Mounted = Mounted
mount_answer (mounting.Session number) = Session number

-- the answer of a result: that of its value, or its refusal
abbrev pub result_answer : {A : Type 0} → (A → Answer) → Result A Refusal → Answer
result_answer f (Ok a) = f a
result_answer f (Err e) = Refused e
