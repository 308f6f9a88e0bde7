-- The texts of replies.
use Rattle.std.specs.Prelude.{◌≡◌, ◌++◌, String, codes, string_bytes}
use Rattle.std.specs.Fmt.{decimal}
use Rattle.hex.specs.Hex.{encode_lower}
use Rattle.spec_lib.specs.Texts.{Text}
use Rattle.blob_digest.specs.Refusals.{refusal_text}
use Rattle.store_model.specs.declared.swept.Swept.{Swept as SweptCounts}
use Rattle.store_api.specs.declared.reply.Reply.{Reply}
use Rattle.store_api.specs.Answers.{Answer, answer_of, Session, Received, Stored, Abandoned, Mounted, Deleted, Manifest, Body, Leased, Bytes, Shared, Verified, GivenBack, Swept, NoLease, NameTaken, Refused}

-- the text of a sweep's counts
abbrev pub swept_text : SweptCounts → Text
swept_text swept = codes "swept condemned " ++ decimal swept.condemned ++ codes " freed " ++ decimal swept.freed ++ codes " held " ++ decimal swept.held ++ codes " retired " ++ decimal swept.retired

-- the text of an answer
abbrev pub reply_text : Answer → Text
reply_text (Session number) = codes "session " ++ decimal number
reply_text (Received length) = codes "received " ++ decimal length
reply_text (Stored size) = codes "stored " ++ decimal size
reply_text Abandoned = codes "abandoned"
reply_text Mounted = codes "mounted"
reply_text Deleted = codes "deleted"
reply_text (Manifest digest) = codes "manifest " ++ digest
reply_text (Body bytes) = codes "body " ++ encode_lower bytes
reply_text (Leased size) = codes "leased " ++ decimal size
reply_text (Bytes bytes) = codes "bytes " ++ encode_lower bytes
reply_text Shared = codes "shared"
reply_text (Verified size) = codes "verified " ++ decimal size
reply_text GivenBack = codes "given back"
reply_text (Swept swept) = swept_text swept
reply_text NoLease = codes "no lease"
reply_text NameTaken = codes "name taken"
reply_text (Refused refusal) = codes "refused " ++ refusal_text refusal

-- the text of a reply is appended to a text
abbrev pub AppendsReply : {Z : Type 0} → String Z → Reply → String Z → Type 0
AppendsReply old reply new = string_bytes new ≡ string_bytes old ++ reply_text (answer_of reply)
