-- A sound catalog with its contents read is sound, if they have their digests.
use Rattle.std.proofs.Common.{◌≡◌, ◌∙◌, ◌+◌, ◌≤◌, Bool, true, false, Some, refl, sym, ap, subst}
use Rattle.std.specs.Prelude.{if◌then◌else◌}
use Rattle.std.specs.FinMap.{get}
use Rattle.std.proofs.lemmas.Bool.{true≢false}
use Rattle.content_files.specs.Notes.{is_read}
use Rattle.blob_digest.specs.Digests.{is_digest_of, is_digest_text}
use Rattle.blob_digest.specs.Vouched.{has_digest}
use Rattle.spec_lib.specs.Sets as set
use Rattle.spec_lib.specs.Texts.{Text}
use Rattle.store_model.specs.Catalog.{Catalog, Link, Resident, quota_of}
use Rattle.store_model.specs.Commands.{is_named}
use Rattle.store_model.specs.Invariant.{Sound, WellFormedLink}
use Rattle.unread_contents.specs.Unread.{HaveTheirDigests, IsReadBlob, ReadCatalogsAreSound}
use Rattle.unread_contents.proofs.Blobs.{AreRead, Blobs, known_at, len_read, read_at}
use Rattle.unread_contents.proofs.Commands.{used_read, with}
use Rattle.unread_contents.proofs.Contents.{read_all}

-- a content has its digest, if all of it is known or it is the true content
has_its_digest : (d : Text) (b f : Resident) → IsReadBlob b f → has_digest d b.bytes ≡ true → is_digest_of d f.bytes ≡ true → has_digest d f.bytes ≡ true
has_its_digest d b f is named digest = by (is_read f.bytes) (is_read b.bytes) refl refl
  where
    by : (now old : Bool) → is_read f.bytes ≡ now → is_read b.bytes ≡ old → (if now then is_digest_of d f.bytes else is_digest_text d) ≡ true
    by true old read was = digest
    by false true read was = absurd (true≢false (sym was ∙ ap is_read (read_all b.bytes f.bytes is.content was) ∙ read))
    by false false read was = sym (ap (λ x. if x then is_digest_of d b.bytes else is_digest_text d) was) ∙ named

module _ (C : Catalog) (r : Blobs) (on_disk : C.contents.on_disk ≡ true) (read : AreRead C.residents r) (sound : Sound C) where
  link_read : (l : Link) → set.contains C.links l ≡ true → WellFormedLink (with C r) l
  link_read l there =
      let old = sound.lawful.links l there in
      let k = read_at (get C.residents l.1) (get r l.1) (read l.1) old.kept.0 old.kept.1 in
      record { repo = old.repo; kept = (k.0, k.1, ap (λ (x : Resident). x.condemned) k.2.rest ∙ old.kept.2) }

  -- if the contents have the digests that they are stored under
  pub sound_with : ((d : Text) (f : Resident) → get r d ≡ Some f → is_named C.contents d f.bytes ≡ true) → Sound (with C r)
  sound_with content = record {
    lawful = record {
      content = content;
      links = link_read;
      manifests = sound.lawful.manifests;
      sessions = sound.lawful.sessions;
      repositories = sound.lawful.repositories;
      numbering = sound.lawful.numbering;
      limits = sound.lawful.limits;
      few_sessions = sound.lawful.few_sessions;
      few_manifests = sound.lawful.few_manifests;
    };
    quotas = λ t there. subst (λ n. n ≤ quota_of C t) (used_read C r read on_disk t) (sound.quotas t there);
    shares = sound.shares;
    slots = record {
      some = sound.slots.some;
      few = sound.slots.few;
      fit = subst (λ n. n + C.retired ≤ C.slots) (len_read C.residents r read) sound.slots.fit;
    };
  }

  pub named : (d content : Text) → is_named C.contents d content ≡ has_digest d content
  named d content = ap (λ x. if x then has_digest d content else is_digest_of d content) on_disk

  content_read : HaveTheirDigests (with C r) → (d : Text) (f : Resident) → get r d ≡ Some f → is_named C.contents d f.bytes ≡ true
  content_read digests d f found =
      let k = known_at (get C.residents d) (get r d) (read d) f found in
      named d f.bytes ∙ has_its_digest d k.0 f k.2 (sym (named d k.0.bytes) ∙ sound.lawful.content d k.0 k.1) (digests d f found)

pub read_catalogs_are_sound : ReadCatalogsAreSound
read_catalogs_are_sound C F on_disk read digests sound =
    let known : HaveTheirDigests (with C F.residents) = subst (λ X. HaveTheirDigests X) read.rest digests in
    subst (λ X. Sound X) (sym read.rest) (sound_with C F.residents on_disk read.residents sound (content_read C F.residents on_disk read.residents sound known))
