-- The state that the records of a log leave: what a start restores of it, with the notes of contents in place of their bytes.
use Rattle.std.specs.Prelude.{◌≡◌, ℕ, Bool, ◌+◌, true, Option, List, [], ◌∷◌, ◌++◌, fold, map, position, slice_set, if◌then◌else◌}
use Rattle.std.specs.Option.{option_map_or}
use Rattle.std.specs.FinMap as fmap
use Rattle.blob_digest.specs.Digests.{sha256_text}
use Rattle.blob_digest.specs.Keys.{Link, SessionNumber, link_cmp, session_number_cmp}
use Rattle.blob_digest.specs.Names.{tenant_name}
use Rattle.content_files.specs.Chunks.{chunk_notes}
use Rattle.log_records.specs.Changes.{BlobLinked, BlobNoted, BlobStored, BlobUnlinked, Change, ChunkNoted, ChunkReceived, ManifestDeleted, ManifestPut, NumberSet, RepoAdded, RepoRemoved, SealNoted, SessionDropped, SessionOpened, SessionSealed}
use Rattle.log_state.specs.Sessions.{OpenSession, is_noted, notes_after, with_logged}
use Rattle.log_state.specs.declared.chunk.Chunk.{Chunk}
use Rattle.log_state.specs.declared.chunk.Chunk.TheVariants.{Bytes, Notes}
use Rattle.log_state.specs.declared.state.LogState.{LogState}
use Rattle.spec_lib.specs.Sets as set
use Rattle.spec_lib.specs.Texts.{Text, same_text, text_cmp}
use Rattle.spec_lib.specs.Trees.{tree_map}

-- the state that the records of a log leave
pub record LoggedState : Type 0 where
  -- the repositories
  pub repos : set.Set text_cmp
  -- the links: pairs of a repository and a digest that it contains
  pub links : set.Set link_cmp
  -- the manifests, by repository and digest
  pub manifests : fmap.FinMap link_cmp Text
  -- the open sessions, by the place of their tenant and their number
  pub sessions : fmap.FinMap session_number_cmp OpenSession
  -- each tenant's next session number
  pub next : List ℕ
  -- the notes of contents, by digest; those of a content without a link have no meaning
  pub contents : fmap.FinMap text_cmp (List ℕ)
  -- the sessions whose files have the contents that were closed by notes, by digest
  pub homes : fmap.FinMap text_cmp SessionNumber

-- the state of an empty log of a store with these tenants
abbrev pub initial_logged : List Text → LoggedState
initial_logged names = record {
  repos = set.empty_set;
  links = set.empty_set;
  manifests = fmap.empty;
  sessions = fmap.empty;
  next = map (λ _. 1) names;
  contents = fmap.empty;
  homes = fmap.empty;
}

-- ---- tenants

-- the place of a name among the tenants' names, if it is one of them
abbrev pub found_at : List Text → Text → Option ℕ
found_at names name = position (λ x. same_text x name) names

-- the same, or 0
abbrev pub place_in : List Text → Text → ℕ
place_in names name = option_map_or (λ t. t) (found_at names name) 0

-- the key of a repository's session with this number
abbrev pub key_in : List Text → Text → ℕ → SessionNumber
key_in names repo number = (place_in names (tenant_name repo), number)

-- ---- changes

-- the state after a session received a chunk
abbrev pub after_chunk : LoggedState → SessionNumber → Chunk → LoggedState
after_chunk S key c = option_map_or
    (λ s. record S { sessions = fmap.insert S.sessions key (record { repo = s.repo; chunks = with_logged s.chunks c }) })
    (fmap.get S.sessions key) S

-- the homes after a session was closed: its file has the content if it was closed by notes, and no file has it else
abbrev pub with_home : fmap.FinMap text_cmp SessionNumber → Text → SessionNumber → Bool → fmap.FinMap text_cmp SessionNumber
with_home homes digest key noted = if noted then fmap.insert homes digest key else fmap.remove homes digest

-- the state after an open session became a blob that its repository links; the last chunk is given
abbrev pub with_blob : LoggedState → SessionNumber → Text → Chunk → OpenSession → LoggedState
with_blob S key digest last s = record S {
  links = set.insert S.links (s.repo, digest);
  sessions = fmap.remove S.sessions key;
  contents = fmap.insert S.contents digest (notes_after [] (s.chunks ++ last ∷ []));
  homes = with_home S.homes digest key (is_noted last);
}

-- the state after a session became a blob
abbrev pub after_seal : LoggedState → SessionNumber → Text → Chunk → LoggedState
after_seal S key digest last = option_map_or (with_blob S key digest last) (fmap.get S.sessions key) S

-- the state after a repository and a manifest in it were added
abbrev pub with_manifest : LoggedState → Text → Text → LoggedState
with_manifest S repo bytes = record S {
  repos = set.insert S.repos repo;
  manifests = fmap.insert S.manifests (repo, sha256_text bytes) bytes;
}

-- the state after a change, in a store with these tenants
abbrev pub after_logged : List Text → LoggedState → Change → LoggedState
after_logged names S (SessionOpened repo number) = record S {
  repos = set.insert S.repos repo;
  sessions = fmap.insert S.sessions (key_in names repo number) (record { repo = repo; chunks = [] });
  next = slice_set S.next (place_in names (tenant_name repo)) (number + 1);
}
after_logged names S (ChunkReceived tenant number bytes) = after_chunk S (place_in names tenant, number) (Bytes bytes)
after_logged names S (ChunkNoted tenant number notes) = after_chunk S (place_in names tenant, number) (Notes notes)
after_logged names S (SessionSealed tenant number digest last) = after_seal S (place_in names tenant, number) digest (Bytes last)
after_logged names S (SealNoted tenant number digest notes) = after_seal S (place_in names tenant, number) digest (Notes notes)
after_logged names S (SessionDropped tenant number) = record S { sessions = fmap.remove S.sessions (place_in names tenant, number) }
after_logged names S (BlobLinked repo digest) = record S {
  repos = set.insert S.repos repo;
  links = set.insert S.links (repo, digest);
}
after_logged names S (BlobUnlinked repo digest) = record S { links = set.remove S.links (repo, digest) }
after_logged names S (ManifestPut repo bytes) =
    if fmap.contains_key S.manifests (repo, sha256_text bytes) then S else with_manifest S repo bytes
after_logged names S (ManifestDeleted repo digest) = record S { manifests = fmap.remove S.manifests (repo, digest) }
after_logged names S (RepoRemoved repo) = record S { repos = set.remove S.repos repo }
after_logged names S (RepoAdded repo) = record S { repos = set.insert S.repos repo }
after_logged names S (NumberSet tenant number) = record S { next = slice_set S.next (place_in names tenant) number }
after_logged names S (BlobStored digest bytes) = record S { contents = fmap.insert S.contents digest (chunk_notes bytes); homes = fmap.remove S.homes digest }
after_logged names S (BlobNoted tenant number digest notes) = record S { contents = fmap.insert S.contents digest notes; homes = fmap.insert S.homes digest (place_in names tenant, number) }

-- the state that these changes leave, one after another, in a store with these tenants
abbrev pub state_after : List Text → List Change → LoggedState
state_after names changes = fold (after_logged names) (initial_logged names) changes

-- ---- what is in memory

-- what is in memory of a log, as its state
abbrev pub state_in : LogState → LoggedState
state_in m = record {
  repos = tree_map text_cmp m.repos;
  links = tree_map link_cmp m.links;
  manifests = tree_map link_cmp m.manifests;
  sessions = tree_map session_number_cmp m.sessions;
  next = m.next.items;
  contents = tree_map text_cmp m.contents;
  homes = tree_map text_cmp m.homes;
}

-- the change was taken: the tenants are those of before, and the state is that after the change
pub record Takes (old : LogState) (change : Change) (new : LogState) : Type 0 where
  pub tenants : new.tenants.now ≡ old.tenants.now
  pub state : state_in new ≡ after_logged old.tenants.now (state_in old) change

-- ---- comparison

-- the state has the link
abbrev pub IsLinkIn : LoggedState → Link → Type 0
IsLinkIn S l = set.contains S.links l ≡ true

-- both have the same notes of the content with this digest, or none
abbrev pub HaveSameNotes : LoggedState → LoggedState → Text → Type 0
HaveSameNotes S T digest = fmap.get S.contents digest ≡ fmap.get T.contents digest

-- both have the content in the file of the same session, or in none
abbrev pub HaveSameHome : LoggedState → LoggedState → Text → Type 0
HaveSameHome S T digest = fmap.get S.homes digest ≡ fmap.get T.homes digest

-- both have the same notes of the content with this digest, in the same file
abbrev pub HaveSameContent : LoggedState → LoggedState → Text → Type 0
HaveSameContent S T digest = HaveSameNotes S T digest × HaveSameHome S T digest

-- both have the same content of each link
abbrev pub HaveSameContents : LoggedState → LoggedState → Type 0
HaveSameContents S T = (l : Link) → IsLinkIn S l → HaveSameContent S T l.1

-- Two states are the same, but for contents without a link.
pub record AreSame (S T : LoggedState) : Type 0 where
  pub repos : S.repos ≡ T.repos
  pub links : S.links ≡ T.links
  pub manifests : S.manifests ≡ T.manifests
  pub sessions : S.sessions ≡ T.sessions
  pub next : S.next ≡ T.next
  pub contents : HaveSameContents S T
