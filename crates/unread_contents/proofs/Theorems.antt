-- The theorems about stores that have not read their contents.
use Rattle.std.proofs.Common.{◌≡◌, ◌∙◌, ℕ, List, ◌++◌, refl, sym, ap, subst, true}
use Rattle.store_model.specs.Catalog.{Catalog, Tenant}
use Rattle.store_model.specs.Histories.{LeadsTo, State, Step, initial_state}
use Rattle.store_model.specs.HistoryIsolation.{AreOwnReplies, StepRequest, catalog_after_requests, isolated_steps, requests_of, steps_of, uploads_of_history}
use Rattle.store_model.specs.Invariant.{Sound}
use Rattle.store_model.specs.Noninterference.{AreTenantsAlike, NoCollision, tenant_view}
use Rattle.store_model.specs.Restarts.{IsIsolatedFrom, stored_contents, with_others}
use Rattle.store_model.proofs.Durable.Restarts.{tenants_are_isolated_from}
use Rattle.unread_contents.specs.Unread.{AgreeWhereRead, AreHistoriesUpTo, AreViewsUpTo, HistoriesAreRead, IsIsolatedUpTo, IsReadAs, TenantsAreIsolatedOnDisk, TenantsReadTheirContents}
use Rattle.unread_contents.proofs.Blobs.{AreRead, Blobs}
use Rattle.unread_contents.proofs.Commands.{with}
use Rattle.unread_contents.proofs.Histories.{Played, played}
use Rattle.unread_contents.proofs.Isolated.{both, requests_read, view_read}
use Rattle.unread_contents.proofs.Pairs.{full, histories_agree, same_owners, same_requests, views_agree}
use Rattle.unread_contents.proofs.Soundness.{read_catalogs_are_sound}
use Rattle.unread_contents.proofs.Uploads.{reads_itself, uploads_filled}

pub histories_are_read : HistoriesAreRead
histories_are_read C F steps s on_disk read run =
    let p = played steps (initial_state C) F.residents s read.residents on_disk run in
    record {
      full_steps = p.others;
      full = full s p.blobs;
      run = subst (λ X. LeadsTo X p.others (full s p.blobs)) (sym read.rest) p.run;
      same_steps = p.same;
      catalog = (both s.catalog p.blobs p.read p.on_disk).read;
      totals = refl;
    }

-- ---- a tenant, by the history with contents read

module _ (C : Catalog) (r : Blobs) (tenants : List Tenant) (t : ℕ) (steps : List Step) (s : State) (alike : AreTenantsAlike t C.tenants tenants) (read : AreRead C.residents r) (on_disk : C.contents.on_disk ≡ true) (sound : Sound (with C r)) (run : LeadsTo C steps s)
    (no_collision : NoCollision (stored_contents (with C r) ++ uploads_of_history (initial_state C) steps s run)) (own_replies : AreOwnReplies C.tenants t (initial_state C) steps s run) where
  -- the catalogs with which its isolated histories begin
  abbrev alone : Catalog
  alone = with_others C tenants

  abbrev alone_read : Catalog
  alone_read = with_others (with C r) tenants

  -- the tenant's steps, and its requests
  abbrev own : List Step
  own = steps_of C.tenants t steps

  abbrev asked : List StepRequest
  asked = requests_of own

  -- the history with contents read isolates the tenant
  alone_of : (p : Played (initial_state C) r steps s run) → IsIsolatedFrom (with C r) tenants t p.others (full s p.blobs)
  alone_of p = tenants_are_isolated_from (with C r) tenants t p.others (full s p.blobs) alike sound
      (record { run = p.run; no_collision = subst (λ us. NoCollision (stored_contents (with C r) ++ us)) (sym p.uploads) no_collision }) (p.own C.tenants t own_replies)

  -- so the history itself does, but for bytes that were not read
  as_played : Played (initial_state C) r steps s run → IsIsolatedUpTo IsReadAs C alone_read t steps s
  as_played p =
      let k = alone_of p in
      let others : List Step = steps_of C.tenants t p.others in
      let same : AreHistoriesUpTo IsReadAs own others = same_owners C.tenants t steps p.others p.same in
      let asked_same : requests_of others ≡ asked = sym (same_requests own others same) in
      let replies : others ≡ isolated_steps alone_read asked = sym k.replies ∙ ap (isolated_steps alone_read) asked_same in
      let view : tenant_view (with s.catalog p.blobs) t ≡ tenant_view (catalog_after_requests alone_read asked) t = k.tenant_view ∙ ap (λ qs. tenant_view (catalog_after_requests alone_read qs) t) asked_same in
      record {
        replies = subst (AreHistoriesUpTo IsReadAs own) replies same;
        tenant_view = subst (AreViewsUpTo IsReadAs (tenant_view s.catalog t)) view (view_read s.catalog (with s.catalog p.blobs) t (both s.catalog p.blobs p.read p.on_disk));
      }

  isolated_as_read : IsIsolatedUpTo IsReadAs C alone_read t steps s
  isolated_as_read = as_played (played steps (initial_state C) r s read on_disk run)

  -- and its isolated history may begin with the contents as they are known
  isolated_alone : IsIsolatedUpTo AgreeWhereRead C alone t steps s
  isolated_alone =
      let k = requests_read asked alone alone_read (both alone r read on_disk) in
      record {
        replies = histories_agree own (isolated_steps alone asked) (isolated_steps alone_read asked) isolated_as_read.replies k.0;
        tenant_view = views_agree (tenant_view s.catalog t) (tenant_view (catalog_after_requests alone asked) t) (tenant_view (catalog_after_requests alone_read asked) t)
            isolated_as_read.tenant_view (view_read (catalog_after_requests alone asked) (catalog_after_requests alone_read asked) t k.1);
      }

pub tenants_read_their_contents : TenantsReadTheirContents
tenants_read_their_contents C F others t steps s alike fair =
    subst (λ X. Sound X → NoCollision (stored_contents X ++ uploads_of_history (initial_state C) steps s fair.run) → IsIsolatedUpTo IsReadAs C (with_others X others) t steps s) (sym fair.read.rest)
    (λ sound no_collision. isolated_as_read C F.residents others t steps s alike fair.read.residents fair.on_disk sound fair.run no_collision fair.own_replies)
    (read_catalogs_are_sound C F fair.on_disk fair.read fair.digests fair.sound) fair.no_collision

-- ---- without what lies on the disk

pub tenants_are_isolated_on_disk : TenantsAreIsolatedOnDisk
tenants_are_isolated_on_disk C others t steps s alike fair =
    let p = played steps (initial_state C) C.residents s (reads_itself C.residents) fair.on_disk fair.run in
    let k = uploads_filled C fair.on_disk fair.sound (uploads_of_history (initial_state C) steps s fair.run) p.named fair.uploads in
    isolated_alone C k.blobs others t steps s alike k.read fair.on_disk k.sound fair.run k.no_collision fair.own_replies
