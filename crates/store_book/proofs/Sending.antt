-- What a thread gets and gives back may cross: the book, part by part. The default search stops at one of its limits for the
-- whole.
use denote.Param.Send.{IsSend, IsSync, sendable}
use Rattle.std.proofs.Crossing.{crosses}
use Rattle.std.proofs.MapsCrossing.{crosses as maps}
use Rattle.std.proofs.MapsCrossingOver.{crosses as sets}
use Rattle.atomic_table.proofs.shared.Seat.TheSendSync as seat
use Rattle.content_files.specs.contracts.content.Content as Content
use Rattle.oci_manifest.specs.contracts.manifest.Manifest as Manifest
use Rattle.link_table.specs.contracts.repo_manifests.RepoManifests as RepoManifests
use Rattle.link_table.specs.contracts.manifest_table.ManifestTable as ManifestTable
use Rattle.link_table.specs.contracts.tenant_repos.TenantRepos as TenantRepos
use Rattle.link_table.specs.contracts.holders.Holders as Holders
use Rattle.link_table.specs.contracts.tenants.TenantSettings as TenantSettings
use Rattle.link_table.specs.contracts.links.Links as Links
use Rattle.upload_table.specs.contracts.uploads.Uploads as Uploads
use Rattle.slot_table.specs.contracts.table.SlotTable as SlotTable
use Rattle.store_book.specs.contracts.pinned_slots.PinnedSlots as PinnedSlots
use Rattle.store_book.specs.contracts.book.Book as Book

pub content_send : IsSend Content.the_row
content_send = search (sendable, crosses) depth 60 fits 20000

pub content_sync : IsSync Content.the_row
content_sync = search (sendable, crosses) depth 60 fits 20000

manifest_send : IsSend Manifest.the_row
manifest_send = search (sendable, crosses) depth 60 fits 20000

manifest_sync : IsSync Manifest.the_row
manifest_sync = search (sendable, crosses) depth 60 fits 20000

repo_manifests_send : IsSend RepoManifests.the_row
repo_manifests_send = search (manifest_send, manifest_sync, sendable, crosses, maps, sets) depth 60 fits 20000

manifest_table_send : IsSend ManifestTable.the_row
manifest_table_send = search (repo_manifests_send, sendable, crosses, maps) depth 60 fits 20000

tenant_repos_send : IsSend TenantRepos.the_row
tenant_repos_send = search (sendable, crosses, maps) depth 60 fits 20000

holders_send : IsSend Holders.the_row
holders_send = search (sendable, crosses, maps) depth 60 fits 20000

settings_send : IsSend TenantSettings.the_row
settings_send = search (sendable, crosses, maps) depth 60 fits 20000

links_send : IsSend Links.the_row
links_send = search (manifest_table_send, tenant_repos_send, holders_send, settings_send, sendable, crosses, maps) depth 60 fits 20000

uploads_send : IsSend Uploads.the_row
uploads_send = search (content_send, sendable, crosses, maps, sets) depth 60 fits 20000

table_send : IsSend SlotTable.the_row
table_send = search (content_send, content_sync, sendable, crosses, maps, sets) depth 60 fits 20000

slots_send : IsSend PinnedSlots.the_row
slots_send = search (table_send, seat.the_send, sendable, crosses) depth 60 fits 20000

pub book_send : IsSend Book.the_row
book_send = search (links_send, uploads_send, slots_send, sendable, crosses) depth 60 fits 20000
