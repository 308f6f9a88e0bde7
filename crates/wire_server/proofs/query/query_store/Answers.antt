use Rattle.std.proofs.Common.{◌∙◌, ap, refl}
use Rattle.wire_server.specs.Outcomes.{QueryNumbers}
use Rattle.wire_server.specs.Queries.{number_outcome, slot_use_outcome, usage_outcome}
use Rattle.wire_server.proofs.query.query_store.Goals as goal

pub returns-in-Stat : goal.returns-in-Stat
returns-in-Stat g c = rw c.in-Stat.is (c.stat.ensures.0, c.stat.ensures.1, c.number_outcome.ensures ∙ ap number_outcome c.stat.ensures.2)

pub returns-in-StatManifest : goal.returns-in-StatManifest
returns-in-StatManifest g c = rw c.in-StatManifest.is (c.stat_manifest.ensures.0, c.stat_manifest.ensures.1, c.number_outcome-in-StatManifest.ensures ∙ ap number_outcome c.stat_manifest.ensures.2)

pub returns-in-FreeSlots : goal.returns-in-FreeSlots
returns-in-FreeSlots g c = rw c.in-FreeSlots.is (c.free_slots.ensures.0, c.free_slots.ensures.1, ap (λ n. QueryNumbers n 0) (c.from.ensures ∙ c.free_slots.ensures.2))

pub returns-in-Usage : goal.returns-in-Usage
returns-in-Usage g c = rw c.in-Usage.is (c.usage.ensures.0, c.usage.ensures.1, c.usage_outcome.ensures ∙ ap usage_outcome c.usage.ensures.2)

pub returns-in-SlotUse : goal.returns-in-SlotUse
returns-in-SlotUse g c = rw c.in-SlotUse.is (c.slot_use.ensures.0, c.slot_use.ensures.1, c.slot_use_outcome.ensures ∙ ap slot_use_outcome c.slot_use.ensures.2)

pub returns-in-RepoCount : goal.returns-in-RepoCount
returns-in-RepoCount g c = rw c.in-RepoCount.is (c.repo_count.ensures.0, c.repo_count.ensures.1, c.number_outcome-in-RepoCount.ensures ∙ ap number_outcome c.repo_count.ensures.2)

pub returns-in-SyncCount : goal.returns-in-SyncCount
returns-in-SyncCount g c = rw c.in-SyncCount.is (c.sync_count.result, refl)
