-- The texts and exit statuses of a program that stops before it serves all connections.
use Rattle.std.specs.Prelude.{ℕ, Bool, true, false, Option, Some, None, ◌++◌, codes}
use Rattle.spec_lib.specs.Texts.{Text}
use Rattle.blob_digest.specs.declared.refusal.Refusal.{Refusal}
use Rattle.blob_digest.specs.declared.refusal.Refusal.TheVariants as refused
use Rattle.server_cli.specs.declared.need.Need.{Need}
use Rattle.server_cli.specs.declared.need.Need.TheVariants as need
use Rattle.tenant_args.specs.declared.fault.TenantFault.{TenantFault}
use Rattle.tenant_args.specs.declared.fault.TenantFault.TheVariants as words
use Rattle.server_cli.specs.declared.stop.Stop.{Stop}
use Rattle.server_cli.specs.declared.stop.Stop.TheVariants.{Usage, File, Memory, Folder, Held, Lost, Damaged, Missing, LogFailed, Settings}

-- the text for wrong arguments
abbrev pub usage_text : Text
usage_text = codes "usage: blobd [--data DIR [--sync closes|each|never] [--accept-loss-after BYTE] [--sha512]] SLOTS MAX_BLOB TENANT=QUOTA[,BLOBS[,REPOS,MANIFESTS,UPLOADS]].. [-- IN OUT [IN OUT]..]\n"

-- the text that is printed, if it does not depend on the operating system or on the bytes of a log
abbrev pub stop_text : Stop → Option Text
stop_text Usage = Some usage_text
stop_text Memory = Some (codes "blobd: out of memory\n")
stop_text (Held folder) = Some (codes "blobd: another process has " ++ folder.now ++ codes "/lock\n")
stop_text (Lost folder) = Some (codes "blobd: another process has taken over " ++ folder.now ++ codes "\n")
stop_text stop = None

-- the exit status
abbrev pub stop_status : Stop → ℕ
stop_status Usage = 2
stop_status (File path error) = 3
stop_status Memory = 5
stop_status (Folder action folder file error) = 6
stop_status (Held folder) = 7
stop_status (Lost folder) = 7
stop_status (Damaged folder place damage) = 8
stop_status (Missing folder count) = 8
stop_status (LogFailed folder error) = 9
stop_status (Settings folder place name need) = 10

-- the store that wrote the log had other settings
abbrev pub is_settings : Stop → Bool
is_settings (Settings folder place name need) = true
is_settings stop = false

-- the setting for which a store refuses a change
abbrev pub need_of : Refusal → Option Need
need_of refused.NameUnknown = Some need.Tenant
need_of (refused.Quota used quota) = Some (need.Quota quota)
need_of refused.LimitReached = Some need.Share
need_of refused.StoreFull = Some need.Slots
need_of refused.SizeInvalid = Some need.MaxBlob
need_of refusal = None

-- the stop for tenants that are refused
abbrev pub tenant_stop : TenantFault → Stop
tenant_stop words.BadTenant = Usage
tenant_stop words.Memory = Memory
