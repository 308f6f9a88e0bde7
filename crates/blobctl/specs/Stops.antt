-- The text and the exit status of a stop before the run.
use Rattle.std.specs.Prelude.{⊤, ◌≡◌, ◌≢◌, ℕ, codes, string_bytes}
use Rattle.clap.specs.declared.error.kind.ErrorKind.{ErrorKind}
use Rattle.clap.specs.declared.error.kind.ErrorKind.TheVariants.{DisplayHelp, OutOfMemory}
use Rattle.spec_lib.specs.Texts.{Text}
use Rattle.tenant_args.specs.declared.fault.TenantFault.{TenantFault}
use Rattle.tenant_args.specs.declared.fault.TenantFault.TheVariants as words
use Rattle.blobctl.specs.declared.options.Stop.{Stop}
use Rattle.blobctl.specs.declared.options.Stop.TheVariants.{Help, Usage, BadTenant, NotUtf8, Memory}

-- the printed text
abbrev pub stop_text : Stop → Text
stop_text (Help text) = string_bytes text
stop_text (Usage text) = string_bytes text
stop_text BadTenant = codes "blobctl: bad tenant\n"
stop_text NotUtf8 = codes "blobctl: argument is not UTF-8\n"
stop_text Memory = codes "blobctl: out of memory\n"

-- the exit status
abbrev pub stop_status : Stop → ℕ
stop_status (Help text) = 0
stop_status (Usage text) = 2
stop_status BadTenant = 2
stop_status NotUtf8 = 2
stop_status Memory = 5

-- the stop for a fault of the tenants' words
abbrev pub tenant_stop : TenantFault → Stop
tenant_stop words.BadTenant = BadTenant
tenant_stop words.Memory = Memory

-- the stop is one for an error of `clap` of this kind; `Memory` may replace either text
abbrev pub IsStopFor : ErrorKind → Stop → Type 0
IsStopFor kind (Help text) = kind ≡ DisplayHelp
IsStopFor kind (Usage text) = (kind ≢ DisplayHelp) × (kind ≢ OutOfMemory)
IsStopFor kind BadTenant = ⊥
IsStopFor kind NotUtf8 = ⊥
IsStopFor kind Memory = ⊤
