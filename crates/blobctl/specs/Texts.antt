-- The texts that the program prints in addition to its output, and its exit statuses.
use Rattle.std.specs.Prelude.{ℕ, ◌≡◌, ◌++◌, String, codes, string_bytes}
use Rattle.std.specs.Fmt.{decimal}
use Rattle.std.specs.declared.alloc.Global.{Global}
use Rattle.spec_lib.specs.Texts.{Text}
use Rattle.blobctl.specs.declared.fault.Fault.{Fault}
use Rattle.blobctl.specs.declared.fault.Fault.TheVariants.{BadRow, Read, Write, Memory}

-- the text of a fault
abbrev pub fault_text : Fault → Text
fault_text (BadRow n) = codes "blobctl: bad row " ++ decimal n ++ codes "\n"
fault_text Read = codes "blobctl: read fault\n"
fault_text Write = codes "blobctl: write fault\n"
fault_text Memory = codes "blobctl: out of memory\n"

-- the exit status of a fault
abbrev pub fault_status : Fault → ℕ
fault_status (BadRow n) = 1
fault_status Read = 3
fault_status Write = 4
fault_status Memory = 5

-- the string grew by this text
abbrev pub GrewBy : String Global → String Global → Text → Type 0
GrewBy old new text = string_bytes new ≡ string_bytes old ++ text
