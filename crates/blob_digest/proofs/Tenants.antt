-- The limits that a tenant has unless it is given others are supported.
use Rattle.std.proofs.Common.{arith}
use Rattle.blob_digest.specs.Tenants.{AreSupported, usual_limits}

pub usual_supported : AreSupported usual_limits
usual_supported = record { repos = omega arith; manifests = omega arith; sessions = omega arith }
