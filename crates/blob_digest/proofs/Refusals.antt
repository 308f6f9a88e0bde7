-- A refusal is `Memory` or another one.
use Rattle.std.proofs.Common.{◌≡◌, ◌≢◌, refl, inl, inr}
use Rattle.std.specs.Prelude.{◌⊎◌}
use Rattle.blob_digest.specs.declared.refusal.Refusal.{Refusal}
use Rattle.blob_digest.specs.declared.refusal.Refusal.TheVariants.{Memory}

pub is_memory : (e : Refusal) → (e ≡ Memory) ⊎ (e ≢ Memory)
is_memory Memory = inl refl
is_memory e = inr (λ h. absurd cc)
