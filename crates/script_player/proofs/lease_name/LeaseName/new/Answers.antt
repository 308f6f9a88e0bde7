use Rattle.std.proofs.Common.{◌≡◌, ◌-◌, ◌≤◌, ◌++◌, ℕ, ap, arith, drop, length, length-append, refl, replicate}
use Rattle.std.proofs.lemmas.List.{drop-replicate, length-replicate, take_at}
use Rattle.spec_lib.specs.Texts.{Text}
use Rattle.script_player.specs.LeaseNames.{IsPadded, padded_name}
use Rattle.script_player.proofs.lease_name.LeaseName.new.Goals as goal

-- a name at the head of 32 zeros
in_zeros : (name : Text) → length name ≤ 32 → IsPadded (length name) (name ++ drop {A = ℕ} (length name) (replicate 32 0))
in_zeros name within =
    let behind : drop {A = ℕ} (length name) (replicate 32 0) ≡ replicate (32 - length name) 0 = drop-replicate (length name) 32 0 in
    let size = length-append name (replicate (32 - length name) 0) in
    let zeros = length-replicate {A = ℕ} (32 - length name) 0 in
    rw behind (record {
      within = within;
      whole = omega (arith, size, zeros);
      padding = ap padded_name (take_at name (replicate (32 - length name) 0) (length name) refl);
    })

pub invariant_of-result : goal.invariant_of-result
invariant_of-result c = rw c.copy_from_slice.ensures.after (in_zeros c.args.name.now c.requires)
