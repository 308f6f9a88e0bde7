-- The results of the calls on a tenant's repositories.
use Rattle.std.proofs.Common.{◌≡◌, ℕ, ◌<◌, ◌≤◌, true, false, not, Result, Ok, Err, refl, ap}
use Rattle.std.specs.Prelude.{OnOk, OnErr, nat_le}
use Rattle.std.specs.Cmp.Lexicographic.{nat_list_cmp_total}
use Rattle.std.proofs.lemmas.Bool.{le-leb, lt-leb, and_from, and_left, and_right}
use Rattle.std.proofs.lemmas.Map.Lookups.{exact_bytes}
use Rattle.spec_lib.specs.Sets as set
use Rattle.spec_lib.specs.Texts.{Text}
use Rattle.blob_digest.specs.declared.refusal.Refusal.TheVariants.{LimitReached}
use Rattle.spec_lib.proofs.Sets.{insert_there}
use Rattle.link_table.specs.TenantRepos.{OwnRepos, appear_on, repo_count}

pub appear_there : (n : ℕ) (s : OwnRepos) (q : Text) → set.contains s.repos q ≡ true → appear_on n s q ≡ Ok (false, s)
appear_there n s q there =
    let h = and_left (not (set.contains s.repos q)) (nat_le n (repo_count s)) (ap not there) in
    let same = insert_there nat_list_cmp_total exact_bytes s.repos q there in
    rw (h, there) (λ i. Ok (false, record { repos = same i; links = s.links }))

pub appear_full : (n : ℕ) (s : OwnRepos) (q : Text) → set.contains s.repos q ≡ false → n ≤ repo_count s → appear_on n s q ≡ Err LimitReached
appear_full n s q none many = rw (and_from (not (set.contains s.repos q)) (nat_le n (repo_count s)) (ap not none) (le-leb n (repo_count s) many)) refl

pub appear_new : (n : ℕ) (s : OwnRepos) (q : Text) → set.contains s.repos q ≡ false → repo_count s < n → appear_on n s q ≡ Ok (true, record s { repos = set.insert s.repos q })
appear_new n s q none few = rw (and_right (not (set.contains s.repos q)) (nat_le n (repo_count s)) (lt-leb n (repo_count s) few), none) refl

pub on_ok : {A E P Q : Type 0} (r : Result A E) → (P → Q) → OnOk r P → OnOk r Q
on_ok (Ok x) gives h = gives h
on_ok (Err e) gives h = h

pub on_err : {A E P Q : Type 0} (r : Result A E) → (P → Q) → OnErr r P → OnErr r Q
on_err (Ok x) gives h = h
on_err (Err e) gives h = gives h
