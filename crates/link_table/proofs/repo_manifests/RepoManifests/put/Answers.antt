use Rattle.std.proofs.Common.{◌≡◌, ◌<◌, ◌≤◌, refl, sym, ap, ◌∙◌, arith, false, Some, Ok}
use Rattle.std.specs.FinMap.{get, len, contains_key, insert}
use Rattle.blob_digest.specs.Digests.{sha256_text}
use Rattle.spec_lib.proofs.Options.{some_same, no_value as is_none}
use Rattle.oci_manifest.specs.Manifests.{refs_of}
use Rattle.link_table.specs.Manifests.{stored_manifests, has_pair}
use Rattle.link_table.proofs.ManifestRows.{put_there, put_full, put_new, contains-stored_manifests, len-stored_manifests, unreferred, stored_manifests-insert, stored_manifests-same, IsReferrerIndex-insert, undone}
use Rattle.link_table.proofs.repo_manifests.RepoManifests.put.Goals as goal

pub returns-then-contains_key : goal.returns-then-contains_key
returns-then-contains_key c = rw (← c.self.view_is) (put_there c.args.limit (stored_manifests c.self.inside.rows) c.args.manifest.value (sym (contains-stored_manifests c.self.inside.rows (sha256_text c.args.manifest.value)) ∙ (rw (c.digest-digest.ensures, c.deref.ensures) at (sym c.contains_key.ensures ∙ c.if-contains_key.true))))

pub returns-then-len-limit : goal.returns-then-len-limit
returns-then-len-limit c =
    let d : c.digest-digest.result ≡ sha256_text c.args.manifest.value = c.digest-digest.ensures ∙ ap sha256_text c.deref.ensures in
    let none : contains_key (stored_manifests c.self.inside.rows) (sha256_text c.args.manifest.value) ≡ false = ap (contains_key (stored_manifests c.self.inside.rows)) (sym d) ∙ sym (contains-stored_manifests c.self.inside.rows c.digest-digest.result) ∙ sym c.contains_key.ensures ∙ c.if-contains_key.false in
    let many : c.args.limit ≤ len (stored_manifests c.self.inside.rows) = omega (arith, len-stored_manifests c.self.inside.rows c.len.ensures.ordered, c.len.ensures.len, c.if-len-limit.true) in
    (λ _. rw (← c.self.view_is) (put_full c.args.limit (stored_manifests c.self.inside.rows) c.args.manifest.value none many), refl)

pub refer-requires : goal.refer-requires
refer-requires c =
    let rows = c.self.inside.rows in
    let none = is_none (get (stored_manifests rows) c.digest-digest.result) (sym (contains-stored_manifests rows c.digest-digest.result) ∙ sym c.contains_key.ensures ∙ c.if-contains_key.false) in
    let is : refs_of c.args.manifest.value ≡ Some c.refs.result.now = ap refs_of (sym c.deref-2.ensures) ∙ c.refs.ensures in
    unreferred (stored_manifests rows) c.digest-digest.result c.args.manifest.value c.refs.result.now is c.self.inside.referrers c.self.inside.referrers c.self.invariant none

pub invariant_of-self-in-Ok : goal.invariant_of-self-in-Ok
invariant_of-self-in-Ok c d o =
    let rows = c.self.inside.rows in
    let none = is_none (get (stored_manifests rows) c.digest-digest.result) (sym (contains-stored_manifests rows c.digest-digest.result) ∙ sym c.contains_key.ensures ∙ c.if-contains_key.false) in
    let is : refs_of c.args.manifest.value ≡ Some c.refs.result.now = ap refs_of (sym c.deref-2.ensures) ∙ c.refs.ensures in
    let put = stored_manifests-insert rows c.insert.new.self c.digest-digest.result c.args.manifest c.in-Ok.ensures.updates.0 in
    IsReferrerIndex-insert (stored_manifests rows) c.digest-digest.result c.args.manifest.value c.refs.result.now is c.self.inside.referrers c.refer.new.referrers c.self.invariant none c.in_ok-refer.ensures.ok d o
    ∙ ap (λ m. has_pair m d o) (sym put)

pub returns-in-Ok : goal.returns-in-Ok
returns-in-Ok c =
    let rows = c.self.inside.rows in
    let d : c.digest-digest.result ≡ sha256_text c.args.manifest.value = c.digest-digest.ensures ∙ ap sha256_text c.deref.ensures in
    let none : contains_key (stored_manifests rows) (sha256_text c.args.manifest.value) ≡ false = ap (contains_key (stored_manifests rows)) (sym d) ∙ sym (contains-stored_manifests rows c.digest-digest.result) ∙ sym c.contains_key.ensures ∙ c.if-contains_key.false in
    let few : len (stored_manifests rows) < c.args.limit = omega (arith, len-stored_manifests rows c.len.ensures.ordered, c.len.ensures.len, c.if-len-limit.false) in
    let put = stored_manifests-insert rows c.insert.new.self c.digest-digest.result c.args.manifest c.in-Ok.ensures.updates.0 in
    rw (← c.self.view_is) (put_new c.args.limit (stored_manifests rows) c.args.manifest.value none few ∙ (λ i. Ok (tt {0}, insert (stored_manifests rows) (sym d i) c.args.manifest.value)) ∙ (λ i. Ok (tt {0}, sym put i)))

pub invariant_of-self-in-Err : goal.invariant_of-self-in-Err
invariant_of-self-in-Err c d o =
    let rows = c.self.inside.rows in
    let none = is_none (get (stored_manifests rows) c.digest-digest.result) (sym (contains-stored_manifests rows c.digest-digest.result) ∙ sym c.contains_key.ensures ∙ c.if-contains_key.false) in
    let is : refs_of c.args.manifest.value ≡ Some c.refs.result.now = ap refs_of (sym c.deref-2.ensures) ∙ c.refs.ensures in
    let back : c.deref-in-Err.result.now ≡ c.args.manifest.value = c.deref-in-Err.ensures ∙ ap (λ p. p.1.value) c.in-Err.ensures.value_returned in
    let again : refs_of c.args.manifest.value ≡ Some c.refs-in-Err.result.now = ap refs_of (sym back) ∙ c.refs-in-Err.ensures in
    let same : c.refs-in-Err.result.now ≡ c.refs.result.now = some_same (sym again ∙ is) in
    let less = rw same at c.forget.ensures in
    undone c.refs.result.now c.digest-digest.result c.self.inside.referrers c.refer.new.referrers c.forget.new.referrers
    (unreferred (stored_manifests rows) c.digest-digest.result c.args.manifest.value c.refs.result.now is c.self.inside.referrers c.self.inside.referrers c.self.invariant none) c.in_ok-refer.ensures.ok less d o
    ∙ c.self.invariant d o ∙ ap (λ m. has_pair m d o) (sym (stored_manifests-same rows c.insert.new.self c.in-Err.ensures.err))
